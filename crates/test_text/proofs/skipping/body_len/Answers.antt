-- One byte more.
use Rattle.std.proofs.Common.{sym, subst, take, get_or, [], ◌∷◌, arith}
use Rattle.std.proofs.lemmas.List.{take_more}
use Rattle.ud_model.specs.text.Lines.{NoNewline}
use Rattle.ud_model.proofs.text.LinesLemmas.{no_newline-append}
use Rattle.test_text.proofs.skipping.body_len.Goals as goal

pub loop-at-preserved : goal.loop-at-preserved
loop-at-preserved c = record {
  within = omega arith;
  one_line = subst NoNewline (sym (take_more c.args.bytes.now c.loop-at.at 0 c.loop-at-test.true))
      (no_newline-append (take c.loop-at.at c.args.bytes.now) (get_or c.args.bytes.now c.loop-at.at 0 ∷ []) c.loop-at.invariant.one_line (c.if-bytes-at-eq10.false, tt));
}
