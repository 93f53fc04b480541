-- Whole lines at the beginning of the next window.
use Rattle.std.proofs.Common.{◌≡◌, ◌≤◌, ◌-◌, ℕ, List, length, ap, subst, take, drop, arith}
use Rattle.ud_model.specs.text.Lines.{NoNewline}
use Rattle.ud_text.proofs.lemmas.lines.BorrowLemmas.{none_here}
use Rattle.std.proofs.lemmas.List.{take_rest}
use Rattle.std.proofs.lemmas.Grind.{common_steps}
use Rattle.ud_model.specs.declared.limits.TheConstants.{MAX_LINE_BYTES}
use Rattle.ud_text.specs.bulk.BulkLexemes.{at_start}
use Rattle.ud_text.specs.lines.Consuming.{FirstIsLong}
use Rattle.ud_text.proofs.lemmas.bulk.BulkPlainLemmas.{begins_ends}
use Rattle.ud_text.proofs.lemmas.lines.ConsumeLemmas.{more_end, more_fit, short_fit}
use Rattle.ud_text.proofs.lines.newlines.whole_lines_len.Goals as goal

pub loop-at-init : goal.loop-at-init
loop-at-init c = record {
  within = omega arith;
  ends = begins_ends _ at_start;
  fits = short_fit _ (omega arith);
}

pub loop-at-preserved : goal.loop-at-preserved
loop-at-preserved c = let short : c.min.result ≤ MAX_LINE_BYTES = omega (arith, c.min.ensures) in
    let is = ap (take c.min.result) (take_rest c.args.chunk.now c.loop-at.at) in
    record {
      within = grind (arith, common_steps, c.last_line_start-count.ensures.within);
      ends = more_end c.args.chunk.now c.loop-at.at c.last_line_start-count.result c.min.result _ is short c.last_line_start-count.ensures c.loop-at.invariant.ends;
      fits =
          more_fit c.args.chunk.now c.loop-at.at c.last_line_start-count.result c.min.result _ is short c.last_line_start-count.ensures c.loop-at.invariant.ends
          c.loop-at.invariant.fits;
    }

pub returns-then-count-eq0-clause-longest : goal.returns-then-count-eq0-clause-longest
returns-then-count-eq0-clause-longest c =
    let rest : List ℕ = take (length c.args.chunk.now - c.loop-at.at) (drop c.loop-at.at c.args.chunk.now) in
    let begin : c.last_line_start-count.result ≡ 0 = c.if-count-eq0.true in
    let none : NoNewline (take c.min.result rest) = subst (λ (n : ℕ). NoNewline (drop n (take c.min.result rest))) begin c.last_line_start-count.ensures.one_line in
    subst FirstIsLong (take_rest c.args.chunk.now c.loop-at.at)
    (none_here rest c.min.result c.min.ensures none)
