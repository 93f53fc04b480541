use Rattle.std.proofs.Common.{◌≡◌, ◌++◌, true, false, bytes_eq, refl, sym, ap, not, ◌∙◌, arith}
use Rattle.std.proofs.lemmas.Slice.Eq.{bytes_eq-Decides}
use Rattle.ud_io.proofs.StreamLemmas.{takes_both}
use Rattle.ud_engine.proofs.LineOutputLemmas.{left_is_line}
use Rattle.ud_engine.proofs.line_processor.append_line_output.Goals as goal

pub returns-then-left-line : goal.returns-then-left-line
returns-then-left-line g c =
    let same : bytes_eq c.args.left.now (c.args.line.now.body.now ++ c.args.line.now.ending.now) ≡ true = sym (left_is_line c.args.left.now c.args.line.now.body.now c.args.line.now.ending.now c.requires.left) ∙ grind (arith, c.if-left-line.true) in (
      sym (ap not same),
      (refl, refl, (bytes_eq-Decides c.args.left.now _).0 same),
    )

pub returns : goal.returns
returns g c = let differs : bytes_eq c.args.left.now (c.args.line.now.body.now ++ c.args.line.now.ending.now) ≡ false =
    sym (left_is_line c.args.left.now c.args.line.now.body.now c.args.line.now.ending.now c.requires.left) ∙ grind (arith, c.if-left-line.false) in (
      sym (ap not differs),
      takes_both c.args.out.now.failed c.append.new.out.failed c.append-2.new.out.failed (g.W.Write.contents c.args.out.now.inner) (g.W.Write.contents c.append.new.out.inner) (g.W.Write.contents c.append-2.new.out.inner)
          c.args.output.now c.append.new.self c.append-2.new.self c.args.pending.now c.args.left.now c.append.ensures c.append-2.ensures,
    )
