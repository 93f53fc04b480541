-- A logical line begins, or the line is appended.
use Rattle.std.proofs.Common.{sym, ◌∙◌}
use Rattle.ud_model.specs.aids.LineViews.{as_line, as_scan}
use Rattle.ud_model.specs.declared.kind.Mode.TheVariants.{C}
use Rattle.ud_passes.specs.Walks.{reading_at}
use Rattle.ud_passes.proofs.FoldLemmas.{takes_line, takes_begun, begins_parts}
use Rattle.ud_passes.proofs.folding.logical.LogicalLine.take_first.Goals as goal

pub returns-then-begins : goal.returns-then-begins
returns-then-begins c = λ n s.
    let p = begins_parts _ _ _ (sym c.begins.ensures ∙ c.if-begins.true) in
    takes_begun (reading_at C (as_line c.args.line.now) (as_scan c.args.scan.now) n) c.args.out.now.items _ _ (c.in_ok-last.ensures n p.2 s) p.0 p.1

pub returns : goal.returns
returns c = λ n s.
    takes_line (reading_at C (as_line c.args.line.now) (as_scan c.args.scan.now) n) c.args.out.now.items c.args.self.now _ c.in_ok-append_line.ensures (sym c.begins.ensures ∙ c.if-begins.false)
