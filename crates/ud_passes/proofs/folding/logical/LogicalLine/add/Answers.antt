-- A line more.
use Rattle.std.proofs.Common.{◌++◌, ◌∷◌, [], List, ℕ, ◌∙◌, ap}
use Rattle.ud_model.specs.aids.LineViews.{as_line, as_scan}
use Rattle.ud_model.specs.declared.kind.Mode.TheVariants.{C}
use Rattle.ud_passes.specs.Walks.{reading_at}
use Rattle.ud_passes.proofs.FoldLemmas.{last_is, logical_more}
use Rattle.ud_passes.proofs.folding.logical.LogicalLine.add.Goals as goal

pub returns : goal.returns
returns c = λ n group i e s.
    logical_more c.args.self.now _ c.args.last.now _ group (reading_at C (as_line c.args.line.now) (as_scan c.args.scan.now) n) c.kept_body.result.now c.masked_break.result.now i
    (last_is _ c.args.line.now c.args.scan.now n c.last_line.ensures s c.requires.one_line) e c.kept_body.ensures c.masked_break.ensures
    c.in_ok-append_line.ensures
    (c.in_ok-push.ensures.items ∙ ap (λ (x : List ℕ). x ++ 11 ∷ []) c.in_ok-extend_from_slice.ensures.items)
    (c.in_ok-extend_from_slice-3.ensures.items ∙ ap (λ (x : List ℕ). x ++ c.args.scan.now.masked.now) c.in_ok-extend_from_slice-2.ensures.items)
