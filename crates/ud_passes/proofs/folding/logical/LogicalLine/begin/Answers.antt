-- The first line.
use Rattle.std.proofs.Common.{◌++◌, List, ℕ, ◌∙◌, ap}
use Rattle.ud_model.specs.aids.LineViews.{as_line, as_scan}
use Rattle.ud_model.specs.text.Lines.{text_of}
use Rattle.ud_model.specs.declared.kind.Mode.TheVariants.{C}
use Rattle.ud_passes.specs.Walks.{reading_at}
use Rattle.ud_passes.proofs.FoldLemmas.{last_is, logical_begins}
use Rattle.ud_passes.proofs.folding.logical.LogicalLine.begin.Goals as goal

pub returns : goal.returns
returns c = λ n d s.
    logical_begins _ _ (reading_at C (as_line c.args.line.now) (as_scan c.args.scan.now) n) (last_is _ c.args.line.now c.args.scan.now n c.last_line.ensures s c.requires.one_line) d
    (c.in_ok-append_line.ensures ∙ ap (λ (x : List ℕ). x ++ text_of (as_line c.args.line.now)) c.clear.ensures.items)
    c.clear-2.ensures.items
    (c.in_ok-extend_from_slice.ensures.items ∙ ap (λ (x : List ℕ). x ++ c.args.scan.now.masked.now) c.clear-3.ensures.items)
