-- By the scan of the first line of a text.
use Rattle.std.proofs.Common.{[], ◌∙◌, ap}
use Rattle.ud_model.specs.text.Scans.{Scan}
use Rattle.ud_simplified.specs.FoldedTexts.{is_shown_as}
use Rattle.ud_passes.proofs.folding.shown.is_shown.Goals as goal

pub returns : goal.returns
returns c = c.is_shown_as.ensures ∙ ap (λ (s : Scan). is_shown_as s c.args.shown.now) (c.read_into-scan.ensures.value [] c.bare-scanner.ensures)
