-- The line joins the next one, or is masked otherwise.
use Rattle.std.proofs.Common.{sym, ◌∙◌}
use Rattle.std.proofs.lemmas.Bool.{not-true}
use Rattle.ud_model.specs.aids.LineViews.{as_scan}
use Rattle.ud_passes.proofs.ShownLemmas.{joins_next, other_bytes}
use Rattle.ud_passes.proofs.folding.shown.is_shown_as.Goals as goal

pub returns-then-scan : goal.returns-then-scan
returns-then-scan c = sym (joins_next (as_scan c.args.scan.now) c.args.shown.now c.if-scan.true)

pub returns-then-ne : goal.returns-then-ne
returns-then-ne c = sym (other_bytes (as_scan c.args.scan.now) c.args.shown.now (not-true _ (sym c.ne.ensures ∙ c.if-ne.true)))
