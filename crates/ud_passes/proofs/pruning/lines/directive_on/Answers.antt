-- A directive of another kind stays.
use Rattle.std.proofs.Common.{◌∙◌, sym, ap}
use Rattle.ud_model.specs.aids.LineViews.{as_scan}
use Rattle.ud_model.specs.sections.Directives.{Content}
use Rattle.ud_simplified.specs.SimplifiedTexts.{line_by}
use Rattle.ud_sections.specs.directives.ParsedDirectives.{as_directive, directive_or_text}
use Rattle.ud_passes.proofs.EditLemmas.{other_stays}
use Rattle.ud_passes.proofs.pruning.lines.directive_on.Goals as goal

pub returns-else-same_kind-clause-none : goal.returns-else-same_kind-clause-none
returns-else-same_kind-clause-none c = λ table rules l.
    ap (λ (x : Content). line_by table rules (as_scan c.args.scan.now) l x) (sym c.in-Ok-Some.ensures.value ∙ ap directive_or_text c.in-Ok-Some.field-0-is)
    ∙ other_stays table rules l (as_scan c.args.scan.now) (as_directive c.in-Ok-Some.found) (sym c.same_kind.ensures ∙ c.if-same_kind.false)
