-- The outcome stays, or is squeezed.
use Rattle.std.proofs.Common.{ap, sym, ◌∙◌, arith, refl}
use Rattle.ud_model.specs.declared.settings.Settings.{Settings}
use Rattle.ud_replace.specs.TextOutcomes.{is_off}
use Rattle.ud_replace.proofs.TextLemmas.{whole, is_squeezed}
use Rattle.ud_replace.proofs.outcome.squeezed.Goals as goal
use Rattle.ud_replace.proofs.outcome.squeezed.Goals.{then-not-plan-via-then-not-plan, then-not-plan-via-else-not-plan+then-not-lines, then-not-plan-via-else-not-plan+else-not-lines+then-not-lists_none}

pub returns-then-not-plan : goal.returns-then-not-plan
returns-then-not-plan c = λ o p m. elim c.then-not-plan.branch [
  | then-not-plan-via-then-not-plan w ↦ whole o m (grind (arith, p.squeezes, w.if-not-plan.true))
  | then-not-plan-via-else-not-plan+then-not-lines w ↦ whole o m (grind (arith, m.differs_is, w.if-not-lines.true))
  | then-not-plan-via-else-not-plan+else-not-lines+then-not-lists_none w ↦
      whole o m (grind (arith, ap (λ (s : Settings). is_off s.listing) (p.settings ∙ sym w.settings.ensures) ∙ sym w.lists_none.ensures, w.if-not-lists_none.true))
]

pub returns : goal.returns
returns c = λ o p m.
    is_squeezed o m (p.squeezes ∙ c.if-not-plan.false) (grind (arith, c.if-not-plan.false)) c.if-not-lines.false
    (ap (λ (s : Settings). is_off s.listing) (p.settings ∙ sym c.settings.ensures) ∙ sym c.lists_none.ensures ∙ c.if-not-lists_none.false)
    c.output_for.ensures c.as_slice.ensures.value c.in_ok-squeezed.ensures.text c.in_ok-squeezed.ensures.marks refl refl
