-- By the last rule that matches.
use Rattle.std.proofs.Common.{ap, sym, ◌∙◌}
use Rattle.ud_tree.specs.Choices.{is_fresh}
use Rattle.ud_tree.proofs.ChoiceLemmas.{chooses_decided, chooses_usual}
use Rattle.ud_tree.proofs.patterns.chooses.Goals as goal

pub returns-in-Some : goal.returns-in-Some
returns-in-Some c = chooses_decided c.in-Some.effect (ap is_fresh (sym c.last_name-name.ensures) ∙ sym c.is_fresh.ensures ∙ c.if-is_fresh.false) c.in-Some.is c.last_effect.ensures c.chooses.ensures

pub returns-in-None : goal.returns-in-None
returns-in-None c = chooses_usual c.is_usual.result (ap is_fresh (sym c.last_name-name.ensures) ∙ sym c.is_fresh.ensures ∙ c.if-is_fresh.false) c.in-None.is c.last_effect.ensures
    (rw c.last_name-name.ensures at c.is_usual.ensures)
