-- By the way in which the value comes about.
use Rattle.ud_laws.proofs.conditions.ResidualTruth.{Tells, tells}
use Rattle.ud_laws.proofs.conditions.StayedChoices.{stay_allowed}
use Rattle.ud_laws.proofs.conditions.OneValue.{one_value}
use Rattle.ud_model.specs.aids.Residuals.{residual}
use Rattle.ud_laws.specs.conditions.Choices.{stay}
use Rattle.ud_laws.proofs.residual_laws.law_residual_truth.Goals as goal

pub returns-clause-truth : goal.returns-clause-truth
returns-clause-truth c = λ table rules e m c a d. let t : Tells (residual table rules e) (stay table rules m) c = tells table rules a d in (t.value, t.has, t.same)

pub returns-clause-yes : goal.returns-clause-yes
returns-clause-yes c = λ table rules e m c a d. let t : Tells (residual table rules e) (stay table rules m) c = tells table rules a d in t.yes

pub returns-clause-no : goal.returns-clause-no
returns-clause-no c = λ table rules e m c a d. let t : Tells (residual table rules e) (stay table rules m) c = tells table rules a d in t.no

pub returns-clause-one : goal.returns-clause-one
returns-clause-one c = λ e m x y p q. one_value p q

pub returns-clause-allowed : goal.returns-clause-allowed
returns-clause-allowed c = λ table rules e m p. stay_allowed table rules m p
