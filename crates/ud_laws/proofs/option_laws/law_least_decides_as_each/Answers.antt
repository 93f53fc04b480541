-- The least value counts only where it gives what each greater one gives.
use Rattle.ud_laws.proofs.conditions.LeastValues.{value_alike, condition_alike}
use Rattle.ud_laws.proofs.option_laws.law_least_decides_as_each.Goals as goal

pub returns-clause-value : goal.returns-clause-value
returns-clause-value c = λ t u h s e n v. value_alike t u h s e n v

pub returns-clause-cond : goal.returns-clause-cond
returns-clause-cond c = λ t u h k text r n. condition_alike t u h k text r n
