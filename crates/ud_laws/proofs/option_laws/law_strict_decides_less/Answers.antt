-- An operand that is unknown leaves `&&` and `||` unknown under `-K`.
use Rattle.ud_laws.proofs.conditions.StrictLess.{value_keeps, cond_keeps}
use Rattle.ud_laws.proofs.option_laws.law_strict_decides_less.Goals as goal

pub returns-clause-value : goal.returns-clause-value
returns-clause-value c = λ table e h. value_keeps table e h

pub returns-clause-cond : goal.returns-clause-cond
returns-clause-cond c = λ table e rules n. cond_keeps table e rules.constants n
