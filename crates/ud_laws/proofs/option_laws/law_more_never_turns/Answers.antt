-- Each operand stays or becomes unknown, and one that decides gives what both give.
use Rattle.ud_laws.proofs.conditions.NeverTurns.{value_after, cond_after}
use Rattle.ud_laws.proofs.option_laws.law_more_never_turns.Goals as goal

pub returns-clause-value : goal.returns-clause-value
returns-clause-value c = λ t u more s e h. value_after t u more s e h

pub returns-clause-cond : goal.returns-clause-cond
returns-clause-cond c = λ t u more e r n. cond_after t u more e r n
