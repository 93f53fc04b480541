-- By the run over the simplified output.
use Rattle.ud_laws.proofs.output.SimplifiedRuns.{copies_left, answered_left}
use Rattle.ud_laws.proofs.residual_laws.law_answer_simplified.Goals as goal

pub returns-clause-outcome : goal.returns-clause-outcome
returns-clause-outcome c = λ o input r d n p fit. copies_left o p input d n fit

pub returns-clause-answer : goal.returns-clause-answer
returns-clause-answer c = λ args input a s p fit. answered_left s.answer s.no_fault p fit
