use Rattle.ud_laws.proofs.output.LiveAnswers.{answered_live, answered_c_live}
use Rattle.ud_laws.proofs.answer_laws.law_answer_only_dead.Goals as goal

pub returns-clause-live : goal.returns-clause-live
returns-clause-live c = λ args input a s p. answered_live s.answer s.no_fault p

pub returns-clause-in_c : goal.returns-clause-in_c
returns-clause-in_c c = λ args input a s. answered_c_live s.answer s.no_fault
