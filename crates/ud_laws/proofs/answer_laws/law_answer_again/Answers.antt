use Rattle.ud_laws.proofs.output.AnswerLaws.{answered_again}
use Rattle.ud_laws.proofs.answer_laws.law_answer_again.Goals as goal

pub returns : goal.returns
returns c = λ args input a s p fit. answered_again s.answer s.no_fault p fit
