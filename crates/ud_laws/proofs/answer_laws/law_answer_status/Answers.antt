use Rattle.ud_laws.proofs.output.AnswerLaws.{answered_status}
use Rattle.ud_laws.proofs.answer_laws.law_answer_status.Goals as goal

pub returns : goal.returns
returns c = λ args input a s p. answered_status s.answer s.no_fault p.unnumbered p.unlisted
