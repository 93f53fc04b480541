use Rattle.ud_laws.proofs.output.LiveAnswers.{answered_without}
use Rattle.ud_laws.proofs.answer_laws.law_answer_symbol_is_gone.Goals as goal

pub returns : goal.returns
returns c = λ args input a s p name u. answered_without s.answer s.no_fault p.plain name u
