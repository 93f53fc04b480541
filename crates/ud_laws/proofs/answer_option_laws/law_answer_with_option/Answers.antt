-- The option changes no entry but that of its own symbol.
use Rattle.ud_laws.proofs.output.OptionAnswers.{answered_with_added}
use Rattle.ud_laws.proofs.answer_option_laws.law_answer_with_option.Goals as goal

pub returns : goal.returns
returns c = λ args more name input a adds never s. answered_with_added adds never s
