-- Answers have the lines of outcomes.
use Rattle.ud_laws.proofs.output.OptionAnswers.{answered_as_many, answered_places}
use Rattle.ud_laws.proofs.answer_option_laws.law_answer_in_place.Goals as goal

pub returns-clause-as_many : goal.returns-clause-as_many
returns-clause-as_many c = λ args input a b whole s. answered_as_many b.blank b.unlisted b.padded whole s.answer s.no_fault

pub returns-clause-places : goal.returns-clause-places
returns-clause-places c = λ args input js a b j k. answered_places b j.no_fault j.judged k
