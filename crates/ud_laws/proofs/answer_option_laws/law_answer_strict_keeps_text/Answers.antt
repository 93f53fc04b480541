-- `-K` before the arguments keeps what they keep.
use Rattle.ud_laws.proofs.output.FlagArguments.{is_strict}
use Rattle.ud_laws.proofs.output.OptionAnswers.{answered_keeps, answered_all, answered_output}
use Rattle.ud_laws.proofs.answer_option_laws.law_answer_strict_keeps_text.Goals as goal

pub returns-clause-words : goal.returns-clause-words
returns-clause-words c = λ args. is_strict args

pub returns-clause-text : goal.returns-clause-text
returns-clause-text c = λ args input js ks j k. answered_keeps args input j.judged k.judged

pub returns-clause-all : goal.returns-clause-all
returns-clause-all c = λ args input js a j s. answered_all j.judged s.answer s.no_fault

pub returns-clause-output : goal.returns-clause-output
returns-clause-output c = λ args input js a p j k. answered_output p j.no_fault j.judged k
