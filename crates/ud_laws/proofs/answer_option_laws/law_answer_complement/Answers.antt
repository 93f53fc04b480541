-- `-c` before the arguments is the complement of what they say.
use Rattle.ud_laws.proofs.output.FlagArguments.{complements}
use Rattle.ud_laws.proofs.output.OptionAnswers.{answered_message, answered_shared}
use Rattle.ud_laws.proofs.answer_option_laws.law_answer_complement.Goals as goal

pub returns-clause-words : goal.returns-clause-words
returns-clause-words c = λ args. complements args

pub returns-clause-message : goal.returns-clause-message
returns-clause-message c = λ args input a k w right. answered_message w.decides right w.answer w.complement

pub returns-clause-shared : goal.returns-clause-shared
returns-clause-shared c = λ args input js a k w j. answered_shared w.decides j.no_fault j.judged w.answer w.complement
