-- The lines that are inserted lie between those of the output without them.
use Rattle.ud_laws.proofs.output.FlagArguments.{keeps_with_n, keeps_with_b}
use Rattle.ud_laws.proofs.output.OptionAnswers.{answered_counted, answered_selects_numbered}
use Rattle.ud_laws.proofs.answer_option_laws.law_answer_numbers.Goals as goal

pub returns-clause-renumbers : goal.returns-clause-renumbers
returns-clause-renumbers c = λ args right. keeps_with_n args right

pub returns-clause-blanks : goal.returns-clause-blanks
returns-clause-blanks c = λ args right. keeps_with_b args right

pub returns-clause-counted : goal.returns-clause-counted
returns-clause-counted c = λ args more input js a k w j. answered_counted w.plain j.no_fault w.keeps j.judged w.answer w.numbered

pub returns-clause-selects : goal.returns-clause-selects
returns-clause-selects c = λ args more input a k r n. answered_selects_numbered r n
