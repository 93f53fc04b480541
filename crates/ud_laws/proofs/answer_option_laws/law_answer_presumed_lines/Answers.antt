-- Each line that is counted has its presumed number.
use Rattle.ud_laws.proofs.output.OptionAnswers.{answered_presumed, answered_line_numbers}
use Rattle.ud_laws.proofs.output.OwnNumbers.{own_numbers}
use Rattle.ud_laws.proofs.answer_option_laws.law_answer_presumed_lines.Goals as goal

pub returns-clause-presumed : goal.returns-clause-presumed
returns-clause-presumed c = λ args more input js a d w j none ps sure n p. answered_presumed w.plain j.no_fault w.keeps j.judged w.answer w.numbered none ps sure n p

pub returns-clause-selected : goal.returns-clause-selected
returns-clause-selected c = λ args more input js a d w j none vs i x. answered_line_numbers w.plain j.no_fault w.keeps j.judged w.answer w.numbered none vs i x

pub returns-clause-own : goal.returns-clause-own
returns-clause-own c = λ mode text none ps sure n p. own_numbers mode text none ps sure n p
