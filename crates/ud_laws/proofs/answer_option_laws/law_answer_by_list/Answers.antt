-- Both command lines have the same outcome for the input, and no message.
use Rattle.ud_laws.proofs.output.ListAnswers.{answered_by_list}
use Rattle.ud_laws.proofs.output.FlagArguments.{lists_names}
use Rattle.ud_laws.proofs.answer_option_laws.law_answer_by_list.Goals as goal

pub returns-clause-lists : goal.returns-clause-lists
returns-clause-lists c = λ args off. lists_names args off

pub returns-clause-same : goal.returns-clause-same
returns-clause-same c =
    λ args more input l a k s h. answered_by_list k.lists.answer k.lists.no_fault (lists_names args k.no_depths) s.answer
    s.no_fault h.no_fault h.alike.settings h.alike.entries
