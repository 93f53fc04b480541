-- By whether the conditions are listed, and by their number.
use Rattle.std.proofs.Common.{sym, ap, ◌∙◌, arith}
use Rattle.ud_tree.specs.Summaries.{remaining_line}
use Rattle.ud_tree.proofs.ReportLemmas.{says_none, says_same}
use Rattle.ud_tree.proofs.SummaryLemmas.{remaining_listed, remaining_told}
use Rattle.ud_tree.proofs.last_lines.report_remaining.Goals as goal

pub returns-then-arguments : goal.returns-then-arguments
returns-then-arguments g c = λ hidden.
    says_same (remaining_listed c.args.arguments.now.list_remaining _ _ c.if-arguments.true c.plural-text.ensures
    ∙ ap (remaining_line c.args.arguments.now.list_remaining) c.remaining-count.ensures) c.report_number.ensures

pub returns-then-count-eq0 : goal.returns-then-count-eq0
returns-then-count-eq0 g c = λ hidden.
    says_same (sym (grind (arith, sym c.remaining-count.ensures ∙ c.if-count-eq0.true, c.if-arguments.false))) (says_none _ hidden)

pub returns : goal.returns
returns g c = λ hidden.
    says_same (remaining_told c.args.arguments.now.list_remaining _ _ _ c.if-arguments.false c.if-count-eq0.false
    c.plural-text.ensures c.hint.ensures ∙ ap (remaining_line c.args.arguments.now.list_remaining) c.remaining-count.ensures)
    c.report_number-2.ensures
