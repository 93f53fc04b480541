-- By whether conditions are pruned.
use Rattle.std.proofs.Common.{sym}
use Rattle.ud_tree.proofs.ReportLemmas.{says_none, says_same}
use Rattle.ud_tree.proofs.SummaryLemmas.{edited_none, edited_told}
use Rattle.ud_tree.proofs.last_lines.report_edited.Goals as goal

pub returns-then-not-prunes : goal.returns-then-not-prunes
returns-then-not-prunes g c = λ hidden. says_same (sym (edited_none c.args.prunes c.args.count c.if-not-prunes.true)) (says_none _ hidden)

pub returns : goal.returns
returns g c = λ hidden. says_same (edited_told c.args.prunes c.args.count _ c.if-not-prunes.false c.plural-text.ensures) c.report_number.ensures
