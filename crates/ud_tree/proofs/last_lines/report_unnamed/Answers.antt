-- By whether there are faults.
use Rattle.std.proofs.Common.{sym}
use Rattle.ud_tree.proofs.ReportLemmas.{says_none, says_same}
use Rattle.ud_tree.proofs.SummaryLemmas.{unnamed_none, unnamed_told}
use Rattle.ud_tree.proofs.last_lines.report_unnamed.Goals as goal

pub returns-then-faults-gt0 : goal.returns-then-faults-gt0
returns-then-faults-gt0 g c = λ hidden. says_same (sym (unnamed_none c.args.job.now.arguments.now c.args.faults _ c.if-faults-gt0.true)) (says_none _ hidden)

pub returns : goal.returns
returns g c = λ hidden. says_same (unnamed_told c.args.job.now.arguments.now c.args.faults _ c.if-faults-gt0.false) (c.report_unnamed.ensures hidden)
