use Rattle.std.proofs.Common.{arith, sym}
use Rattle.ud_tree.proofs.ReportLemmas.{says_none, says_same}
use Rattle.ud_tree.proofs.report.Report.report_rules.Goals as goal

pub returns-then-job-clause-said : goal.returns-then-job-clause-said
returns-then-job-clause-said g c = λ hidden. says_same (sym (grind (arith, c.if-job.true))) (says_none _ hidden)
