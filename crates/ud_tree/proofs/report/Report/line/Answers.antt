use Rattle.ud_tree.proofs.ReportLemmas.{says_sent}
use Rattle.ud_tree.proofs.report.Report.line.Goals as goal

pub returns : goal.returns
returns g c = says_sent (rw (← c.self.view_is) at c.clear.ensures) c.report_line.ensures
