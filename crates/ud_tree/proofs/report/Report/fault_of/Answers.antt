use Rattle.ud_tree.proofs.ReportLemmas.{reports_counted}
use Rattle.ud_tree.proofs.report.Report.fault_of.Goals as goal

pub returns : goal.returns
returns g c = reports_counted (rw c.count.ensures at c.line.ensures)
