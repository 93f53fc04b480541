use Rattle.ud_tree.proofs.ReportLemmas.{says_none, says_cleared}
use Rattle.ud_tree.proofs.report.Report.clear.Goals as goal

pub returns-then-not-self : goal.returns-then-not-self
returns-then-not-self g c = rw (← c.self.view_is) (says_none _ c.if-not-self.true)

pub returns : goal.returns
returns g c = rw (← c.self.view_is) (says_cleared _ c.if-not-self.false)
