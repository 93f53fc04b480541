use Rattle.std.proofs.Common.{refl, []}
use Rattle.ud_tree.proofs.ReportLemmas.{tells_none, tells_terminal}
use Rattle.ud_tree.proofs.report.Report.progress.Goals as goal

pub returns-then-not-self : goal.returns-then-not-self
returns-then-not-self g c = tells_none c.args.self.now

pub returns-then-done-eq0 : goal.returns-then-done-eq0
returns-then-done-eq0 g c = rw (← c.self.view_is) (tells_terminal [] c.if-not-self.false (record { remaining = refl; unnamed = refl; lost = refl }))

pub returns-else-done-eq0 : goal.returns-else-done-eq0
returns-else-done-eq0 g c = tells_none c.args.self.now
