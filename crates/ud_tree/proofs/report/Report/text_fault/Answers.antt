use Rattle.std.proofs.Common.{◌≡◌, arith}
use Rattle.std.proofs.lemmas.Grind.{common_steps}
use Rattle.ud_tree.specs.Visible.{visible}
use Rattle.ud_tree.proofs.VisibleLemmas.{text_raw, text_visible, written_all}
use Rattle.ud_tree.proofs.ReportLemmas.{says_sent, says_tells, tells_counted}
use Rattle.ud_tree.proofs.report.Report.text_fault.Goals as goal

pub returns-then-failed : goal.returns-then-failed
returns-then-failed g c = text_raw c.args.path.now c.args.fault (tells_counted (says_tells (says_sent (rw (c.count.ensures, ← c.self.view_is) at c.clear.ensures) c.report_text.ensures)))

pub returns : goal.returns
returns g c =
    let is : c.as_slice.result.now ≡ visible c.args.path.now = grind (arith, common_steps, written_all) in
    text_visible c.args.path.now _ c.args.fault is (tells_counted (says_tells (says_sent (rw (c.count.ensures, ← c.self.view_is) at c.clear.ensures) c.report_text-2.ensures)))
