-- By the task.
use Rattle.std.proofs.Common.{sym, ap}
use Rattle.ud_tree.specs.declared.arguments.Task.{Task}
use Rattle.ud_tree.specs.Summaries.{summary}
use Rattle.ud_tree.proofs.ReportLemmas.{says_same}
use Rattle.ud_tree.proofs.last_lines.report_counts.Goals as goal

pub returns-in-Replace : goal.returns-in-Replace
returns-in-Replace g c =
    let p = c.args.processed.now in
    says_same (ap (λ (t : Task). summary t c.args.arguments.now.list_hidden p.counts.changed p.counts.unchanged p.faults p.hidden) (sym c.in-Replace.is)) c.report_changes.ensures

pub returns-in-Diff : goal.returns-in-Diff
returns-in-Diff g c =
    let p = c.args.processed.now in
    says_same (ap (λ (t : Task). summary t c.args.arguments.now.list_hidden p.counts.changed p.counts.unchanged p.faults p.hidden) (sym c.in-Diff.is)) c.report_changes-in-Diff.ensures

pub returns-in-Names : goal.returns-in-Names
returns-in-Names g c =
    let p = c.args.processed.now in
    says_same (ap (λ (t : Task). summary t c.args.arguments.now.list_hidden p.counts.changed p.counts.unchanged p.faults p.hidden) (sym c.in-Names.is)) c.report_listed.ensures
