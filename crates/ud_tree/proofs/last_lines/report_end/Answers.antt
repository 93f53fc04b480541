use Rattle.std.proofs.Common.{List, Bool, ap, ◌∙◌}
use Rattle.ud_tree.specs.Runs.{names_of}
use Rattle.ud_tree.specs.declared.walk.Found.{Found}
use Rattle.ud_passes.specs.remaining.RemainingLists.{RemainingState}
use Rattle.ud_tree.specs.Summaries.{defined_line, others_line, remaining_line, still_unnamed, unnamed_lines}
use Rattle.ud_tree.proofs.ReportLemmas.{says_same, says_then}
use Rattle.ud_tree.proofs.SummaryLemmas.{ends_quiet, ends_told}
use Rattle.ud_tree.proofs.last_lines.report_end.Goals as goal

pub returns-then-job-clause-tells : goal.returns-then-job-clause-tells
returns-then-job-clause-tells g c = ends_quiet c.args.job.now.arguments.now c.args.processed.now c.args.report.now c.if-job.true

pub returns-clause-tells : goal.returns-clause-tells
returns-clause-tells g c = let a = c.report_counts.ensures in
    let b = c.report_removed.ensures a.hidden in
    let d = c.report_edited.ensures b.hidden in
    let e = c.report_remaining.ensures d.hidden in
    let f = c.report_defined.ensures e.hidden in
    let h = c.report_unnamed.ensures f.hidden in
    let o = c.report_others.ensures h.hidden in
    let u = c.report_unsearched.ensures o.hidden in
    let names = f.keeps.unnamed ∙ e.keeps.unnamed ∙ d.keeps.unnamed ∙ b.keeps.unnamed ∙ a.keeps.unnamed in
    let same = d.keeps.remaining ∙ b.keeps.remaining ∙ a.keeps.remaining in
    ends_told c.args.job.now.arguments.now c.args.processed.now c.if-job.false
    (says_then (says_then (says_then (says_then (says_then (says_then (says_then a b) d) (says_same (ap (λ (m : RemainingState). remaining_line c.args.job.now.arguments.now.list_remaining m.count) same) e))
    (says_same (ap (λ (m : RemainingState). defined_line c.args.job.now.arguments.now.list_remaining m.defined) (e.keeps.remaining ∙ same)) f)) (says_same (ap (λ (m : List Bool). unnamed_lines c.args.job.now.arguments.now c.args.processed.now.faults (still_unnamed c.args.job.now.arguments.now m)) names) h)) (says_same (ap (λ (fs : List Found). others_line (names_of fs)) c.as_slice.ensures.value) o)) u)

pub returns-clause-unshown : goal.returns-clause-unshown
returns-clause-unshown g c = λ loud.
    let a = c.report_counts.ensures in
    let b = c.report_removed.ensures a.hidden in
    let d = c.report_edited.ensures b.hidden in
    let e = c.report_remaining.ensures d.hidden in
    let f = c.report_defined.ensures e.hidden in
    let h = c.report_unnamed.ensures f.hidden in
    let o = c.report_others.ensures h.hidden in
    (c.report_unsearched.ensures o.hidden).hidden
