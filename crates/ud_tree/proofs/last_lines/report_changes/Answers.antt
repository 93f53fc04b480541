-- By the parts of the line.
use Rattle.std.proofs.Common.{◌∙◌}
use Rattle.ud_tree.proofs.SummaryLemmas.{changes_joined}
use Rattle.ud_tree.proofs.ReportLemmas.{says_same}
use Rattle.ud_tree.proofs.last_lines.report_changes.Goals as goal

pub returns : goal.returns
returns g c = let p = c.args.processed.now in says_same
    (changes_joined p.counts.changed p.counts.unchanged p.faults c.args.word.now c.as_bytes-changed.result.now c.as_bytes-unchanged.result.now c.as_bytes-faulty.result.now
    (c.as_bytes-changed.ensures.value ∙ c.format.ensures.text) (c.as_bytes-unchanged.ensures.value ∙ c.format-2.ensures.text) (c.as_bytes-faulty.ensures.value ∙ c.format-3.ensures.text))
    c.line.ensures
