-- By the parts of the line.
use Rattle.std.proofs.Common.{◌∙◌}
use Rattle.ud_tree.proofs.SummaryLemmas.{listed_joined}
use Rattle.ud_tree.proofs.ReportLemmas.{says_same}
use Rattle.ud_tree.proofs.last_lines.report_listed.Goals as goal

pub returns : goal.returns
returns g c = let p = c.args.processed.now in says_same
    (listed_joined c.args.lists_hidden p.counts.changed p.counts.unchanged p.faults p.hidden
    c.as_bytes-listed.result.now c.as_bytes-faulty.result.now c.as_bytes-unlisted.result.now c.plural.result.now
    c.plural-text.result.now c.hint.result.now
    (c.as_bytes-listed.ensures.value ∙ c.format.ensures.text)
    (c.as_bytes-faulty.ensures.value ∙ c.format-2.ensures.text)
    (c.as_bytes-unlisted.ensures.value ∙ c.format-3.ensures.text) c.plural.ensures c.plural-text.ensures c.hint.ensures)
    c.line.ensures
