use Rattle.ud_tree.proofs.SummaryLemmas.{line_sent}
use Rattle.ud_tree.proofs.report.send_line.Goals as goal

pub returns : goal.returns
returns g c = line_sent _ c.send.ensures c.send_visible_parts.ensures c.send-2.ensures
