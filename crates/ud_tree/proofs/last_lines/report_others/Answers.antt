-- There is a file.
use Rattle.ud_tree.proofs.ReportLemmas.{says_same}
use Rattle.ud_tree.proofs.SummaryLemmas.{others_told}
use Rattle.ud_tree.proofs.last_lines.report_others.Goals as goal

pub returns : goal.returns
returns g c = λ hidden.
    says_same (others_told c.args.others.now c.in-Some.first.now _ _ (rw c.in-Some.is at c.first.ensures.value) c.plural-text.ensures c.as_bytes.ensures.value) c.report_number.ensures
