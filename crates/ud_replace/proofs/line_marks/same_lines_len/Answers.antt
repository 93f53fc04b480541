-- Equal bytes have equal whole lines.
use Rattle.ud_text.specs.bulk.BulkLexemes.{at_start}
use Rattle.ud_replace.proofs.MarkLemmas.{same_cut, within_both}
use Rattle.ud_replace.proofs.line_marks.same_lines_len.Goals as goal

pub returns-then-are_same-clause-within : goal.returns-then-are_same-clause-within
returns-then-are_same-clause-within c = within_both _ _ _ _ (c.are_same.ensures c.if-are_same.true) c.last_line_start.ensures.within

pub returns-then-are_same-clause-same : goal.returns-then-are_same-clause-same
returns-then-are_same-clause-same c = same_cut _ _ _ _ (c.are_same.ensures c.if-are_same.true) c.last_line_start.ensures.within

pub returns-else-are_same-clause-whole : goal.returns-else-are_same-clause-whole
returns-else-are_same-clause-whole c = at_start
