use Rattle.std.proofs.Common.{map, string_bytes}
use Rattle.ud_tree.proofs.UnmatchedLemmas.{MarksFirst}
use Rattle.ud_tree.proofs.patterns.marks.mark.Given as goal

abbrev pub invariant-loop-i : goal.invariant-loop-i
invariant-loop-i l = MarksFirst l.i l.kind l.below (map string_bytes l.patterns) l.fn.marks.items l.marks.items
