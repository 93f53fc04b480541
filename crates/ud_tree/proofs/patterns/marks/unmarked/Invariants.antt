use Rattle.std.proofs.Common.{◌≡◌, ◌++◌, map, drop, string_bytes}
use Rattle.ud_tree.specs.Unmatched.{quoted, unmarked_in}
use Rattle.ud_tree.proofs.patterns.marks.unmarked.Given as goal

abbrev pub invariant-loop-i : goal.invariant-loop-i
invariant-loop-i l = map (λ r. r.items) l.rules.items ++ map quoted (unmarked_in (drop l.i (map string_bytes l.patterns)) (drop l.i l.marks)) ≡ map quoted (unmarked_in (map string_bytes l.patterns) l.marks)
