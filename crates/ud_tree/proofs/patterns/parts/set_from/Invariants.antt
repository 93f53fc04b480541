use Rattle.std.proofs.Common.{◌≡◌, ℕ, ◌≤◌, length}
use Rattle.ud_tree.specs.Patterns.{set_from, set_within}
use Rattle.ud_tree.proofs.patterns.parts.set_from.Given as goal

abbrev pub invariant-items : goal.invariant-items
invariant-items l = (n : ℕ) × (length l.rest ≤ n) × (set_from l.text l.byte ≡ set_within n l.first l.found l.rest l.byte)

abbrev pub decreases-items : goal.decreases-items
decreases-items l = length l.rest
