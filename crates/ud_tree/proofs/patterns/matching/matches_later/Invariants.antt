use Rattle.std.proofs.Common.{◌+◌, ◌∷◌, length}
use Rattle.std.specs.Prelude.{◌↔◌}
use Rattle.ud_tree.specs.Patterns.{Matches}
use Rattle.ud_tree.proofs.patterns.matching.matches_later.Given as goal

abbrev pub invariant-later : goal.invariant-later
invariant-later l = Matches (42 ∷ l.pattern) l.name ↔ Matches (42 ∷ l.parts) l.bytes

abbrev pub decreases-later : goal.decreases-later
decreases-later l = length l.parts + length l.bytes
