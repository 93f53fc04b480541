-- Marks: the position of the first byte that passes a test.
use Rattle.std.proofs.Common.{ℕ, Bool, not, length, List, ◌≤◌}
use Rattle.std.specs.List.{position_or_len}
use Rattle.std.proofs.lemmas.List.Sums.{prefix_len-le-length}

-- the first position lies within the bytes, or after them
pub position_or_len-bound : (p : ℕ → Bool) (bytes : List ℕ) → position_or_len p bytes ≤ length bytes
position_or_len-bound p bytes = prefix_len-le-length (λ b. not (p b)) bytes
