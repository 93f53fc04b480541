-- The names so far are the name.
use Rattle.std.proofs.Common.{◌≡◌, ◌<◌, ℕ, List, Bor, bytes_eq, true, slice_index_or}
use Rattle.ud_passes.proofs.names.tables.leading.Given as goal

abbrev pub invariant-loop-at : goal.invariant-loop-at
invariant-loop-at l = (k : ℕ) → k < l.at → (d : Bor (List ℕ)) → bytes_eq (slice_index_or l.names k d).now l.name ≡ true
