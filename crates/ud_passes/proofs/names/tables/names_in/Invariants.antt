-- The names of the lines so far.
use Rattle.std.proofs.Common.{◌≡◌, ◌<◌, ℕ, List, ◌++◌, map, length}
use Rattle.ud_text.specs.bulk.BulkScanning.{AreWholeLines}
use Rattle.ud_passes.specs.names.NameTables.{names_in}
use Rattle.ud_passes.proofs.names.tables.names_in.Given as goal

abbrev pub invariant-loop-rest : goal.invariant-loop-rest
invariant-loop-rest l =
    (done : List ℕ) × (done ++ l.rest ≡ l.list) × (0 < length l.rest → AreWholeLines done) × (map (λ n. n.now) l.names.items ≡ names_in done)

abbrev pub decreases-loop-rest : goal.decreases-loop-rest
decreases-loop-rest l = length l.rest
