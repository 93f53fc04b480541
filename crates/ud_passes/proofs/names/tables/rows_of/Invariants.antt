-- A row for each of the names so far.
use Rattle.std.proofs.Common.{◌≤◌, ◌-◌, map, length}
use Rattle.ud_passes.specs.names.RowViews.{as_count}
use Rattle.ud_passes.proofs.TableLemmas.{RowsAt}
use Rattle.ud_passes.proofs.names.tables.rows_of.Given as goal

abbrev pub invariant-loop-start : goal.invariant-loop-start
invariant-loop-start l = (l.start ≤ length l.names) × RowsAt (λ n. n.now) l.names (map as_count l.rows.items) l.start

abbrev pub decreases-loop-start : goal.decreases-loop-start
decreases-loop-start l = length l.names - l.start
