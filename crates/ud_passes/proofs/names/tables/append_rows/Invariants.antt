-- The lines of the rows so far were appended.
use Rattle.std.proofs.Common.{◌≡◌, ◌++◌, map, take}
use Rattle.ud_passes.specs.names.NameTables.{table_text}
use Rattle.ud_passes.specs.names.RowViews.{as_count}
use Rattle.ud_passes.proofs.names.tables.append_rows.Given as goal

abbrev pub invariant-loop-row : goal.invariant-loop-row
invariant-loop-row l = l.out.items ≡ l.fn.out.items ++ table_text (map as_count (take l.row-index l.rows))
