-- RowViews: the program's rows, as rows of the definitions.
use Rattle.std.specs.Prelude.{◌≡◌, ℕ, List, min}
use Rattle.std.specs.List.{All}
use Rattle.ud_passes.specs.declared.names.tables.Row.{Row}
use Rattle.ud_passes.specs.names.NameTables.{NameCount, count_of, rows_with}

-- `as_count r`: the row with its count and its name.
abbrev pub as_count : Row → NameCount
as_count r = record { count = r.count; name = r.name.now }

-- `AreCounts names rows`: each row has the count of its name, and there is one for each name.
pub record AreCounts (names : List (List ℕ)) (rows : List NameCount) : Type 0 where
  pub counts : All (λ r. r.count ≡ count_of r.name names) rows
  pub once : (name : List ℕ) → rows_with name rows ≡ min 1 (count_of name names)
