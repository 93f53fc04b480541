-- NameTables: how often each name of a list occurs, as a table.
-- unifdef(1), `-s`; uniq(1), `-c`.
--
-- Example: the table of the lines `A`, `B`, `C` and `B` has the rows 2 of B, 1 of A and 1 of C. The
-- first is printed as six spaces, `2`, a space and `B`.
use Rattle.std.specs.Prelude.{◌≡◌, ℕ, ◌-◌, List, ◌++◌, map, length, min, replicate, bytes_eq}
use Rattle.std.specs.Prelude.{codes, decimal, count_by}
use Rattle.std.specs.List.{All, flat_map}
use Rattle.std.specs.List.Sorted.{IsSorted}
use Rattle.std.specs.Cmp.Lexicographic.{slice_cmp}
use Rattle.std.specs.declared.cmp.Ordering.{Ordering}
use Rattle.std.specs.Ordering.{nat_cmp, ordering_then}
use Rattle.ud_model.specs.text.Lines.{Line, lines_of}

-- `body_of l`: the bytes of the line `l`, without its ending.
abbrev pub body_of : Line → List ℕ
body_of l = l.body

-- `names_in list`: the names of a list, each a line.
abbrev pub names_in : List ℕ → List (List ℕ)
names_in list = map body_of (lines_of list)

-- `count_of name names`: how often `names` has `name`.
abbrev pub count_of : List ℕ → List (List ℕ) → ℕ
count_of name names = count_by (λ n. bytes_eq n name) names

-- `NameCount`: a name, and how often it occurs.
pub record NameCount : Type 0 where
  pub count : ℕ
  pub name : List ℕ

-- `row_cmp a b`: which of the two rows comes first: the one with the greater count; for equal
-- counts, the one whose name comes first by its bytes.
abbrev pub row_cmp : NameCount → NameCount → Ordering
row_cmp a b = ordering_then (nat_cmp b.count a.count) (slice_cmp nat_cmp a.name b.name)

-- `rows_with name rows`: how many of the rows are of `name`.
abbrev pub rows_with : List ℕ → List NameCount → ℕ
rows_with name rows = count_by (λ r. bytes_eq r.name name) rows

-- `IsTable names rows`: the rows are the table of `names`. Each row has the count of its name.
-- There is one row for each name that occurs, and no other row. The rows are in order.
pub record IsTable (names : List (List ℕ)) (rows : List NameCount) : Type 0 where
  pub counts : All (λ r. r.count ≡ count_of r.name names) rows
  pub once : (name : List ℕ) → rows_with name rows ≡ min 1 (count_of name names)
  pub ordered : IsSorted row_cmp rows

-- `row_line r`: the line of a row: the count in at least 7 columns, a space, and the name.
abbrev pub row_line : NameCount → List ℕ
row_line r = replicate (7 - length (decimal r.count)) 32 ++ decimal r.count ++ codes " " ++
    r.name ++ codes "\n"

-- `table_text rows`: the lines of the rows.
abbrev pub table_text : List NameCount → List ℕ
table_text rows = flat_map row_line rows

-- `Tabulates names old new`: the table of `names` was appended to the bytes `old`, which are then
-- `new`.
pub record Tabulates (names : List (List ℕ)) (old new : List ℕ) : Type 0 where
  pub rows : List NameCount
  pub is_table : IsTable names rows
  pub appended : new ≡ old ++ table_text rows
