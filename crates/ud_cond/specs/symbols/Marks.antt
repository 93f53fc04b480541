-- Marks: which rows of a table are marked. Each row has one mark, in the order of the rows.
--
-- Example: of the rows of A and B with the marks true and false, only A's is marked.
use Rattle.std.specs.Prelude.{◌≡◌, ℕ, List, Bool, false, not, ◌&&◌, bytes_eq, get_or}
use Rattle.std.specs.List.{position_or_len}
use Rattle.ud_model.specs.conditions.Conditions.{is_listed}
use Rattle.ud_model.specs.conditions.Table.{Argument}

-- `row_of rows name`: the position of the name's row, or the number of rows if there is none.
abbrev pub row_of : List Argument → List ℕ → ℕ
row_of rows name = position_or_len (λ r. bytes_eq r.name name) rows

-- `is_marked rows marks name`: the name has a row, and its mark is set.
abbrev pub is_marked : List Argument → List Bool → List ℕ → Bool
is_marked rows marks name = is_listed rows name && get_or marks (row_of rows name) false

-- `Unmarks rows p old new`: the rows whose names pass the test `p` lost their marks, and no other
-- row.
abbrev pub Unmarks : List Argument → (List ℕ → Bool) → List Bool → List Bool → Type 0
Unmarks rows p old new =
    (name : List ℕ) → is_marked rows new name ≡ (is_marked rows old name && not (p name))
