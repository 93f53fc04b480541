-- The table: the symbols that the options name.
-- unifdef(1), `-D`, `-U`, `-iD`, `-iU`: of several options that name a symbol, the last one counts.
use Rattle.std.specs.Prelude.{◌≡◌, ℕ, List, [], ◌∷◌, Bool, Option, Some, None, bytes_eq}
use Rattle.std.specs.Prelude.{if◌then◌else◌}

-- An option's entry for a name: the name's value, or None if the name is undefined; and whether the
-- sections that it controls are plain text.
pub record Entry : Type 0 where
  pub value : Option (List ℕ)
  pub ignoring : Bool

-- A name, and the entry that an option gives it.
pub record Argument : Type 0 where
  pub name : List ℕ
  pub entry : Entry

-- `entry_from earlier arguments name`: the entry of `name` after these arguments, if `earlier` is
-- its entry before them.
abbrev pub entry_from : Option Entry → List Argument → List ℕ → Option Entry
entry_from earlier [] name = earlier
entry_from earlier (a ∷ more) name =
    entry_from (if bytes_eq a.name name then Some a.entry else earlier) more name

-- `entry_in table name`: the entry of the last argument in `table` that names `name`. None if the
-- name is unlisted.
abbrev pub entry_in : List Argument → List ℕ → Option Entry
entry_in table name = entry_from None table name

-- `HaveSameEntries t u`: the tables have the same entry for each name.
abbrev pub HaveSameEntries : List Argument → List Argument → Type 0
HaveSameEntries t u = (name : List ℕ) → entry_in t name ≡ entry_in u name
