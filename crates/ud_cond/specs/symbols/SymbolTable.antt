-- SymbolTable: the calls that a table of symbols represents, and the order of its rows.
-- `ud_model.specs.conditions.Table` defines the entry that a list of calls gives a name.
-- (unifdef(1), `-D`, `-U`, `-iD`, `-iU`).
use Rattle.std.specs.Prelude.{◌≡◌, ℕ, ◌<◌, ◌≤◌, List, [], ◌++◌, length, get_or, None, Some}
use Rattle.std.specs.Prelude.{bytes_eq, false, if◌then◌else◌, ◌⊎◌}
use Rattle.std.specs.Ordering.{nat_cmp, ordering_then}
use Rattle.std.specs.declared.cmp.Ordering.{Ordering}
use Rattle.std.specs.declared.cmp.Ordering.TheVariants.{Less, Greater}
use Rattle.std.specs.Cmp.Lexicographic.{slice_cmp}
use Rattle.memchr.specs.Find.{OccursAt}
use Rattle.ud_model.specs.conditions.Table.{Argument, entry_in}
use Rattle.ud_cond.specs.symbols.Keys.{key_of}
use Rattle.ud_cond.specs.declared.symbols.TheConstants.{FEW_NAMES}

-- `TableRepresents table calls`: the table gives each name the entry that the accepted calls so far
-- give it.
abbrev pub TableRepresents : List Argument → List Argument → Type 0
TableRepresents table calls = (name : List ℕ) → entry_in table name ≡ entry_in calls name

-- `SetsEntry old new a`: the new table has the entry of `a` for its name, and the old table's entry
-- for each other name.
abbrev pub SetsEntry : List Argument → List Argument → Argument → Type 0
SetsEntry old new a = (name : List ℕ) →
    entry_in new name ≡ (if bytes_eq a.name name then Some a.entry else entry_in old name)

-- `same_key_cmp m n`: the order of names with the same key: by length, then by bytes.
abbrev pub same_key_cmp : List ℕ → List ℕ → Ordering
same_key_cmp m n = ordering_then (nat_cmp (length m) (length n)) (slice_cmp nat_cmp m n)

-- `name_cmp m n`: the order of names: by key, then by length, then by bytes.
abbrev pub name_cmp : List ℕ → List ℕ → Ordering
name_cmp m n = ordering_then (nat_cmp (key_of m) (key_of n)) (same_key_cmp m n)

-- `no_row`: a placeholder where there is no row.
abbrev pub no_row : Argument
no_row = record { name = []; entry = record { value = None; ignoring = false } }

-- `name_at rows i`: the name of row `i`.
abbrev pub name_at : List Argument → ℕ → List ℕ
name_at rows i = (get_or rows i no_row).name

-- `AreSorted rows`: the name of each row comes before the names of the rows after it.
abbrev pub AreSorted : List Argument → Type 0
AreSorted rows = (i j : ℕ) → i < j → j < length rows →
    name_cmp (name_at rows i) (name_at rows j) ≡ Less

-- `IsRowOf rows i name`: row `i` is the name's.
pub record IsRowOf (rows : List Argument) (i : ℕ) (name : List ℕ) : Type 0 where
  pub within : i < length rows
  pub named : name_at rows i ≡ name

-- `IsGapFor rows i name`: the name comes after the names of the rows before position `i`, and
-- before all others.
pub record IsGapFor (rows : List Argument) (i : ℕ) (name : List ℕ) : Type 0 where
  pub within : i ≤ length rows
  pub after : (k : ℕ) → k < i → name_cmp (name_at rows k) name ≡ Less
  pub before : (k : ℕ) → i ≤ k → k < length rows → name_cmp (name_at rows k) name ≡ Greater

-- `LacksNames table text`: no name to which the table gives an entry stands in the text, not even
-- within a word.
abbrev pub LacksNames : List Argument → List ℕ → Type 0
LacksNames table text = (before name after : List ℕ) → text ≡ before ++ (name ++ after) →
    entry_in table name ≡ None

-- `MustSearch rows text`: there are more than `FEW_NAMES` rows, or the name of one stands in the
-- text.
abbrev pub MustSearch : List Argument → List ℕ → Type 0
MustSearch rows text = (FEW_NAMES < length rows) ⊎
    ((i k : ℕ) × (i < length rows) × OccursAt text (name_at rows i) k)
