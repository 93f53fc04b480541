-- LeastValues: tables in which symbols have numbers in place of their least values.
-- unifdef-tree(1), `-DNAME>=N`.
--
-- Example: where X is 5 or more, the other table may say that X is 7.
use Rattle.std.specs.Prelude.{◌≡◌, ℕ, ℤ, List, Bool, false, Option, Some, ◌≤ℤ◌}
use Rattle.ud_model.specs.conditions.Table.{Argument, Entry, entry_in}
use Rattle.ud_model.specs.conditions.Values.{end_value, end_has_u}
use Rattle.ud_model.specs.declared.amount.Amount.TheVariants.{Exactly, AtLeast}

-- `IsNumberFrom least text`: the text `least` says what number a symbol is at least. `text` is such
-- a number or a greater one. Both have a `u`, or neither.
pub record IsNumberFrom (least text : List ℕ) : Type 0 where
  pub from : ℤ
  pub number : ℤ
  pub is_least : end_value false (Some least) ≡ AtLeast from
  pub is_number : end_value false (Some text) ≡ Exactly number
  pub above : from ≤ℤ number
  pub sign : end_has_u (Some text) ≡ end_has_u (Some least)

-- `Chooses before after`: the entries are the same; or the symbol has a number from its least value
-- on.
pub data Chooses : Option Entry → Option Entry → Type 0 where
  same : {e : Option Entry} → Chooses e e
  number : {least text : List ℕ} {ignoring : Bool} → IsNumberFrom least text →
      Chooses (Some (record { value = Some least; ignoring = ignoring }))
      (Some (record { value = Some text; ignoring = ignoring }))

-- `ChoosesNumbers t u`: the tables have the same entry for each name, but where `t` has the least
-- value of a symbol, `u` may have a number.
abbrev pub ChoosesNumbers : List Argument → List Argument → Type 0
ChoosesNumbers t u = (name : List ℕ) → Chooses (entry_in t name) (entry_in u name)
