-- Symbols: the text that a defined name resolves to.
-- unifdef(1); C11 6.10.3.4: a name in a macro's replacement is replaced again.
--
-- A path from name to name that never ends is a cycle. It has more steps than the table has
-- arguments. A name that leads to a cycle or to an undefined name resolves to nothing.
--
-- Example: with A as B and B as 5, A resolves to 5. With A as B and B as A, it resolves to nothing.
use Rattle.std.specs.Prelude.{◌≡◌, ℕ, zero, suc, List, length, true, false, Option, Some, None}
use Rattle.std.specs.Prelude.{if◌then◌else◌}
use Rattle.ud_model.specs.text.Bytes.{is_identifier}
use Rattle.ud_model.specs.conditions.Table.{Argument, Entry, entry_in}

-- `text_in entry`: the text of an entry that defines its name, or None.
abbrev pub text_in : Option Entry → Option (List ℕ)
text_in None = None
text_in (Some e) = e.value

-- `defined_text table n`: the text that `table` gives the name `n`, if it defines it.
abbrev pub defined_text : List Argument → List ℕ → Option (List ℕ)
defined_text table n = text_in (entry_in table n)

-- `ResolvesTo table n v`: the name `n` is defined as `v`, which is no identifier, or as an
-- identifier that resolves to `v`.
pub data ResolvesTo (table : List Argument) : List ℕ → List ℕ → Type 0 where
  at_text : (n v : List ℕ) → defined_text table n ≡ Some v → is_identifier v ≡ false →
      ResolvesTo table n v
  by_name : (n m v : List ℕ) → defined_text table n ≡ Some m → is_identifier m ≡ true →
      ResolvesTo table m v → ResolvesTo table n v

-- `on_text further text`: the end of the path that has reached `text`: `text` itself if it is no
-- identifier, else what `further` finds.
abbrev pub on_text : (List ℕ → Option (List ℕ)) → Option (List ℕ) → Option (List ℕ)
on_text further None = None
on_text further (Some v) = if is_identifier v then further v else Some v

-- `resolve_within k table n`: the text that `n` resolves to in at most `k` steps, if any.
abbrev pub resolve_within : ℕ → List Argument → List ℕ → Option (List ℕ)
resolve_within zero table n = None
resolve_within (suc k) table n = on_text (λ v. resolve_within k table v) (defined_text table n)

-- `resolve table n`: the text that `n` resolves to, if any. No path that ends has more steps than
-- the table has arguments.
unfoldable pub resolve : List Argument → List ℕ → Option (List ℕ)
resolve table n = resolve_within (length table) table n
