-- StableLemmas: calls that are sorted by their names, stably, give each name the same entry.
use Rattle.std.proofs.Common.{◌≡◌, ◌∙◌, List, [], ◌∷◌, Bool, if◌then◌else◌, Option, Some, None, bytes_eq, refl, sym, ap, is_lt, arith}
use Rattle.std.specs.List.{filter}
use Rattle.std.specs.List.Sorted.{IsStableBy, ties}
use Rattle.std.proofs.lemmas.Cmp.{tied_itself}
use Rattle.std.proofs.lemmas.Slice.Eq.{bytes_eq-Decides}
use Rattle.ud_model.specs.conditions.Table.{Argument, Entry, entry_from}
use Rattle.ud_cond.specs.symbols.SymbolTable.{TableRepresents, name_cmp, no_row}
use Rattle.ud_cond.proofs.lemmas.symbols.SortedLemmas.{name_total}

-- The name of a call comes before that of another.
abbrev pub comes_before : Argument → Argument → Bool
comes_before x y = is_lt (name_cmp x.name y.name)

filtered_by : (x a : Argument) (rows : List Argument) (e : Option Entry) →
    ((f : Option Entry) → entry_from f (filter (ties comes_before x) rows) x.name ≡ entry_from f rows x.name) → (b : Bool) → ties comes_before x a ≡ b →
    entry_from e (if b then a ∷ filter (ties comes_before x) rows else filter (ties comes_before x) rows) x.name
    ≡ entry_from (if bytes_eq a.name x.name then Some a.entry else e) rows x.name
filtered_by x a rows e further b t = grind (arith, tied_itself, name_total, bytes_eq-Decides)

-- The calls that tie with a call have the entry of its name.
entry_from-filter : (x : Argument) (rows : List Argument) (e : Option Entry) → entry_from e (filter (ties comes_before x) rows) x.name ≡ entry_from e rows x.name
entry_from-filter x [] e = refl
entry_from-filter x (a ∷ rows) e = filtered_by x a rows e (λ f. entry_from-filter x rows f) (ties comes_before x a) refl

-- So the sorted calls represent the calls as they came.
pub stable_represents : (old new : List Argument) → IsStableBy comes_before old new → TableRepresents new old
stable_represents old new h name =
    let x : Argument = record { name = name; entry = no_row.entry } in
    sym (entry_from-filter x new None) ∙ ap (λ rows. entry_from None rows name) (h x) ∙ entry_from-filter x old None
