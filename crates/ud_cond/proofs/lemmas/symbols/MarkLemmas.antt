-- Marks: the mark of a name's row.
use Rattle.std.proofs.Common.{◌≡◌, ◌⊎◌, inl, inr, ◌<◌, ◌≤◌, ℕ, List, length, Bool, true, false, true≢false, not, ◌&&◌, ◌≢◌, None, is_some, bytes_eq, refl, sym, ◌∙◌, ap, arith}
use Rattle.std.proofs.Math.ListN.{set, replicate}
use Rattle.std.proofs.lemmas.Bool.{cases_lt}
use Rattle.std.proofs.lemmas.Grind.{common_steps}
use Rattle.std.proofs.lemmas.List.{get_or-set_other, get_or-set_same, get_or-replicate, set_past}
use Rattle.std.proofs.lemmas.List.Sums.{fails_before_first, passes_at_first, position_or_len_is}
use Rattle.std.proofs.lemmas.Slice.Eq.{bytes_eq-Decides}
use Rattle.ud_model.specs.conditions.Conditions.{is_listed}
use Rattle.ud_model.specs.conditions.Table.{Argument, entry_in}
use Rattle.ud_cond.specs.symbols.Marks.{Unmarks, is_marked, row_of}
use Rattle.ud_cond.specs.symbols.SymbolTable.{AreSorted, IsRowOf, name_at, no_row}
use Rattle.ud_cond.proofs.lemmas.symbols.SortedLemmas.{apart, last-row}
use Rattle.ud_cond.proofs.lemmas.symbols.TableLemmas.{entry_from-last, entry_from-none}

module _ (rows : List Argument) where
  -- the row of a name is its first row
  pub row-first : AreSorted rows → (i : ℕ) (name : List ℕ) → IsRowOf rows i name → i ≡ row_of rows name
  row-first sorted i name row = sym (position_or_len_is (λ r. bytes_eq r.name name) rows i no_row (omega (arith, row.within))
      (λ k low. (grind (arith, apart, sorted k i low row.within, row.named))) (λ within. (bytes_eq-Decides (name_at rows i) name).1 row.named))

  -- a name with a row is listed, and a listed name has one
  pub row-lists : AreSorted rows → (i : ℕ) (name : List ℕ) → IsRowOf rows i name → is_listed rows name ≡ true
  row-lists sorted i name row = ap is_some (entry_from-last None rows i name (last-row rows sorted i name row))

  row-listed : (name : List ℕ) → is_listed rows name ≡ true → IsRowOf rows (row_of rows name) name
  row-listed name listed = by (cases_lt (row_of rows name) (length rows))
    where
      by : (row_of rows name < length rows) ⊎ (length rows ≤ row_of rows name) → IsRowOf rows (row_of rows name) name
      by (inl low) = record { within = low; named = (bytes_eq-Decides _ name).0 (passes_at_first (λ r. bytes_eq r.name name) rows no_row low) }
      by (inr high) = absurd (true≢false (sym listed ∙ ap is_some (entry_from-none None rows name
          (λ k low within. fails_before_first (λ r. bytes_eq r.name name) rows k no_row (omega (arith, high, within))))))

  pub all-marked : (name : List ℕ) → is_marked rows (replicate (length rows) true) name ≡ is_listed rows name
  all-marked name = by (is_listed rows name) refl
    where
      by : (b : Bool) → is_listed rows name ≡ b → is_marked rows (replicate (length rows) true) name ≡ is_listed rows name
      by true is = grind (arith, is, get_or-replicate (length rows) (row_of rows name) true false (row-listed name is).within)
      by false is = grind (arith, is)

  -- the mark of a row is taken away
  pub row-unmarked : (marks : List Bool) (i : ℕ) (name : List ℕ) → IsRowOf rows i name → i ≡ row_of rows name → Unmarks rows (λ n. bytes_eq n name) marks (set marks i false)
  row-unmarked marks i name row first n = by (is_listed rows n) refl (bytes_eq n name) refl
    where
      by : (b : Bool) → is_listed rows n ≡ b → (e : Bool) → bytes_eq n name ≡ e → is_marked rows (set marks i false) n ≡ (is_marked rows marks n && not (bytes_eq n name))
      by false is e same = grind (arith, is)
      by true is true same =
          let here : row_of rows n ≡ i = ap (row_of rows) ((bytes_eq-Decides n name).0 same) ∙ sym first in
          grind (arith, common_steps, is, same, here, cases_lt, get_or-set_same, set_past)
      by true is false other =
          let there : row_of rows n ≢ i = λ e. true≢false (sym ((bytes_eq-Decides n name).1 (sym (row-listed n is).named ∙ ap (name_at rows) e ∙ row.named)) ∙ other) in
          grind (arith, is, other, get_or-set_other marks i (row_of rows n) false false there)

  -- a name that isn't listed has no mark
  pub none-unmarked : (marks : List Bool) (name : List ℕ) → entry_in rows name ≡ None → Unmarks rows (λ n. bytes_eq n name) marks marks
  none-unmarked marks name none n = by (bytes_eq n name) refl
    where
      by : (e : Bool) → bytes_eq n name ≡ e → is_marked rows marks n ≡ (is_marked rows marks n && not (bytes_eq n name))
      by true same = let gone = ap is_some (ap (entry_in rows) ((bytes_eq-Decides n name).0 same) ∙ none) in grind (arith, gone)
      by false other = grind (arith, other)
