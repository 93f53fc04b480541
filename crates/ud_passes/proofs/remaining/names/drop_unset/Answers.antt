-- Without a set mark, no row is marked.
use Rattle.std.proofs.Common.{◌≡◌, ℕ, zero, suc, List, [], ◌∷◌, Bool, true, false, refl, sym, ap, ◌∙◌}
use Rattle.std.specs.Prelude.{get_or, ◌&&◌}
use Rattle.std.specs.List.{list_any}
use Rattle.ud_model.specs.conditions.Conditions.{is_listed}
use Rattle.ud_model.specs.conditions.Table.{Argument}
use Rattle.ud_cond.specs.symbols.Marks.{is_marked, row_of}
use Rattle.ud_passes.proofs.remaining.names.drop_unset.Goals as goal

none_set : (marks : List Bool) (i : ℕ) → list_any (λ m. m) marks ≡ false → get_or marks i false ≡ false
none_set [] i e = refl
none_set (false ∷ ms) zero e = refl
none_set (true ∷ ms) zero e = absurd cc
none_set (false ∷ ms) (suc i) e = none_set ms i e
none_set (true ∷ ms) (suc i) e = absurd cc

unmarked : (rows : List Argument) (marks : List Bool) (name : List ℕ) → list_any (λ m. m) marks ≡ false → is_marked rows [] name ≡ is_marked rows marks name
unmarked rows marks name e = ap (λ (b : Bool). is_listed rows name && b) (none_set [] (row_of rows name) refl ∙ sym (none_set marks (row_of rows name) e))

pub returns-then-not-has_mark : goal.returns-then-not-has_mark
returns-then-not-has_mark c = λ rows name.
    ap (λ (x : List Bool). is_marked rows x name) c.clear.ensures.items
    ∙ unmarked rows c.args.marks.now.items name (sym (c.has_mark.ensures ∙ ap (list_any (λ (m : Bool). m)) c.as_slice.ensures.value) ∙ c.if-not-has_mark.true)
