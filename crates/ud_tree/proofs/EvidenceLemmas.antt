-- EvidenceLemmas: evidence that is carried through a call's result, and to the place of a name.
use Rattle.std.proofs.Common.{◌≡◌, ℕ, List, Option, Some, None, Result, Ok, Err, true, IfOk, OnOk, IfSome, MatchResult, is_some, is_ok, subst, sym, true≢false, ◌∙◌, ap}
use Rattle.ud_tree.specs.Evidence.{Looking}
use Rattle.ud_tree.specs.Meeting.{At, IsPlace}

-- The name was given as these bytes, and the path was used as these.
pub at_place : {F N : Type 0} (L : Looking F N) {name given place used : List ℕ} (holds : List ℕ → Type 0) → IsPlace L given place → given ≡ name → used ≡ place → holds used → At L name holds
at_place L {name = name} {place = place} holds at named path h = record {
  place = place;
  at = subst (λ (n : List ℕ). IsPlace L n place) named at;
  is = subst holds path h;
}

-- A fact that follows from one at the same place.
pub at_map : {F N : Type 0} (L : Looking F N) {name : List ℕ} {P Q : List ℕ → Type 0} → ((place : List ℕ) → P place → Q place) → At L name P → At L name Q
at_map L more h = record { place = h.place; at = h.at; is = more h.place h.is }

-- A fact that follows from the value of a result, if there is one.
pub ok_map : {T E : Type 0} {P Q : T → Type 0} (r : Result T E) → ((x : T) → P x → Q x) → IfOk r P → IfOk r Q
ok_map (Ok x) more h = more x h
ok_map (Err e) more h = tt

-- The same, if that doesn't name the value.
pub on_map : {T E Q : Type 0} {P : T → Type 0} (r : Result T E) → ((x : T) → P x → Q) → IfOk r P → OnOk r Q
on_map (Ok x) more h = more x h
on_map (Err e) more h = tt

-- Two facts that follow from a value.
pub on_both : {T E P Q R : Type 0} (r : Result T E) → (P → Q → R) → OnOk r P → OnOk r Q → OnOk r R
on_both (Ok x) more p q = more p q
on_both (Err e) more p q = tt

-- The value that was kept is the result's.
pub some_kept : {T E : Type 0} (P : T → Type 0) (r : Result T E) (kept : Option T) → MatchResult r (λ x. kept ≡ Some x) (λ e. kept ≡ None) → IfOk r P → IfSome kept P
some_kept P (Ok x) kept is h = subst (λ k. IfSome k P) (sym is) h
some_kept P (Err e) kept is h = subst (λ k. IfSome k P) (sym is) tt

-- A value was kept, so the result had one.
pub done_kept : {T E P : Type 0} (r : Result T E) (kept : Option T) → MatchResult r (λ x. kept ≡ Some x) (λ e. kept ≡ None) → OnOk r P → is_some kept ≡ true → P
done_kept (Ok x) kept is h some = h
done_kept (Err e) kept is h some = absurd (true≢false (sym some ∙ ap is_some is))

-- A result that is a value.
pub done_ok : {T E P : Type 0} (r : Result T E) → OnOk r P → is_ok r ≡ true → P
done_ok (Ok x) h ok = h
done_ok (Err e) h ok = absurd (true≢false (sym ok))
