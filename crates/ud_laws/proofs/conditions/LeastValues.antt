-- Least values: what is decided by the least value of a symbol is decided alike by each number from
-- there on.
use Rattle.std.proofs.lemmas.Grind.{common_steps}
use Rattle.std.proofs.Common.{◌≡◌, ◌≢◌, ℕ, ◌==◌, List, ◌∷◌, if◌then◌else◌, Bool, true, false}
use Rattle.std.proofs.Common.{Option, Some, None, is_some, option_and_then, ◌⊎◌, inl, inr, ℤ, ◌≤ℤ◌}
use Rattle.std.proofs.Common.{refl, sym, ◌∙◌, ap, ap₂, subst, int_lt, arith}
use Rattle.std.proofs.lemmas.Option.{none-some, same_Some}
use Rattle.std.proofs.lemmas.Bool.{false≢true, eqb-true}
use Rattle.ud_model.specs.text.Bytes.{is_identifier, starts_with_byte}
use Rattle.ud_model.specs.conditions.Table.{Argument, Entry, entry_in}
use Rattle.ud_model.specs.conditions.Symbols.{defined_text, text_in, ResolvesTo, at_text, by_name, resolve}
use Rattle.ud_model.specs.conditions.Expressions.{Expression, constant, unary, binary, parens}
use Rattle.ud_model.specs.conditions.Parsing.{expression_of}
use Rattle.ud_model.specs.conditions.Values.{fits, fit, text_value, constant_in, amount_from}
use Rattle.ud_model.specs.conditions.Values.{end_value, end_has_u, name_value_by, name_value}
use Rattle.ud_model.specs.conditions.Values.{name_has_u, defined_value_by, defined_value, number_of}
use Rattle.ud_model.specs.conditions.Values.{has_unsigned, value_of}
use Rattle.ud_model.specs.conditions.Conditions.{Rules, undefined_by, truth_of, tree_cond}
use Rattle.ud_model.specs.conditions.Conditions.{tree_cond_if, expression_cond, ifdef_by}
use Rattle.ud_model.specs.conditions.Conditions.{condition_of}
use Rattle.ud_model.specs.declared.amount.Amount.{Amount}
use Rattle.ud_model.specs.declared.amount.Amount.TheVariants.{Exactly, AtLeast}
use Rattle.ud_model.specs.declared.cond.Cond.TheVariants.{Unknown}
use Rattle.ud_model.specs.declared.kind.Kind.{Kind}
use Rattle.ud_model.proofs.conditions.SymbolLemmas.{end_found, end_is}
use Rattle.ud_laws.specs.conditions.LeastValues.{IsNumberFrom, Chooses, same, number, ChoosesNumbers}
use Rattle.ud_laws.proofs.conditions.Refining.{Refines, stays_refines, unary_refines, binary_refines}

-- 1. Texts.

sign_no_name : (b : ℕ) (w : List ℕ) → (b == 45) ≡ true → is_identifier (b ∷ w) ≡ false
sign_no_name b w e = subst (λ (n : ℕ). is_identifier (n ∷ w) ≡ false) (sym (eqb-true b 45 e)) refl

neither : (c k : Bool) (x y : Option ℤ) (z : ℤ) → c ≡ false → k ≡ false → (if c then x else if k then y else None) ≡ Some z → ⊥
neither c k x y z d l e = grind arith

number_text : (w : List ℕ) (z : ℤ) → end_value false (Some w) ≡ Exactly z → (starts_with_byte 255 w ≡ false) × (text_value false (constant_in w) ≡ Some z)
number_text w z e = grind arith

number_no_name : (w : List ℕ) (z : ℤ) → end_value false (Some w) ≡ Exactly z → is_identifier w ≡ false
number_no_name w z e = let p = number_text w z e in
    grind (arith, common_steps, sign_no_name, neither)

least_no_name : (w : List ℕ) (z : ℤ) → end_value false (Some w) ≡ AtLeast z → is_identifier w ≡ false
least_no_name w z e = grind (arith, eqb-true)

value_fits : (w : List ℕ) (z : ℤ) → text_value false w ≡ Some z → fits false z ≡ true
value_fits w z e = grind arith

-- Beside a `u`, a text has its value if that isn't below 0.
fits_text : (u : Bool) (w : List ℕ) → text_value u w ≡ option_and_then (fit u) (text_value false w)
fits_text u w = grind arith

-- A number from the least value on refines it.
from_refines : (u : Bool) (n k : ℤ) → n ≤ℤ k → fits false k ≡ true → Refines (amount_from true (fit u n)) (amount_from false (fit u k))
from_refines u n k l f = grind arith

text_from : (u least : Bool) (w : List ℕ) (z : ℤ) → (starts_with_byte 255 w ≡ least) × (text_value false (constant_in w) ≡ Some z) → end_value u (Some w) ≡ amount_from least (fit u z)
text_from u least w z h = ap₂ (λ (b : Bool) (o : Option ℤ). amount_from b o) h.0 (fits_text u (constant_in w) ∙ ap (λ (o : Option ℤ). option_and_then (fit u) o) h.1)

-- The text of the one table, and the one of the other.
abbrev Turns : List ℕ → List ℕ → Type 0
Turns v w = (v ≡ w) ⊎ IsNumberFrom v w

refines_itself : (a : Amount) → Refines a a
refines_itself a = stays_refines a a (inr refl)

turns_refines : (u : Bool) (v w : List ℕ) → Turns v w → Refines (end_value u (Some v)) (end_value u (Some w))
turns_refines u v w (inl e) = subst (λ x. Refines (end_value u (Some v)) (end_value u (Some x))) e (refines_itself (end_value u (Some v)))
turns_refines u v w (inr p) =
    subst (λ x. Refines x (end_value u (Some w))) (sym (text_from u true v p.from (grind arith)))
    (subst (λ y. Refines (amount_from true (fit u p.from)) y) (sym (text_from u false w p.number (number_text w p.number p.is_number)))
    (from_refines u p.from p.number p.above (value_fits (constant_in w) p.number (number_text w p.number p.is_number).1)))

turns_sign : (v w : List ℕ) → Turns v w → end_has_u (Some w) ≡ end_has_u (Some v)
turns_sign v w h = grind arith

-- 2. Tables.

-- A defined name has such texts by both tables.
abbrev Texts : Option (List ℕ) → Option (List ℕ) → Type 0
Texts None o = o ≡ None
Texts (Some v) o = (w : List ℕ) × Turns v w × (o ≡ Some w)

entry_texts : (e f : Option Entry) → Chooses e f → Texts (text_in e) (text_in f)
entry_texts e _ same = grind arith
entry_texts _ _ (number {text = text} p) = (text, inr p, refl)

module _ (t u : List Argument) (h : ChoosesNumbers t u) where
  texts_at : (n : List ℕ) (o : Option (List ℕ)) → defined_text t n ≡ o → Texts o (defined_text u n)
  texts_at n o e =
      subst (λ x. Texts x (defined_text u n)) e (entry_texts (entry_in t n) (entry_in u n) (h n))

  turns_name : (v w : List ℕ) → Turns v w → is_identifier v ≡ true → v ≡ w
  turns_name v w h i = grind (arith, common_steps, least_no_name)

  turns_no_name : (v w : List ℕ) → Turns v w → is_identifier v ≡ false → is_identifier w ≡ false
  turns_no_name v w (inl e) i = ap is_identifier (sym e) ∙ i
  turns_no_name v w (inr p) i = number_no_name w p.number p.is_number

  ends_over : (n v : List ℕ) → ResolvesTo t n v → (w : List ℕ) × Turns v w × ResolvesTo u n w
  ends_over n v (at_text _ _ d i) = let x = texts_at n (Some v) d in (x.0, x.1, at_text n x.0 x.2 (turns_no_name v x.0 x.1 i))
  ends_over n v (by_name _ m _ d i e) =
      let x = texts_at n (Some m) d in let y = ends_over m v e in
      (y.0, y.1, by_name n m y.0 (x.2 ∙ ap (λ (k : List ℕ). Some k) (sym (turns_name m x.0 x.1 i))) i y.2)

  text_back : (n w : List ℕ) (o : Option (List ℕ)) → defined_text t n ≡ o → defined_text u n ≡ Some w → (v : List ℕ) × Turns v w × (defined_text t n ≡ Some v)
  text_back n w None e d = absurd (none-some w (sym (texts_at n None e) ∙ d))
  text_back n w (Some v) e d = let x = texts_at n (Some v) e in (v, subst (λ k. Turns v k) (same_Some x.0 w (sym x.2 ∙ d)) x.1, e)

  back_name : (v w : List ℕ) → Turns v w → is_identifier w ≡ true → v ≡ w
  back_name v w (inl e) i = e
  back_name v w (inr p) i = absurd (false≢true (sym (number_no_name w p.number p.is_number) ∙ i))

  back_no_name : (v w : List ℕ) → Turns v w → is_identifier w ≡ false → is_identifier v ≡ false
  back_no_name v w h i = grind (arith, common_steps, least_no_name)

  ends_back : (n w : List ℕ) → ResolvesTo u n w → (v : List ℕ) × ResolvesTo t n v
  ends_back n w (at_text _ _ d i) = let x = text_back n w (defined_text t n) refl d in (x.0, at_text n x.0 x.2 (back_no_name x.0 w x.1 i))
  ends_back n w (by_name _ m _ d i e) =
      let x = text_back n m (defined_text t n) refl d in let y = ends_back m w e in
      (y.0, by_name n m y.0 (x.2 ∙ ap (λ (k : List ℕ). Some k) (back_name x.0 m x.1 i)) i y.1)

  ends_by : (n : List ℕ) (o p : Option (List ℕ)) → resolve t n ≡ o → resolve u n ≡ p → Texts o p
  ends_by n None None d e = refl
  ends_by n None (Some w) d e = let x = ends_back n w (end_is u n w e) in absurd (none-some x.0 (sym d ∙ end_found t n x.0 x.1))
  ends_by n (Some v) p d e = let x = ends_over n v (end_is t n v d) in (x.0, x.1, sym e ∙ end_found u n x.0 x.2)

  ends : (n : List ℕ) → Texts (resolve t n) (resolve u n)
  ends n = ends_by n (resolve t n) (resolve u n) refl refl

  end_refines : (b : Bool) (o p : Option (List ℕ)) → Texts o p → Refines (end_value b o) (end_value b p)
  end_refines b o p x = grind (arith, turns_refines)

  end_sign : (o p : Option (List ℕ)) → Texts o p → end_has_u p ≡ end_has_u o
  end_sign o p x = grind (arith, turns_sign)

  value_by : (b : Bool) (o p : Option (List ℕ)) (e f : Option Entry) → Chooses e f → Refines (end_value b o) (end_value b p) → Refines (name_value_by b o e) (name_value_by b p f)
  value_by b o p None _ same r = tt
  value_by b o p (Some x) _ same r = grind arith
  value_by b o p _ _ (number k) r = r

  name_refines : (b : Bool) (n : List ℕ) → Refines (name_value t b n) (name_value u b n)
  unfolding name_value
  name_refines b n = value_by b (resolve t n) (resolve u n) (entry_in t n) (entry_in u n) (h n) (end_refines b (resolve t n) (resolve u n) (ends n))

  name_sign : (n : List ℕ) → name_has_u u n ≡ name_has_u t n
  unfolding name_has_u
  name_sign n = end_sign (resolve t n) (resolve u n) (ends n)

  -- Both entries say the same but for the value.
  entry_alike : (e f : Option Entry) → Chooses e f →
      (defined_value_by f ≡ defined_value_by e) × (is_some f ≡ is_some e)
      × (undefined_by f ≡ undefined_by e) × (ifdef_by f ≡ ifdef_by e)
  entry_alike e _ same = (refl, refl, refl, refl)
  entry_alike _ _ (number p) = (refl, refl, refl, refl)

  defined_alike : (n : List ℕ) → defined_value u n ≡ defined_value t n
  unfolding defined_value
  defined_alike n = (entry_alike (entry_in t n) (entry_in u n) (h n)).0

  -- 3. Expressions.

  number_refines : (s b : Bool) (e : Expression) → Refines (number_of t s b e) (number_of u s b e)
  number_refines s b (unary o x) = grind (arith, stays_refines, unary_refines, number_refines s b x)
  number_refines s b (binary o x y) =
      stays_refines (number_of t s b (binary o x y)) (number_of u s b (binary o x y))
      (binary_refines s s b o (number_of t s b x) (number_of u s b x) (number_of t s b y) (number_of u s b y) (λ r. r) (number_refines s b x) (number_refines s b y))
  number_refines s b (parens x) = number_refines s b x
  number_refines s b e = grind (arith, refines_itself, name_refines, defined_alike, constant)

  value_refines : (s : Bool) (e : Expression) → Refines (value_of t s e) (value_of u s e)
  value_refines s e = subst (λ (b : Bool). Refines (value_of t s e) (number_of u s b e))
      (sym (grind (arith, name_sign))) (number_refines s (has_unsigned t e) e)

  -- A known value is the same for each number.
  pub value_alike : (s : Bool) (e : Expression) (n : ℤ) → value_of t s e ≡ Exactly n → value_of u s e ≡ Exactly n
  value_alike s e n v = subst (λ (a : Amount). Refines a (value_of u s e)) v (value_refines s e)

  cond_by : (a b : Amount) → Refines a b → truth_of a ≢ Unknown → truth_of b ≡ truth_of a
  cond_by a b r n = grind (arith, int_lt)

  tree_alike : (e : Expression) (r : Rules) → tree_cond e t r ≢ Unknown → tree_cond e u r ≡ tree_cond e t r
  tree_alike e r n = grind (arith, entry_alike, cond_by, value_refines)

  tree_if_alike : (o : Option Expression) (r : Rules) → tree_cond_if o t r ≢ Unknown → tree_cond_if o u r ≡ tree_cond_if o t r
  tree_if_alike o r n = grind (arith, tree_alike)

  text_alike : (text : List ℕ) (r : Rules) → expression_cond text t r ≢ Unknown → expression_cond text u r ≡ expression_cond text t r
  unfolding expression_cond
  text_alike text r n = tree_if_alike (expression_of text) r n

  -- A decided directive is decided alike for each number.
  pub condition_alike : (k : Kind) (text : List ℕ) (r : Rules) → (condition_of k text t r).cond ≢ Unknown → condition_of k text u r ≡ condition_of k text t r
  condition_alike k text r n = grind (arith, text_alike, entry_alike)
