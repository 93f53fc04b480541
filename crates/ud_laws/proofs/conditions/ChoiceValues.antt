-- Choice values: what a choice of numbers gives an expression is one of the values that C may give it.
use Rattle.std.proofs.Common.{◌≡◌, ℕ, List, Bool, true, Option, Some, None, refl, sym, subst, ℤ}
use Rattle.std.proofs.Common.{arith}
use Rattle.std.proofs.lemmas.Bool.{or_left, or_right}
use Rattle.ud_model.specs.conditions.Table.{Argument}
use Rattle.ud_model.specs.conditions.Expressions.{Expression, named, is_defined}
use Rattle.ud_model.specs.conditions.Values.{truth, name_value, name_has_u, defined_value}
use Rattle.ud_model.specs.conditions.Values.{has_unsigned}
use Rattle.ud_model.specs.laws.CValues.{Number, signed, IsInRange, CValue, IsCValue}
use Rattle.ud_model.specs.laws.CValues as may
use Rattle.ud_model.specs.declared.amount.Amount.{Amount}
use Rattle.ud_model.specs.declared.amount.Amount.TheVariants.{Anything, Exactly, AtLeast}
use Rattle.ud_laws.specs.conditions.Choices.{Choice, IsNumberOf, IsAllowed, HasValue, of_constant, of_name, of_defined, of_unary, of_binary, of_and_left, of_and_both, of_or_left, of_or_both, of_parens}
use Rattle.ud_laws.proofs.conditions.Refining.{Stays}

-- A name's value that is known in an expression with a `u` is known in one without.
pub name_less : (table : List Argument) (u v : Bool) (n : List ℕ) → (v ≡ true → u ≡ true) → Stays (name_value table u n) (name_value table v n)
unfolding name_value
name_less table u v n h = grind arith

number_by : (b : Bool) (a d : Amount) (c : Number) → Stays a d → IsNumberOf b d c → IsNumberOf b a c
number_by b a d c h k = grind arith

module _ (table : List Argument) (u : Bool) where
  name_may : (n : List ℕ) (arguments : Bool) (c : Number) → IsInRange c → IsNumberOf (name_has_u table n) (name_value table (name_has_u table n) n) c →
      (name_has_u table n ≡ true → u ≡ true) → CValue table u (named n arguments) c
  name_may n arguments c r h v = by (name_value table u n) refl (number_by (name_has_u table n) (name_value table u n) (name_value table (name_has_u table n) n) c (name_less table u (name_has_u table n) n v) h)
    where
      by : (a : Amount) → name_value table u n ≡ a → IsNumberOf (name_has_u table n) a c → CValue table u (named n arguments) c
      by Anything e k = may.of_open_name e r
      by (Exactly z) e k = subst (λ x. CValue table u (named n arguments) x) (sym k) (may.of_known_name e)
      by (AtLeast z) e k = subst (λ x. CValue table u (named n arguments) x) (sym k.3) (may.of_least_name e k.1 k.2)

  defined_may : (n : List ℕ) (p b : Bool) → ((z : ℤ) → defined_value table n ≡ Some z → truth b ≡ z) → CValue table u (is_defined n p) (signed (truth b))
  defined_may n p b h = by (defined_value table n) refl
    where
      by : (o : Option ℤ) → defined_value table n ≡ o → CValue table u (is_defined n p) (signed (truth b))
      by None e = may.of_open_defined e (grind arith)
      by (Some z) e = subst (λ x. CValue table u (is_defined n p) (signed x)) (sym (h z e)) (may.of_known_defined e)

  -- The value by a choice is one of the values that C may give.
  pub value_may : {e : Expression} {m : Choice e} {c : Number} → IsAllowed table m → HasValue e m c → (has_unsigned table e ≡ true → u ≡ true) → CValue table u e c
  value_may a (of_constant p) v = may.of_constant p
  value_may a (of_name {n = n} {arguments = arguments} {c = c}) v = name_may n arguments c a.0 a.1 v
  value_may a (of_defined {n = n} {p = p} {b = b}) v = defined_may n p b a
  value_may a (of_unary d g) v = may.of_unary (value_may a d v) g
  value_may h (of_binary {a = a} {b = b} d f g) v =
      may.of_binary (value_may h.0 d (λ e. v (or_left (has_unsigned table a) (has_unsigned table b) e)))
      (value_may h.1 f (λ e. v (or_right (has_unsigned table a) (has_unsigned table b) e))) g
  value_may h (of_and_left {a = a} {b = b} d z) v = may.of_and_left (value_may h.0 d (λ e. v (or_left (has_unsigned table a) (has_unsigned table b) e))) z
  value_may h (of_and_both {a = a} {b = b} d z f t) v =
      may.of_and_both (value_may h.0 d (λ e. v (or_left (has_unsigned table a) (has_unsigned table b) e))) z
      (value_may h.1 f (λ e. v (or_right (has_unsigned table a) (has_unsigned table b) e))) t
  value_may h (of_or_left {a = a} {b = b} d z) v = may.of_or_left (value_may h.0 d (λ e. v (or_left (has_unsigned table a) (has_unsigned table b) e))) z
  value_may h (of_or_both {a = a} {b = b} d z f t) v =
      may.of_or_both (value_may h.0 d (λ e. v (or_left (has_unsigned table a) (has_unsigned table b) e))) z
      (value_may h.1 f (λ e. v (or_right (has_unsigned table a) (has_unsigned table b) e))) t
  value_may a (of_parens d) v = may.of_parens (value_may a d v)

-- The value by an allowed choice is one that C may give the whole expression.
pub choice_may : (table : List Argument) (e : Expression) (m : Choice e) (c : Number) → IsAllowed table m → HasValue e m c → IsCValue table e c
choice_may table e m c a d = value_may table (has_unsigned table e) a d (λ h. h)
