-- Residual truth: the residual of an expression has the truth of the expression.
--
-- The proof goes by the way in which the value of the expression comes about. An operand that is
-- decided has the truth that the table says, so a unit leaves the truth to the other operand.
use Rattle.std.proofs.Common.{◌≡◌, Bool, true, false, if◌then◌else◌, refl, ◌↔◌, pos, List, arith}
use Rattle.ud_model.specs.conditions.Table.{Argument}
use Rattle.ud_model.specs.conditions.Expressions.{Expression, constant, named, is_defined, unary, binary, parens}
use Rattle.ud_model.specs.conditions.Conditions.{Rules}
use Rattle.ud_model.specs.conditions.Values.{truth}
use Rattle.ud_model.specs.laws.CValues.{Number, signed, IsTruth, IsZero}
use Rattle.ud_model.specs.aids.Residuals.{Residual, is_unit, settled, joined_if, joined, negated, alone, residual}
use Rattle.ud_laws.specs.conditions.Choices.{Choice, for_constant, for_name, for_defined, for_unary, for_binary, IsAllowed, HasValue, of_constant, of_name, of_defined, of_unary, of_binary, of_and_left, of_and_both, of_or_left, of_or_both, of_parens, one_or_both, bare_or_not, stay}
use Rattle.ud_model.specs.declared.cond.Cond.{Cond}
use Rattle.ud_model.specs.declared.cond.Cond.TheVariants.{Yes, No}
use Rattle.ud_model.specs.declared.operator.Operator.TheVariants.{Or, And, Not}
use Rattle.ud_laws.specs.output.CSelection.{HasTruth}
use Rattle.ud_laws.proofs.conditions.ChoiceValues.{choice_may}
use Rattle.ud_model.proofs.conditions.DecidedConditions.{yes_is_true, no_is_false}
use Rattle.ud_laws.proofs.conditions.OneValue.{no_and, no_or}

-- The residual's condition is the truth of the value `c`, and so is the truth of its tree.
pub record Tells (x : Residual) (m : Choice x.tree) (c : Number) : Type 0 where
  pub yes : x.cond ≡ Yes → IsZero c → ⊥
  pub no : x.cond ≡ No → IsZero c
  pub value : Number
  pub has : HasValue x.tree m value
  pub same : IsZero c ↔ IsZero value

-- 1. Units, and what settles.

or_unit : (c : Cond) → is_unit Or c ≡ true → c ≡ No
or_unit c e = grind arith

or_never_no : (strict : Bool) (c d : Cond) → settled strict Or c d ≡ No → ⊥
or_never_no strict c d e = grind arith

-- 2. The numbers 0 and 1.

one_is_not : IsZero (signed (pos 1)) → ⊥
one_is_not e = cc

both : {A B : Type 0} → A → B → A ↔ B
both a b = ((λ x. b), (λ y. a))

neither : {A B : Type 0} → (A → ⊥) → (B → ⊥) → A ↔ B
neither f g = ((λ a. absurd (f a)), (λ b. absurd (g b)))

-- A truth of one of two facts that are alike is a truth of the other.
truth_alike : (P Q : Type 0) (c : Number) → IsTruth P c → (P ↔ Q) → IsTruth Q c
truth_alike P Q c h g = grind arith

not_alike : {A B : Type 0} → (A ↔ B) → ((A → ⊥) ↔ (B → ⊥))
not_alike h = ((λ f b. f (h.1 b)), (λ g a. g (h.0 a)))

-- The truth that `y` isn't 0 is 0 exactly if `y` is.
truth_same : (y c : Number) → IsTruth (IsZero y → ⊥) c → IsZero c ↔ IsZero y
truth_same y c h = grind arith

-- 3. Operands.

module _ (table : List Argument) (rules : Rules) where
  by_itself : (e : Expression) (m : Choice e) (c : Number) → IsAllowed table m → HasValue e m c → Tells (alone table rules e) m c
  by_itself e m c a d = grind (arith, yes_is_true, choice_may, no_is_false)

-- 4. `!` and parentheses.

not_tells : (x : Residual) (m : Choice x.tree) (y c : Number) → Tells x m y → IsTruth (IsZero y) c → Tells (negated x) (for_unary m) c
not_tells x m y c t g = record {
  yes = λ e. grind arith;
  no = λ e. (grind (arith, g, t.yes (grind (arith, e))));
  value = c;
  has = of_unary t.has (truth_alike (IsZero y) (IsZero t.value) c g t.same);
  same = ((λ z. z), (λ z. z));
}

parens_tell : (b : Bool) (x : Residual) (m : Choice x.tree) (c : Number) → Tells x m c → Tells (if b then x else record x { tree = parens x.tree }) (bare_or_not b x m) c
parens_tell true x m c t = t
parens_tell false x m c t = record { yes = t.yes; no = t.no; value = t.value; has = of_parens t.has; same = t.same }

-- 5. `&&` and `||`.

-- One operand alone tells the truth of the operator.
one_tells : (x : Residual) (m : Choice x.tree) (y c : Number) → Tells x m y → (IsZero c ↔ IsZero y) → Tells (record x { lost = true }) m c
one_tells x m y c t h = grind arith

module _ (strict : Bool) (x y : Residual) (m : Choice x.tree) (k : Choice y.tree) (v : Number) (t : Tells x m v) where
  -- `&&` whose left operand is 0.
  and_left : IsZero v → Tells (joined strict And x y) (one_or_both (is_unit And x.cond) (is_unit And y.cond) And (settled strict And x.cond y.cond) x y m k) (signed (pos 0))
  and_left z = by (is_unit And x.cond) (is_unit And y.cond) refl
    where
      by : (b d : Bool) → is_unit And x.cond ≡ b →
          Tells (joined_if b d And (settled strict And x.cond y.cond) x y)
          (one_or_both b d And (settled strict And x.cond y.cond) x y m k) (signed (pos 0))
      by true d e = absurd (t.yes (grind arith) z)
      by false true e = one_tells x m v (signed (pos 0)) t (both refl z)
      by false false e = record {
        yes = λ f. absurd (grind arith);
        no = λ f. refl;
        value = signed (pos 0);
        has = of_and_left t.has (t.same.0 z);
        same = ((λ w. w), (λ w. w));
      }

  -- `||` whose left operand isn't 0.
  or_left : (IsZero v → ⊥) → Tells (joined strict Or x y) (one_or_both (is_unit Or x.cond) (is_unit Or y.cond) Or (settled strict Or x.cond y.cond) x y m k) (signed (pos 1))
  or_left n = by (is_unit Or x.cond) (is_unit Or y.cond) refl
    where
      by : (b d : Bool) → is_unit Or x.cond ≡ b →
          Tells (joined_if b d Or (settled strict Or x.cond y.cond) x y)
          (one_or_both b d Or (settled strict Or x.cond y.cond) x y m k) (signed (pos 1))
      by true d e = absurd (n (t.no (or_unit x.cond e)))
      by false true e = one_tells x m v (signed (pos 1)) t (neither one_is_not n)
      by false false e = record {
        yes = λ f. one_is_not;
        no = λ f. absurd (or_never_no strict x.cond y.cond f);
        value = signed (pos 1);
        has = of_or_left t.has (λ z. n (t.same.1 z));
        same = ((λ w. w), (λ w. w));
      }

  module _ (w c : Number) (s : Tells y k w) (g : IsTruth (IsZero w → ⊥) c) where
    -- `&&` whose left operand isn't 0.
    and_both : (IsZero v → ⊥) → Tells (joined strict And x y) (one_or_both (is_unit And x.cond) (is_unit And y.cond) And (settled strict And x.cond y.cond) x y m k) c
    and_both n = by (is_unit And x.cond) (is_unit And y.cond) refl
      where
        by : (b d : Bool) → is_unit And y.cond ≡ d →
            Tells (joined_if b d And (settled strict And x.cond y.cond) x y)
            (one_or_both b d And (settled strict And x.cond y.cond) x y m k) c
        by true d e = one_tells y k w c s (truth_same w c g)
        by false true e =
            one_tells x m v c t (neither (λ z. s.yes (grind arith) ((truth_same w c g).0 z)) n)
        by false false e = record {
          yes = λ f. absurd (grind arith);
          no = λ f. grind arith;
          value = c;
          has = of_and_both t.has (λ z. n (t.same.1 z)) s.has (truth_alike (IsZero w → ⊥) (IsZero s.value → ⊥) c g (not_alike s.same));
          same = ((λ z. z), (λ z. z));
        }

    -- `||` whose left operand is 0.
    or_both : IsZero v → Tells (joined strict Or x y) (one_or_both (is_unit Or x.cond) (is_unit Or y.cond) Or (settled strict Or x.cond y.cond) x y m k) c
    or_both z = by (is_unit Or x.cond) (is_unit Or y.cond) refl
      where
        by : (b d : Bool) → is_unit Or y.cond ≡ d →
            Tells (joined_if b d Or (settled strict Or x.cond y.cond) x y)
            (one_or_both b d Or (settled strict Or x.cond y.cond) x y m k) c
        by true d e = one_tells y k w c s (truth_same w c g)
        by false true e = one_tells x m v c t (both ((truth_same w c g).1 (s.no (or_unit y.cond e))) z)
        by false false e = record {
          yes = λ f. grind arith;
          no = λ f. absurd (or_never_no strict x.cond y.cond f);
          value = c;
          has = of_or_both t.has (t.same.0 z) s.has (truth_alike (IsZero w → ⊥) (IsZero s.value → ⊥) c g (not_alike s.same));
          same = ((λ q. q), (λ q. q));
        }

module _ (table : List Argument) (rules : Rules) where
  -- The residual tells the truth of the whole.
  pub tells : {e : Expression} {m : Choice e} {c : Number} → IsAllowed table m → HasValue e m c → Tells (residual table rules e) (stay table rules m) c
  tells h (of_constant {w = w} {c = c} p) = by_itself table rules (constant w) for_constant c h (of_constant p)
  tells h (of_name {n = n} {arguments = arguments} {c = c}) = by_itself table rules (named n arguments) (for_name c) c h of_name
  tells h (of_defined {n = n} {p = p} {b = b}) = by_itself table rules (is_defined n p) (for_defined b) (signed (truth b)) h of_defined
  tells h (of_unary {o = Not} {a = a} {m = m} {x = x} {c = c} d g) = not_tells (residual table rules a) (stay table rules m) x c (tells h d) g
  tells h (of_unary {o = o} {a = a} {m = m} {c = c} d g) =
      by_itself table rules (unary o a) (for_unary m) c h (of_unary d g)
  tells h (of_binary {o = And} {x = x} {y = y} {c = c} d f g) = absurd (no_and x y c g)
  tells h (of_binary {o = Or} {x = x} {y = y} {c = c} d f g) = absurd (no_or x y c g)
  tells h (of_binary {o = o} {a = a} {b = b} {m = m} {k = k} {c = c} d f g) =
      by_itself table rules (binary o a b) (for_binary m k) c h (of_binary d f g)
  tells h (of_and_left d z) = grind (arith, and_left, tells h.0 d)
  tells h (of_and_both d n f g) = grind (arith, and_both, tells h.0 d, tells h.1 f)
  tells h (of_or_left d n) = grind (arith, or_left, tells h.0 d)
  tells h (of_or_both d z f g) = grind (arith, or_both, tells h.0 d, tells h.1 f)
  tells h (of_parens d) = grind (arith, parens_tell, tells h d)

-- A truth of one value is a truth of the other, if both are 0 or neither is.
pub truth_kept : (b : Bool) (c d : Number) → (IsZero c → IsZero d) → (IsZero d → IsZero c) → HasTruth b c → HasTruth b d
truth_kept b c d f g h = grind arith
