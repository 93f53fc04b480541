-- One value: by the numbers for its uses of names an expression has one value at most.
use Rattle.std.proofs.Common.{◌≡◌, ℕ, List, refl, sym, subst, arith}
use Rattle.ud_model.specs.conditions.Expressions.{Expression}
use Rattle.ud_model.specs.laws.CValues.{Number, IsTruth, IsZero, Gives, GivesUnary, IsConstantValue}
use Rattle.ud_laws.specs.conditions.Choices.{Choice, HasValue, of_constant, of_unary, of_binary}
use Rattle.ud_laws.specs.conditions.Choices.{of_and_left, of_and_both, of_or_left, of_or_both}
use Rattle.ud_laws.specs.conditions.Choices.{of_parens}
use Rattle.ud_model.specs.declared.operator.Operator.TheVariants.{Or, And}

one_truth : (Holds : Type 0) (c d : Number) → IsTruth Holds c → IsTruth Holds d → c ≡ d
one_truth Holds c d h g = grind arith

one_constant : (w : List ℕ) (c d : Number) → IsConstantValue w c → IsConstantValue w d → c ≡ d
one_constant w c d h g = grind arith

-- `&&` and `||` give no value by the operators between numbers.
pub no_and : (x y c : Number) → Gives And x y c → ⊥
no_and x y c g = grind arith

pub no_or : (x y c : Number) → Gives Or x y c → ⊥
no_or x y c g = grind arith

zero_alike : (x y : Number) → x ≡ y → IsZero x → IsZero y
zero_alike x y e z = subst (λ n. IsZero n) e z

truths_alike : (x y c d : Number) → x ≡ y → IsTruth (IsZero x → ⊥) c → IsTruth (IsZero y → ⊥) d → c ≡ d
truths_alike x y c d e p q = one_truth (IsZero y → ⊥) c d (subst (λ n. IsTruth (IsZero n → ⊥) c) e p) q

-- An expression has one value at most.
pub one_value : {e : Expression} {m : Choice e} {c : Number} → HasValue e m c → {d : Number} → HasValue e m d → c ≡ d
one_value (of_constant {w = w} {c = c} p) (of_constant {c = d} q) = one_constant w c d p q
one_value (of_unary {o = o} {c = c} a g) (of_unary b h) =
    grind (arith, (subst (λ n. GivesUnary o n c) (one_value a b) g), h)
one_value (of_binary a b g) (of_binary f k h) = grind (arith, one_value b k, one_value a f)
one_value (of_binary a b g) h = grind (arith, no_and, no_or)
one_value h (of_binary a b g) = grind (arith, no_and, no_or)
one_value (of_and_left {x = x} a z) (of_and_both {x = y} b n k t) = absurd (n (zero_alike x y (one_value a b) z))
one_value (of_and_both {x = x} a n k t) (of_and_left {x = y} b z) = absurd (n (zero_alike y x (sym (one_value a b)) z))
one_value (of_and_both {y = y} {c = c} a n k t) (of_and_both {y = v} {c = d} b m l s) = truths_alike y v c d (one_value k l) t s
one_value (of_or_left {x = x} a n) (of_or_both {x = y} b z k t) = absurd (n (zero_alike y x (sym (one_value a b)) z))
one_value (of_or_both {x = x} a z k t) (of_or_left {x = y} b n) = absurd (n (zero_alike x y (one_value a b) z))
one_value (of_or_both {y = y} {c = c} a z k t) (of_or_both {y = v} {c = d} b w l s) = truths_alike y v c d (one_value k l) t s
one_value (of_parens a) (of_parens b) = one_value a b
one_value _ _ = refl
