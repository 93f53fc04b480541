-- Choices: a number for each use of a name in an expression, and the value that these numbers give
-- the expression.
-- C11 6.10.1p4, 6.5: whatever the macros are, each use of one in a condition has a number, or the
-- condition has no value.
--
--   Choice e              a number for each operand that is a name in the tree `e`, and whether the
--                         name after each `defined` is defined
--   IsAllowed table m     names that the table decides have the table's numbers
--   HasValue e m c        by the choice `m` the tree `e` has the value `c`
--   stay m                the choice `m` for the uses that are left (Residuals)
--
-- CValues says which values an expression may have; here each value comes with the numbers that
-- lead to it, so two expressions can be compared use by use.
use Rattle.std.specs.Prelude.{◌≡◌, ℕ, List, Bool, true, false, Some, ℤ, pos, ◌≤ℤ◌, ◌&&◌}
use Rattle.std.specs.Prelude.{if◌then◌else◌, FitsSigned}
use mir.Syntax.{w64}
use Rattle.ud_model.specs.conditions.Table.{Argument}
use Rattle.ud_model.specs.conditions.Expressions.{Expression, constant, named, is_defined, unary}
use Rattle.ud_model.specs.conditions.Expressions.{binary, parens}
use Rattle.ud_model.specs.conditions.Values.{truth, name_value, name_has_u, defined_value}
use Rattle.ud_model.specs.conditions.Conditions.{Rules}
use Rattle.ud_model.specs.laws.CValues.{Number, signed, IsInRange, IsTruth, IsZero, Gives}
use Rattle.ud_model.specs.laws.CValues.{GivesUnary, IsConstantValue, typed}
use Rattle.ud_model.specs.aids.Residuals.{Residual, is_unit, stands_alone, residual, settled}
use Rattle.ud_model.specs.aids.Residuals.{joined_if}
use Rattle.ud_model.specs.declared.amount.Amount.{Amount}
use Rattle.ud_model.specs.declared.amount.Amount.TheVariants.{Anything, Exactly, AtLeast}
use Rattle.ud_model.specs.declared.cond.Cond.{Cond}
use Rattle.ud_model.specs.declared.operator.Operator.{Operator}
use Rattle.ud_model.specs.declared.operator.Operator.TheVariants.{Or, And, Not}

-- A number for each use of a name in a tree.
pub data Choice : Expression → Type 0 where
  for_constant : {w : List ℕ} → Choice (constant w)
  for_name : {n : List ℕ} {arguments : Bool} → Number → Choice (named n arguments)
  for_defined : {n : List ℕ} {p : Bool} → Bool → Choice (is_defined n p)
  for_unary : {o : Operator} {a : Expression} → Choice a → Choice (unary o a)
  for_binary : {o : Operator} {a b : Expression} → Choice a → Choice b → Choice (binary o a b)
  for_parens : {a : Expression} → Choice a → Choice (parens a)

-- `IsNumberOf b a c`: `c` is a number as the amount `a` says, of uintmax_t if `b`, else of
-- intmax_t.
abbrev pub IsNumberOf : Bool → Amount → Number → Type 0
IsNumberOf b Anything c = Unit {0}
IsNumberOf b (Exactly z) c = c ≡ typed b z
IsNumberOf b (AtLeast n) c = (z : ℤ) × (n ≤ℤ z) × FitsSigned w64 z × (c ≡ typed b z)

module _ (table : List Argument) where
  -- `IsAllowed m`: each number is in range, and the names that the table decides have the table's
  -- numbers, or one from the least number on. All others are free.
  abbrev pub IsAllowed : {e : Expression} → Choice e → Type 0
  IsAllowed for_constant = Unit {0}
  IsAllowed (for_name {n = n} c) = IsInRange c ×
      IsNumberOf (name_has_u table n) (name_value table (name_has_u table n) n) c
  IsAllowed (for_defined {n = n} b) = (z : ℤ) → defined_value table n ≡ Some z → truth b ≡ z
  IsAllowed (for_unary m) = IsAllowed m
  IsAllowed (for_binary m k) = IsAllowed m × IsAllowed k
  IsAllowed (for_parens m) = IsAllowed m

-- `HasValue e m c`: by the choice `m` the tree `e` has the value `c`. If C gives it no value, it
-- has none.
pub data HasValue : (e : Expression) → Choice e → Number → Type 0 where
  of_constant : {w : List ℕ} {c : Number} → IsConstantValue w c →
      HasValue (constant w) for_constant c
  of_name : {n : List ℕ} {arguments : Bool} {c : Number} →
      HasValue (named n arguments) (for_name c) c
  of_defined : {n : List ℕ} {p b : Bool} →
      HasValue (is_defined n p) (for_defined b) (signed (truth b))
  of_unary : {o : Operator} {a : Expression} {m : Choice a} {x c : Number} → HasValue a m x →
      GivesUnary o x c → HasValue (unary o a) (for_unary m) c
  of_binary : {o : Operator} {a b : Expression} {m : Choice a} {k : Choice b} {x y c : Number} →
      HasValue a m x → HasValue b k y → Gives o x y c →
      HasValue (binary o a b) (for_binary m k) c
  of_and_left : {a b : Expression} {m : Choice a} {k : Choice b} {x : Number} → HasValue a m x →
      IsZero x → HasValue (binary And a b) (for_binary m k) (signed (pos 0))
  of_and_both : {a b : Expression} {m : Choice a} {k : Choice b} {x y c : Number} →
      HasValue a m x → (IsZero x → ⊥) → HasValue b k y → IsTruth (IsZero y → ⊥) c →
      HasValue (binary And a b) (for_binary m k) c
  of_or_left : {a b : Expression} {m : Choice a} {k : Choice b} {x : Number} → HasValue a m x →
      (IsZero x → ⊥) → HasValue (binary Or a b) (for_binary m k) (signed (pos 1))
  of_or_both : {a b : Expression} {m : Choice a} {k : Choice b} {x y c : Number} →
      HasValue a m x → IsZero x → HasValue b k y → IsTruth (IsZero y → ⊥) c →
      HasValue (binary Or a b) (for_binary m k) c
  of_parens : {a : Expression} {m : Choice a} {c : Number} → HasValue a m c →
      HasValue (parens a) (for_parens m) c

-- `one_or_both b d o c x y m k`: the choice for the residual of `o`: `k` for its right operand if
-- `b`, `m` for its left one if `d`, else both.
abbrev pub one_or_both : (b d : Bool) (o : Operator) (c : Cond) (x y : Residual) → Choice x.tree →
    Choice y.tree →
    Choice (joined_if b d o c x y).tree
one_or_both true d o c x y m k = k
one_or_both false true o c x y m k = m
one_or_both false false o c x y m k = for_binary m k

-- `bare_or_not b x m`: the choice `m` for the residual of parentheses, which are removed if `b`.
abbrev pub bare_or_not : (b : Bool) (x : Residual) → Choice x.tree →
    Choice (if b then x else record x { tree = parens x.tree }).tree
bare_or_not true x m = m
bare_or_not false x m = for_parens m

module _ (table : List Argument) (rules : Rules) where
  -- `stay m`: the choice `m` for the uses that are left in the residual.
  abbrev pub stay : {e : Expression} → Choice e → Choice (residual table rules e).tree
  stay (for_constant {w = w}) = for_constant {w = w}
  stay (for_name c) = for_name c
  stay (for_defined b) = for_defined b
  stay (for_unary {o = Not} m) = for_unary (stay m)
  stay (for_unary {o = o} m) = for_unary m
  stay (for_binary {o = And} {a = a} {b = b} m k) =
      one_or_both (is_unit And (residual table rules a).cond)
      (is_unit And (residual table rules b).cond) And
      (settled rules.strict And (residual table rules a).cond (residual table rules b).cond)
      (residual table rules a) (residual table rules b) (stay m) (stay k)
  stay (for_binary {o = Or} {a = a} {b = b} m k) =
      one_or_both (is_unit Or (residual table rules a).cond)
      (is_unit Or (residual table rules b).cond) Or
      (settled rules.strict Or (residual table rules a).cond (residual table rules b).cond)
      (residual table rules a) (residual table rules b) (stay m) (stay k)
  stay (for_binary {o = o} m k) = for_binary m k
  stay (for_parens {a = a} m) =
      bare_or_not ((residual table rules a).lost && stands_alone (residual table rules a).tree)
      (residual table rules a) (stay m)
