-- Residuals: a condition without the operands that the table decides.
-- C11 6.5.13p3, 6.5.14p3: only the truth of the operands of `&&`, `||` and `!` counts, and only the
-- truth of a whole condition (6.10.1p6).
--
--   Residual        a condition, and the expression that is left for it
--   operands e      the operands of the tree: what its `&&`, `||` and `!` join, unless they are
--                   inside an operand of another operator
--   joined_if b d o c x y
--                   the residual `y` if `b`, else `x` if `d`, else `o` between both
--   residual e      the tree `e` without each operand that the table decides, and without its
--                   operator, unless the operand decides that operator's value
--   simplified e    the residual of a whole condition, or `e` itself if that is decided
--   keeps e         for each token of the tree `e` whether it is left
--   chosen flags xs
--                   the members of `xs` whose flag is true
--
-- An operand is decided as an `#if` of the operand alone would be. Nothing is added, and nothing
-- moves.
--
-- Example: with A undefined, `A || X` leaves `X`, `!A && (A || defined X)` leaves `defined X`, and
-- `A + X > 2` stays.
use Rattle.std.specs.Prelude.{◌≡◌, List, [], ◌∷◌, ◌++◌, Bool, true, false, not, ◌&&◌, if◌then◌else◌}
use Rattle.std.specs.Prelude.{map}
use Rattle.ud_model.specs.conditions.Table.{Argument}
use Rattle.ud_model.specs.conditions.Expressions.{Expression, is_defined, unary, binary, parens}
use Rattle.ud_model.specs.conditions.Expressions.{spelling}
use Rattle.ud_model.specs.conditions.Conditions.{Rules, tree_cond, negate}
use Rattle.ud_model.specs.declared.cond.Cond.{Cond}
use Rattle.ud_model.specs.declared.cond.Cond.TheVariants.{Yes, No, Unknown}
use Rattle.ud_model.specs.declared.operator.Operator.{Operator}
use Rattle.ud_model.specs.declared.operator.Operator.TheVariants.{Or, And, Not}

-- A condition, and the expression that is left for it.
pub record Residual : Type 0 where
  pub cond : Cond
  pub tree : Expression
  -- The operator `&&` or `||` at the top of the expression was removed, with one of its operands.
  pub lost : Bool

-- `is_unit o c`: beside an operand with the condition `c` the other one alone decides `o`.
abbrev pub is_unit : Operator → Cond → Bool
is_unit And Yes = true
is_unit Or No = true
is_unit _ _ = false

-- `settles o c`: an operand with the condition `c` decides the value of `o`.
abbrev pub settles : Operator → Cond → Bool
settles And No = true
settles Or Yes = true
settles _ _ = false

-- `is_unknown c`: the condition is unknown.
abbrev pub is_unknown : Cond → Bool
is_unknown Unknown = true
is_unknown _ = false

-- `settled strict o c d`: the condition of `o` between operands with the conditions `c` and `d`,
-- neither of which is a unit. Under `strict` one operand decides nothing if the other is unknown.
abbrev pub settled : Bool → Operator → Cond → Cond → Cond
settled strict o c d =
    if settles o c && not (strict && is_unknown d) then c
    else if settles o d && not (strict && is_unknown c) then d
    else Unknown

-- `joined_if b d o c x y`: the residual `y` if `b`, else `x` if `d`, else the tree of `o` between
-- both, with the condition `c`.
abbrev pub joined_if : Bool → Bool → Operator → Cond → Residual → Residual → Residual
joined_if b d o c x y =
    if b then record y { lost = true }
    else if d then record x { lost = true }
    else record { cond = c; tree = binary o x.tree y.tree; lost = false }

-- `joined strict o x y`: the residual of `o` between operands with the residuals `x` and `y`.
abbrev pub joined : Bool → Operator → Residual → Residual → Residual
joined strict o x y =
    joined_if (is_unit o x.cond) (is_unit o y.cond) o (settled strict o x.cond y.cond) x y

-- `negated x`: the residual of `!` before an operand with the residual `x`.
abbrev pub negated : Residual → Residual
negated x = record { cond = negate x.cond; tree = unary Not x.tree; lost = false }

-- `stands_alone e`: the tree needs no parentheses, whatever surrounds it, and whatever text a macro
-- in it expands to. Such a tree is a `defined`, parentheses, or either after a prefix operator.
abbrev pub stands_alone : Expression → Bool
stands_alone (is_defined n parentheses) = true
stands_alone (parens a) = true
stands_alone (unary o a) = stands_alone a
stands_alone _ = false

-- `enclosed x`: the residual of parentheses around an expression with the residual `x`. The
-- parentheses are removed if the operator in them was and they aren't needed.
abbrev pub enclosed : Residual → Residual
enclosed x =
    if x.lost && stands_alone x.tree then x
    else record x { tree = parens x.tree }

module _ (table : List Argument) (rules : Rules) where
  -- `alone e`: an operand, decided by itself.
  abbrev pub alone : Expression → Residual
  alone e = record { cond = tree_cond e table rules; tree = e; lost = false }

  -- `residual e`: the tree `e` without its decided operands. A decided operand of `&&` or `||` is
  -- removed if the other operand decides the value.
  abbrev pub residual : Expression → Residual
  residual (unary Not a) = negated (residual a)
  residual (binary And a b) = joined rules.strict And (residual a) (residual b)
  residual (binary Or a b) = joined rules.strict Or (residual a) (residual b)
  residual (parens a) = enclosed (residual a)
  residual e = alone e

  -- `AreUndecided xs`: each of these operands is unknown as a condition of its own.
  abbrev pub AreUndecided : List Expression → Type 0
  AreUndecided [] = Unit {0}
  AreUndecided (x ∷ xs) = (tree_cond x table rules ≡ Unknown) × AreUndecided xs

  -- `is_undecided x`: the residual is unknown, by its operands and as a whole.
  abbrev pub is_undecided : Residual → Bool
  is_undecided x = is_unknown x.cond && is_unknown (tree_cond x.tree table rules)

-- `operands e`: the operands of the tree, in order: what its `&&`, `||` and `!` join, unless they
-- are inside an operand of another operator.
abbrev pub operands : Expression → List Expression
operands (unary Not a) = operands a
operands (binary And a b) = operands a ++ operands b
operands (binary Or a b) = operands a ++ operands b
operands (parens a) = operands a
operands e = e ∷ []

-- `chosen flags xs`: the members of `xs` whose flag is true, in order.
abbrev pub chosen : {A : Type 0} → List Bool → List A → List A
chosen [] xs = []
chosen (f ∷ flags) [] = []
chosen (f ∷ flags) (x ∷ xs) = if f then x ∷ chosen flags xs else chosen flags xs

-- `all_flags f e`: the flag `f` for each token of the tree `e`.
abbrev pub all_flags : Bool → Expression → List Bool
all_flags f e = map (λ t. f) (spelling e)

-- `joined_flags b d e f xs ys`: the flags of an operator between `e` and `f`, whose flags are `xs`
-- and `ys`. Only the right operand is left if `b`, only the left one if `d`, else both.
abbrev pub joined_flags : Bool → Bool → Expression → Expression → List Bool → List Bool → List Bool
joined_flags b d e f xs ys =
    if b then all_flags false e ++ false ∷ ys
    else if d then xs ++ false ∷ all_flags false f
    else xs ++ true ∷ ys

module _ (table : List Argument) (rules : Rules) where
  -- `keeps e`: for each token of the tree whether it is left.
  abbrev pub keeps : Expression → List Bool
  keeps (unary Not a) = true ∷ keeps a
  keeps (binary And a b) =
      joined_flags (is_unit And (residual table rules a).cond)
      (is_unit And (residual table rules b).cond) a b (keeps a) (keeps b)
  keeps (binary Or a b) =
      joined_flags (is_unit Or (residual table rules a).cond)
      (is_unit Or (residual table rules b).cond) a b (keeps a) (keeps b)
  keeps (parens a) =
      not ((residual table rules a).lost && stands_alone (residual table rules a).tree) ∷
      keeps a ++
      not ((residual table rules a).lost && stands_alone (residual table rules a).tree) ∷ []
  keeps e = all_flags true e
