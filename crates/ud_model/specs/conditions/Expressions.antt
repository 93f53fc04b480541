-- Expressions: the trees of texts that are expressions.
-- C11 6.5 and 6.10.1p1. Each operator has a precedence; 1 is the loosest. Operators of the same
-- precedence associate to the left.
--
-- Example: `1 - 2 - 3` has the tree (1 - 2) - 3 and no other tree.
use Rattle.std.specs.Prelude.{ℕ, ◌+◌, ◌≤◌, Bool, true, false, IsTrue, List, [], ◌∷◌, ◌++◌}
use Rattle.ud_model.specs.conditions.Tokens.{Token, number, name, defined, operator, opening}
use Rattle.ud_model.specs.conditions.Tokens.{closing, AreTokens}
use Rattle.ud_model.specs.declared.operator.Operator.{Operator}
use Rattle.ud_model.specs.declared.operator.Operator.TheVariants.{Or, And, BitOr, BitXor, BitAnd}
use Rattle.ud_model.specs.declared.operator.Operator.TheVariants.{Equal, NotEqual, Less, LessEqual}
use Rattle.ud_model.specs.declared.operator.Operator.TheVariants.{Greater, GreaterEqual, Plus}
use Rattle.ud_model.specs.declared.operator.Operator.TheVariants.{Minus, Times, Over, Remainder}
use Rattle.ud_model.specs.declared.operator.Operator.TheVariants.{Not, Complement}

-- `precedence o`: the precedence of `o` between two operands, or 0 if `o` is never between two.
abbrev pub precedence : Operator → ℕ
precedence Or = 1
precedence And = 2
precedence BitOr = 3
precedence BitXor = 4
precedence BitAnd = 5
precedence Equal = 6
precedence NotEqual = 6
precedence Less = 7
precedence LessEqual = 7
precedence Greater = 7
precedence GreaterEqual = 7
precedence Plus = 8
precedence Minus = 8
precedence Times = 9
precedence Over = 9
precedence Remainder = 9
precedence Not = 0
precedence Complement = 0

-- `is_prefix o`: `o` may precede its one operand.
abbrev pub is_prefix : Operator → Bool
is_prefix Not = true
is_prefix Complement = true
is_prefix Minus = true
is_prefix _ = false

-- A tree of operands and operators.
pub data Expression : Type 0 where
  constant : List ℕ → Expression
  -- A name, and whether it has arguments.
  named : List ℕ → Bool → Expression
  -- `defined` and a name, and whether the name is in parentheses.
  is_defined : List ℕ → Bool → Expression
  unary : Operator → Expression → Expression
  binary : Operator → Expression → Expression → Expression
  -- An expression in parentheses.
  parens : Expression → Expression

-- `spelling e`: the tokens of the tree `e`, in order.
abbrev pub spelling : Expression → List Token
spelling (constant w) = number w ∷ []
spelling (named n arguments) = name n arguments ∷ []
spelling (is_defined n false) = defined ∷ name n false ∷ []
spelling (is_defined n true) = defined ∷ opening ∷ name n false ∷ closing ∷ []
spelling (unary o a) = operator o ∷ spelling a
spelling (binary o a b) = spelling a ++ operator o ∷ spelling b
spelling (parens a) = opening ∷ spelling a ++ closing ∷ []

-- `HasPrecedence k e`: the tree `e` has precedence `k` or a tighter one. The left operand of an
-- operator is at least as tight as the operator, and the right one is tighter. The operand of a
-- prefix operator is tighter than any binary operator.
abbrev pub HasPrecedence : ℕ → Expression → Type 0
HasPrecedence k (constant w) = Unit {0}
HasPrecedence k (named n arguments) = Unit {0}
HasPrecedence k (is_defined n parentheses) = Unit {0}
HasPrecedence k (unary o a) = IsTrue (is_prefix o) × HasPrecedence 10 a
HasPrecedence k (binary o a b) = (k ≤ precedence o) × HasPrecedence (precedence o) a ×
    HasPrecedence (precedence o + 1) b
HasPrecedence k (parens a) = HasPrecedence 1 a

-- `IsWritten text e`: `e` is the tree of `text`: `text` has the tokens of `e`, and `e` is nested by
-- precedence.
abbrev pub IsWritten : List ℕ → Expression → Type 0
IsWritten text e = HasPrecedence 1 e × AreTokens text (spelling e)
