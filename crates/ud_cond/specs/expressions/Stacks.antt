-- Stacks: what is pending in an expression, as two stacks. `ud_model.specs.conditions.Parsing` has
-- one list of frames for what is pending, and defines what a text means in the state with that
-- list.
use Rattle.std.specs.Prelude.{ℕ, ◌<◌, ◌≤◌, ◌+◌, ◌*◌, Bool, true, false, List, [], ◌∷◌, Option, Some}
use Rattle.std.specs.Prelude.{None}
use Rattle.ud_model.specs.conditions.Expressions.{precedence}
use Rattle.ud_model.specs.conditions.Parsing.{Frame, left, before, paren}
use Rattle.ud_model.specs.declared.operator.Operator.{Operator}
use Rattle.ud_model.specs.declared.limits.TheConstants.{MAX_LINE_BYTES}
use Rattle.ud_cond.specs.declared.expressions.stacks.PendingOp.{PendingOp}
use Rattle.ud_cond.specs.declared.expressions.stacks.PendingOp.TheVariants.{Binary, Prefix, Opening}

-- `Suffice bytes operands`: stacks of `bytes` operators and `operands` operands suffice for a text
-- of `bytes` bytes, no longer than a line: there are at least half as many operands.
abbrev pub Suffice : ℕ → ℕ → Type 0
Suffice bytes operands = (bytes ≤ MAX_LINE_BYTES) × (operands ≤ bytes) × (bytes ≤ 2 * operands)

-- `frames ws vs`: what is pending, by the operators and the left operands, each from the top down.
abbrev pub frames : {A : Type 0} → List PendingOp → List A → List (Frame A)
frames [] vs = []
frames (Binary o ∷ ws) [] = []
frames (Binary o ∷ ws) (a ∷ vs) = left o a ∷ frames ws vs
frames (Prefix o ∷ ws) vs = before o ∷ frames ws vs
frames (Opening ∷ ws) vs = paren ∷ frames ws vs

-- `AreMatched ws vs`: each left operand has its operator, and each binary operator its left
-- operand.
abbrev pub AreMatched : {A : Type 0} → List PendingOp → List A → Type 0
AreMatched [] [] = Unit {0}
AreMatched [] (a ∷ vs) = ⊥
AreMatched (Binary o ∷ ws) [] = ⊥
AreMatched (Binary o ∷ ws) (a ∷ vs) = AreMatched ws vs
AreMatched (Prefix o ∷ ws) vs = AreMatched ws vs
AreMatched (Opening ∷ ws) vs = AreMatched ws vs

-- `is_empty s`: nothing is pending.
abbrev pub is_empty : {A : Type 0} → List (Frame A) → Bool
is_empty [] = true
is_empty (f ∷ s) = false

-- `weight s`: the least number of bytes of the text that the frames take.
abbrev pub weight : {A : Type 0} → List (Frame A) → ℕ
weight [] = 0
weight (left o a ∷ s) = weight s + 2
weight (before o ∷ s) = weight s + 1
weight (paren ∷ s) = weight s + 1

-- `popped o a`: the frame of an operator popped from the top, with its left operand if it has one.
abbrev pub popped : {A : Type 0} → Operator → Option A → Frame A
popped o (Some a) = left o a
popped o None = before o

-- `BindsAsTightly j o a`: the operator binds at least as tightly as precedence `j`, like every
-- prefix operator; `a` is its left operand, if any.
abbrev pub BindsAsTightly : {A : Type 0} → ℕ → Operator → Option A → Type 0
BindsAsTightly j o (Some a) = j ≤ precedence o
BindsAsTightly j o None = Unit {0}

-- `IsSettled j s`: no prefix operator and none of precedence `j` or more is on top.
abbrev pub IsSettled : {A : Type 0} → ℕ → List (Frame A) → Type 0
IsSettled j [] = Unit {0}
IsSettled j (left o a ∷ s) = precedence o < j
IsSettled j (before o ∷ s) = ⊥
IsSettled j (paren ∷ s) = Unit {0}

-- `IsNoParen s`: no parenthesis is on top.
abbrev pub IsNoParen : {A : Type 0} → List (Frame A) → Type 0
IsNoParen [] = Unit {0}
IsNoParen (left o a ∷ s) = Unit {0}
IsNoParen (before o ∷ s) = Unit {0}
IsNoParen (paren ∷ s) = ⊥

-- `operand_weight v`: the least number of bytes of the text that the operand takes, if there is
-- one.
abbrev pub operand_weight : {A : Type 0} → Option A → ℕ
operand_weight (Some v) = 1
operand_weight None = 0
