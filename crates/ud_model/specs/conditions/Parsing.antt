-- Parsing: the tree of a text, computed. The meaning of a text is defined in Expressions, by
-- `IsWritten`; this file finds the tree.
--
--   expression_of text   the tree of a text, if it has one
--   Meaning A            the meaning of each node of a tree, in any type
--   meaning m e          the meaning of a tree
--   Below k s            the pending operators are looser than precedence `k`
--   reads m s text       the meaning of a text, read from a state, without a tree
--
-- Tokens are read one at a time, with the operators that wait for their operands. Since the meaning
-- is a parameter, a program without a tree takes the same steps.
use Rattle.std.specs.Prelude.{ℕ, zero, suc, ◌<◌, ◌≤◌, leb, Bool, true, false, if◌then◌else◌, List}
use Rattle.std.specs.Prelude.{[], ◌∷◌, length, Option, Some, None, option_map}
use Rattle.ud_model.specs.conditions.Tokens.{Token, number, name, defined, operator, opening}
use Rattle.ud_model.specs.conditions.Tokens.{closing, NextToken, at_end, unreadable, found}
use Rattle.ud_model.specs.conditions.Tokens.{next_token}
use Rattle.ud_model.specs.conditions.Expressions.{Expression, constant, named, is_defined, unary}
use Rattle.ud_model.specs.conditions.Expressions.{binary, parens, precedence, is_prefix}
use Rattle.ud_model.specs.declared.operator.Operator.{Operator}

-- The meaning of each node of a tree, in the type `A`.
pub record Meaning (A : Type 0) : Type 0 where
  pub constant : List ℕ → A
  pub named : List ℕ → Bool → A
  pub is_defined : List ℕ → Bool → A
  pub unary : Operator → A → A
  pub binary : Operator → A → A → A
  pub parens : A → A

-- `meaning m e`: the meaning of the tree `e`.
abbrev pub meaning : {A : Type 0} → Meaning A → Expression → A
meaning m (constant w) = m.constant w
meaning m (named n a) = m.named n a
meaning m (is_defined n p) = m.is_defined n p
meaning m (unary o a) = m.unary o (meaning m a)
meaning m (binary o a b) = m.binary o (meaning m a) (meaning m b)
meaning m (parens a) = m.parens (meaning m a)

-- An entry of the parser's stack, which waits for an operand.
pub data Frame (A : Type 0) : Type 0 where
  -- A left operand and its operator.
  left : Operator → A → Frame A
  -- An operator before its operand.
  before : Operator → Frame A
  -- An open parenthesis.
  paren : Frame A

-- `Below k s`: the pending operators of the stack `s` are looser than precedence `k`, so none of
-- them takes an operand before an operator of this precedence. A parenthesis hides what is outside
-- it.
abbrev pub Below : {A : Type 0} → ℕ → List (Frame A) → Type 0
Below k [] = Unit {0}
Below k (left o a ∷ s) = precedence o < k
Below k (before o ∷ s) = 10 ≤ k
Below k (paren ∷ s) = Unit {0}

-- The state of the parser.
pub data ParseState (A : Type 0) : Type 0 where
  -- An operand must come next.
  needs : List (Frame A) → ParseState A
  -- An operand has come.
  has : A → List (Frame A) → ParseState A
  -- After `defined`.
  asks : List (Frame A) → ParseState A
  -- After `defined (`.
  asks_inside : List (Frame A) → ParseState A
  -- After `defined ( NAME`.
  asks_end : List ℕ → List (Frame A) → ParseState A
  -- No expression begins with these tokens.
  stuck : ParseState A

module _ {A : Type 0} (m : Meaning A) where
  -- `reduce j x s`: the operators of precedence `j` or tighter take their operands, of which `x` is
  -- the last.
  abbrev pub reduce : ℕ → A → List (Frame A) → A × List (Frame A)
  reduce j x [] = (x, [])
  reduce j x (left o a ∷ s) =
      if leb j (precedence o) then reduce j (m.binary o a x) s
      else (x, left o a ∷ s)
  reduce j x (before o ∷ s) = reduce j (m.unary o x) s
  reduce j x (paren ∷ s) = (x, paren ∷ s)

  -- `close (x, s)`: a closing parenthesis matches the open one on the stack, with the operand `x`
  -- between them.
  abbrev pub close : A × List (Frame A) → ParseState A
  close (x, paren ∷ s) = has (m.parens x) s
  close (x, _) = stuck

  -- `wait o (x, s)`: the operator `o` with its left operand `x` waits for the right one.
  abbrev pub wait : Operator → A × List (Frame A) → ParseState A
  wait o (x, s) = needs (left o x ∷ s)

  -- `step s t`: the state after the token `t`.
  abbrev pub step : ParseState A → Token → ParseState A
  step (needs s) (number w) = has (m.constant w) s
  step (needs s) (name n a) = has (m.named n a) s
  step (needs s) defined = asks s
  step (needs s) (operator o) = if is_prefix o then needs (before o ∷ s) else stuck
  step (needs s) opening = needs (paren ∷ s)
  step (needs s) closing = stuck
  step (has x s) (operator o) =
      if leb 1 (precedence o) then wait o (reduce (precedence o) x s)
      else stuck
  step (has x s) closing = close (reduce 0 x s)
  step (has x s) _ = stuck
  step (asks s) (name n false) = has (m.is_defined n false) s
  step (asks s) opening = asks_inside s
  step (asks s) _ = stuck
  step (asks_inside s) (name n false) = asks_end n s
  step (asks_inside s) _ = stuck
  step (asks_end n s) closing = has (m.is_defined n true) s
  step (asks_end n s) _ = stuck
  step stuck _ = stuck

  -- `alone (x, s)`: the operand `x` if nothing waits, else None.
  abbrev pub alone : A × List (Frame A) → Option A
  alone (x, []) = Some x
  alone (x, _ ∷ _) = None

  -- `finish s`: the meaning of the tokens that end in the state `s`, if they are an expression.
  abbrev pub finish : ParseState A → Option A
  finish (has x s) = alone (reduce 0 x s)
  finish _ = None

  -- `parse_tokens s ts`: the meaning of the tokens up to the state `s`, followed by `ts`.
  abbrev pub parse_tokens : ParseState A → List Token → Option A
  parse_tokens s [] = finish s
  parse_tokens s (t ∷ ts) = parse_tokens (step s t) ts

-- `prepend_token f next`: the token `next` and the ones that `f` finds after it; None if one can't
-- be read.
abbrev pub prepend_token : (List ℕ → Option (List Token)) → NextToken → Option (List Token)
prepend_token f at_end = Some []
prepend_token f unreadable = None
prepend_token f (found t rest) = option_map (λ ts. t ∷ ts) (f rest)

-- `tokens_in n text`: the tokens of `text`, if it has fewer than `n`.
abbrev pub tokens_in : ℕ → List ℕ → Option (List Token)
tokens_in zero text = None
tokens_in (suc n) text = prepend_token (λ rest. tokens_in n rest) (next_token text)

-- `tokens_of text`: the tokens of `text`, if they reach its end. Each has at least one byte.
unfoldable pub tokens_of : List ℕ → Option (List Token)
tokens_of text = tokens_in (suc (length text)) text

-- `parse_all_tokens m s tokens`: the meaning of the tokens, if there are any.
abbrev pub parse_all_tokens : {A : Type 0} → Meaning A → ParseState A → Option (List Token) →
    Option A
parse_all_tokens m s None = None
parse_all_tokens m s (Some ts) = parse_tokens m s ts

-- `reads m s text`: the meaning of `text` in the state `s`, if it has one.
unfoldable pub reads : {A : Type 0} → Meaning A → ParseState A → List ℕ → Option A
reads m s text = parse_all_tokens m s (tokens_of text)

-- The meaning in which each node means itself.
abbrev pub itself : Meaning Expression
itself = record {
  constant = constant;
  named = named;
  is_defined = is_defined;
  unary = unary;
  binary = binary;
  parens = parens;
}

-- `expression_of text`: the tree of `text`, if it has one.
unfoldable pub expression_of : List ℕ → Option Expression
expression_of text = reads itself (needs []) text
