-- Keepings: what a program keeps of an expression while it reads it.
-- `ud_model.specs.conditions.Parsing` defines what an expression means. A program keeps a part of
-- its own for each meaning, and may note a flag for each token.
--
--   Keeping A P N           the parts `P` and the notes `N` for the meanings `A`
--   Noted K n fs            the notes, if there are any, are the flags `fs`
--   IsKept K k front x n    the part `x` is for `k`, after tokens with the flags `front`
--   IsAt K ps x n (k, s)    the program has the part `x` for `k` after the frames `s`
--   Represents K x ps n q   the program is in the state `q` of the parser
--   ReadsOperand K m ps n token ..      a token is read where an operand has to come
--   ReadsOperator K m ps x n token ..   a token is read after an operand
use Rattle.std.specs.Prelude.{◌≡◌, ℕ, ◌+◌, List, [], ◌∷◌, ◌++◌, length, Option, Some, None, IfSome}
use Rattle.std.specs.Prelude.{Bool, true, false}
use Rattle.ud_model.specs.conditions.Parsing.{Meaning, Frame, left, before, paren, ParseState}
use Rattle.ud_model.specs.conditions.Parsing.{needs, has, reads, step}
use Rattle.ud_model.specs.conditions.Tokens.{Token}

-- How a program keeps the meanings `A`: by parts `P`, and by notes `N` on the tokens so far.
pub record Keeping (A P N : Type 0) : Type 0 where
  -- The part for a meaning whose first token has this index.
  pub part : A → ℕ → P
  -- The flags of the tokens of a meaning.
  pub flags : A → List Bool
  -- The noted flags, if any.
  pub notes : N → Option (List Bool)

-- `number_of fs`: the number of noted flags.
abbrev pub number_of : Option (List Bool) → ℕ
number_of None = 0
number_of (Some fs) = length fs

-- `tokens_asked p`: the number of tokens of a `defined` and a name, in parentheses if `p`.
abbrev pub tokens_asked : Bool → ℕ
tokens_asked false = 2
tokens_asked true = 4

module _ {A P N : Type 0} (K : Keeping A P N) where
  -- `count n`: the number of noted flags.
  abbrev pub count : N → ℕ
  count n = number_of (K.notes n)

  -- `Noted n fs`: the notes, if there are any, are the flags `fs`.
  abbrev pub Noted : N → List Bool → Type 0
  Noted n fs = IfSome (K.notes n) (λ gs. gs ≡ fs)

  -- `IsKept k front x n`: `x` is the part for `k`, after tokens with the flags `front`.
  abbrev pub IsKept : A → List Bool → P → N → Type 0
  IsKept k front x n = (x ≡ K.part k (length front)) × Noted n (front ++ K.flags k)

  -- `Appends k n x m`: the part `x` for `k` comes after the tokens of the notes `n`.
  abbrev pub Appends : A → N → P → N → Type 0
  Appends k n x m = (front : List Bool) → Noted n front → IsKept k front x m

  -- `KeepsUnary f a n x m`: the part `x` is for `f k`, where `a` is for `k` after one more token.
  abbrev pub KeepsUnary : (A → A) → P → N → P → N → Type 0
  KeepsUnary f a n x m = (k : A) (front : List Bool) → a ≡ K.part k (length front + 1) →
      Noted n (front ++ true ∷ K.flags k) → IsKept (f k) front x m

  -- `KeepsBinary f a b n x m`: the part `x` is for `f k j`, where `a` is for `k`, and `b` for `j`
  -- after one more token.
  abbrev pub KeepsBinary : (A → A → A) → P → P → N → P → N → Type 0
  KeepsBinary f a b n x m = (k j : A) (front : List Bool) → a ≡ K.part k (length front) →
      b ≡ K.part j (length front + (length (K.flags k) + 1)) →
      Noted n (front ++ K.flags k ++ true ∷ K.flags j) → IsKept (f k j) front x m

  -- `flags_in s`: the flags of the tokens that are pending in the frames `s`, outermost first.
  abbrev pub flags_in : List (Frame A) → List Bool
  flags_in [] = []
  flags_in (left o a ∷ s) = flags_in s ++ K.flags a ++ true ∷ []
  flags_in (before o ∷ s) = flags_in s ++ true ∷ []
  flags_in (paren ∷ s) = flags_in s ++ true ∷ []

  -- `parts_of s`: the frames `s` with the program's parts.
  abbrev pub parts_of : List (Frame A) → List (Frame P)
  parts_of [] = []
  parts_of (left o a ∷ s) = left o (K.part a (length (flags_in s))) ∷ parts_of s
  parts_of (before o ∷ s) = before o ∷ parts_of s
  parts_of (paren ∷ s) = paren ∷ parts_of s

  -- `Awaits ps n s`: the program needs an operand for the frames `s`.
  abbrev pub Awaits : List (Frame P) → N → List (Frame A) → Type 0
  Awaits ps n s = (ps ≡ parts_of s) × Noted n (flags_in s)

  -- `IsAt ps x n (k, s)`: the program has the part for `k` after the frames `s`.
  abbrev pub IsAt : List (Frame P) → P → N → A × List (Frame A) → Type 0
  IsAt ps x n (k, s) = (ps ≡ parts_of s) × IsKept k (flags_in s) x n

  -- `Represents x ps n q`: with the operand `x`, if one has come, the program is in the state `q`.
  abbrev pub Represents : Option P → List (Frame P) → N → ParseState A → Type 0
  Represents None ps n (needs s) = Awaits ps n s
  Represents (Some x) ps n (has k s) = IsAt ps x n (k, s)
  Represents _ ps n _ = ⊥

  -- `ReadsOn m q text x ps n rest`: what `text` means in the state `q`, `rest` means in the
  -- program's state.
  abbrev pub ReadsOn : Meaning A → ParseState A → List ℕ → Option P → List (Frame P) → N →
      List ℕ → Type 0
  ReadsOn m q text x ps n rest = (p : ParseState A) × Represents x ps n p ×
      (reads m q text ≡ reads m p rest)

  -- `ReadsOperand m ps n token text x qs o rest`: in each state in which the program needs an
  -- operand, `token` was read, and what `text` means after it, `rest` means in the program's state.
  abbrev pub ReadsOperand : Meaning A → List (Frame P) → N → Token → List ℕ → Option P →
      List (Frame P) → N → List ℕ → Type 0
  ReadsOperand m ps n token text x qs o rest = (s : List (Frame A)) → Awaits ps n s →
      ReadsOn m (step m (needs s) token) text x qs o rest

  -- `ReadsOperator m ps x n token y qs o`: in each state in which the program has the part `x`,
  -- `token` was read.
  abbrev pub ReadsOperator : Meaning A → List (Frame P) → P → N → Token → Option P →
      List (Frame P) → N → Type 0
  ReadsOperator m ps x n token y qs o = (s : List (Frame A)) (k : A) → IsAt ps x n (k, s) →
      Represents y qs o (step m (has k s) token)

  -- `IsMeant m o x n`: `o` is a meaning, and the program has the part `x` for it.
  abbrev pub IsMeant : Option A → P → N → Type 0
  IsMeant o x n = (k : A) × (o ≡ Some k) × IsKept k [] x n
