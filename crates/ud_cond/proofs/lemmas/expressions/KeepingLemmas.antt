-- The states of the parser that a program is in, by what it keeps.
use Rattle.std.proofs.Common.{◌≡◌, ℕ, ◌≤◌, List, [], ◌∷◌, ◌++◌, length, Bool, true, Option, Some, None, IfSome, IfNone, refl, append_assoc, length-append, arith}
use Rattle.std.proofs.lemmas.Bool.{le-leb, lt-leb}
use Rattle.ud_model.specs.conditions.Expressions.{precedence}
use Rattle.ud_model.specs.conditions.Parsing.{Meaning, Frame, left, before, paren, ParseState, needs, has, reduce, alone}
use Rattle.ud_model.specs.declared.operator.Operator.{Operator}
use Rattle.ud_cond.specs.expressions.Stacks.{popped, IsSettled, is_empty}
use Rattle.ud_cond.specs.expressions.Keepings.{Keeping, number_of, count, Noted, IsKept, KeepsUnary, KeepsBinary, flags_in, parts_of, Awaits, IsAt, Represents}

-- what holds of a result, if there is one
pub if_some : {A : Type 0} (o : Option A) {P Q : A → Type 0} → ((x : A) → P x → Q x) → IfSome o P → IfSome o Q
if_some o f h = grind arith

pub if_none : {A : Type 0} (o : Option A) {P Q : Type 0} → (P → Q) → IfNone o P → IfNone o Q
if_none o f h = grind arith

-- no more flags are noted than the tokens have
noted_by : (o : Option (List Bool)) (fs : List Bool) → IfSome o (λ gs. gs ≡ fs) → number_of o ≤ length fs
noted_by o fs h = grind arith

module _ {A P N : Type 0} (K : Keeping A P N) where
  pub count_noted : (n : N) (fs : List Bool) → Noted K n fs → count K n ≤ length fs
  count_noted n fs h = noted_by (K.notes n) fs h

  module _ (ps : List (Frame P)) (n : N) where
    pub needs_of : (q : ParseState A) → Represents K None ps n q → (s : List (Frame A)) × (q ≡ needs s) × Awaits K ps n s
    needs_of q h = grind arith

    pub has_of : (x : P) (q : ParseState A) → Represents K (Some x) ps n q → (k : A) × (s : List (Frame A)) × (q ≡ has k s) × IsAt K ps x n (k, s)
    has_of x q h = grind arith

  module _ (m : Meaning A) where
    -- at the end nothing is pending
    pub ended : (k : A) (s : List (Frame A)) (x : P) (ps : List (Frame P)) (n : N) → is_empty ps ≡ true → IsAt K ps x n (k, s) → (alone m (k, s) ≡ Some k) × IsKept K k [] x n
    ended k [] x ps n e h = (refl, h.1)
    ended k (left o a ∷ s) x ps n e h = let f = h.0 in cc
    ended k (before o ∷ s) x ps n e h = let f = h.0 in cc
    ended k (paren ∷ s) x ps n e h = let f = h.0 in cc

    module _ (least : ℕ) where
      -- the program after one operator more took its operands
      pub record Next (ps : List (Frame P)) (x : P) (n : N) (j : A) (t : List (Frame A)) : Type 0 where
        pub frames : List (Frame A)
        pub part : A
        pub at : IsAt K ps x n (part, frames)
        pub same : reduce m least j t ≡ reduce m least part frames

      module _ (o : Operator) (ps : List (Frame P)) (part now : P) (n later : N) (j : A) where
        -- an operator with its left operand
        pub next_binary : (x : P) (t : List (Frame A)) → popped o (Some x) ∷ ps ≡ parts_of K t → least ≤ precedence o →
            part ≡ K.part j (length (flags_in K t)) → Noted K n (flags_in K t ++ K.flags j) →
            KeepsBinary K (m.binary o) x part n now later → Next ps now later j t
        next_binary x [] e l p f h = cc
        next_binary x (before q ∷ s) e l p f h = cc
        next_binary x (paren ∷ s) e l p f h = cc
        next_binary x (left q a ∷ s) e l p f h = grind (arith, length-append, append_assoc, le-leb)

        -- a prefix operator
        pub next_prefix : (t : List (Frame A)) → popped o None ∷ ps ≡ parts_of K t → part ≡ K.part j (length (flags_in K t)) → Noted K n (flags_in K t ++ K.flags j) →
            KeepsUnary K (m.unary o) part n now later → Next ps now later j t
        next_prefix [] e p f h = cc
        next_prefix (left q a ∷ s) e p f h = cc
        next_prefix (paren ∷ s) e p f h = cc
        next_prefix (before q ∷ s) e p f h = grind (arith, length-append, append_assoc)

      -- nothing is pending that binds as tightly
      pub settled_is : (j : A) (t : List (Frame A)) → IsSettled least (parts_of K t) → reduce m least j t ≡ (j, t)
      settled_is j [] h = refl
      settled_is j (left o a ∷ s) h = grind (arith, lt-leb)
      settled_is j (before o ∷ s) h = absurd h
      settled_is j (paren ∷ s) h = refl
