-- Both stacks: what a push and a pop do to the frames, and how much the frames weigh.
use Rattle.std.proofs.Common.{◌≡◌, ℕ, ◌≤◌, ◌<◌, ◌+◌, ◌-◌, ◌==◌, List, [], ◌∷◌, length, reverse}
use Rattle.std.proofs.Common.{take, set, Option, Some, None, refl, arith}
use Rattle.std.specs.Prelude.{slice_get}
use Rattle.std.proofs.lemmas.Option.{slice_get_within, get_or_from_slice_get}
use Rattle.std.proofs.lemmas.List.{length-reverse, take_all, length-take-le, reverse-append}
use Rattle.std.proofs.lemmas.List.{take_more, take_more_set}
use Rattle.ud_model.specs.conditions.Tokens.{at_end, unreadable, next_token}
use Rattle.ud_model.specs.conditions.Expressions.{precedence}
use Rattle.ud_model.specs.conditions.Parsing.{Meaning, ParseState, finish, reads}
use Rattle.ud_model.specs.declared.operator.Operator.{Operator}
use Rattle.ud_cond.specs.declared.expressions.stacks.PendingOp.{PendingOp}
use Rattle.ud_cond.specs.declared.expressions.stacks.PendingOp.TheVariants.{Binary, Prefix, Opening}
use Rattle.ud_cond.specs.expressions.Stacks.{frames, AreMatched, weight, IsSettled, is_empty}
use Rattle.ud_cond.proofs.lemmas.expressions.ReadingLemmas.{reads_on, reads-on}

-- the frames weigh as much as both stacks are long
pub weighs : {A : Type 0} (ws : List PendingOp) (vs : List A) → AreMatched ws vs → weight (frames ws vs) ≡ length ws + length vs
weighs [] [] m = refl
weighs [] (a ∷ vs) m = absurd m
weighs (Binary o ∷ ws) [] m = absurd m
weighs (Binary o ∷ ws) (a ∷ vs) m = let h = weighs ws vs m in omega arith
weighs (Prefix o ∷ ws) vs m = let h = weighs ws vs m in omega arith
weighs (Opening ∷ ws) vs m = let h = weighs ws vs m in omega arith

-- there are no more operands than operators
pub fewer : {A : Type 0} (ws : List PendingOp) (vs : List A) → AreMatched ws vs → length vs ≤ length ws
fewer [] [] m = omega arith
fewer [] (a ∷ vs) m = absurd m
fewer (Binary o ∷ ws) [] m = absurd m
fewer (Binary o ∷ ws) (a ∷ vs) m = let h = fewer ws vs m in omega arith
fewer (Prefix o ∷ ws) vs m = let h = fewer ws vs m in omega arith
fewer (Opening ∷ ws) vs m = let h = fewer ws vs m in omega arith

-- the frames weigh as much as both stacks are long, and no more operands than operators are pending
pub heights : {A : Type 0} (ws : List PendingOp) (n : ℕ) (vs : List A) → n ≤ length ws →
    AreMatched (reverse (take n ws)) (reverse vs) →
    (weight (frames (reverse (take n ws)) (reverse vs)) ≡ n + length vs) × (length vs ≤ n)
heights ws n vs l m =
    (grind (arith, weighs, length-reverse, length-take-le), grind (arith, fewer, length-reverse, length-take-le))

-- an operator that is pushed is on top
pub pushed : (ws : List PendingOp) (n : ℕ) (w : PendingOp) → n < length ws →
    reverse (take (n + 1) (set ws n w)) ≡ w ∷ reverse (take n ws)
pushed ws n w l = grind (arith, take_more_set, reverse-append)

-- the last operator is on top
pub top : (ws : List PendingOp) (w : PendingOp) → slice_get ws (length ws - 1) ≡ Some w →
    reverse ws ≡ w ∷ reverse (take (length ws - 1) ws)
top ws w h =
    let within = slice_get_within ws (length ws - 1) w h in
    let last = get_or_from_slice_get ws (length ws - 1) w w h in
    grind (arith, take_more ws (length ws - 1) w, take_all, reverse-append)

-- a looser operator on top isn't popped
pub settled-top : {A : Type 0} (ws : List PendingOp) (vs : List A) (j : ℕ) (o : Operator) →
    slice_get ws (length ws - 1) ≡ Some (Binary o) → precedence o < j → IsSettled j (frames (reverse ws) vs)
settled-top ws [] j o h l = grind (arith, top)
settled-top ws (a ∷ vs) j o h l = grind (arith, top)

-- no frame is pending if no operator is
pub nothing : {A : Type 0} (ws : List PendingOp) (vs : List A) → AreMatched ws vs →
    (length ws == 0) ≡ is_empty (frames ws vs)
nothing [] vs m = refl
nothing (Binary o ∷ ws) [] m = absurd m
nothing (Binary o ∷ ws) (a ∷ vs) m = grind arith
nothing (Prefix o ∷ ws) vs m = grind arith
nothing (Opening ∷ ws) vs m = grind arith

-- what an operation does to the stacks
pub ruleset stack_steps =
    (heights, pushed, top, nothing, reverse-append, length-reverse, length-take-le)

module _ {A : Type 0} (m : Meaning A) where
  -- the meaning so far is that of the state if the text ends, and nothing if the text is unreadable
  pub ends : (all : Option A) (q : ParseState A) (text : List ℕ) → all ≡ reads m q text → at_end ≡ next_token text → finish m q ≡ all
  ends all q text e h = grind (arith, reads-on, reads_on)

  pub ends-unreadable : (all : Option A) (q : ParseState A) (text : List ℕ) → all ≡ reads m q text → unreadable ≡ next_token text → None ≡ all
  ends-unreadable all q text e h = grind (arith, reads-on, reads_on)
