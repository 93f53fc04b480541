-- Complete: the tokens of a tree are parsed as that tree.
use Rattle.std.proofs.Common.{◌≡◌, ℕ, ◌+◌, ◌≤◌, List, [], ◌∷◌, ◌++◌, Some, refl, sym, ◌∙◌, ap, ap₂, append_assoc, append-nil, arith}
use Rattle.ud_model.specs.conditions.Tokens.{Token, operator, closing}
use Rattle.ud_model.specs.conditions.Expressions.{Expression, unary, binary, parens, precedence, spelling, HasPrecedence}
use Rattle.ud_model.specs.conditions.Parsing.{Meaning, meaning, Frame, left, before, paren, Below, needs, has, parse_tokens, itself}
use Rattle.ud_model.specs.declared.operator.Operator.{Operator}

-- No operator tighter than precedence `k` comes next.
abbrev pub Stops : ℕ → List Token → Type 0
Stops k (operator o ∷ ts) = precedence o ≤ k
Stops _ _ = Unit {0}

-- If nothing tighter than precedence `j` comes next, nothing tighter than a tighter one does.
pub stops_more : (j k : ℕ) (ts : List Token) → j ≤ k → Stops j ts → Stops k ts
stops_more j k ts l b = grind arith

module _ {A : Type 0} (m : Meaning A) where
  -- An operator takes its right operand if no tighter one comes next.
  take_left : (o : Operator) (a x : A) (s : List (Frame A)) (ts : List Token) → Stops (precedence o) ts →
      parse_tokens m (has x (left o a ∷ s)) ts ≡ parse_tokens m (has (m.binary o a x) s) ts
  take_left o a x s ts h = grind arith

  wait_step : (o : Operator) (x : A) (s : List (Frame A)) (ts : List Token) → 1 ≤ precedence o → Below (precedence o) s →
      parse_tokens m (has x s) (operator o ∷ ts) ≡ parse_tokens m (needs (left o x ∷ s)) ts
  wait_step o x s ts l b = grind arith

  -- The tokens of a tree give its meaning, whatever the stack is and whatever comes next.
  pub complete : (e : Expression) (k : ℕ) → 1 ≤ k → HasPrecedence k e → (s : List (Frame A)) → Below k s → (ts : List Token) → Stops k ts →
      parse_tokens m (needs s) (spelling e ++ ts) ≡ parse_tokens m (has (meaning m e) s) ts
  complete (unary o a) k l i s b ts h =
      grind (arith, complete a 10 (omega arith) i.1 (before o ∷ s) (omega arith) ts (grind arith))
  complete (binary o a b) k l i s f ts h =
      let more : 1 ≤ precedence o = let d : k ≤ precedence o = i.0 in omega arith in
      let under : Below (precedence o) s = (grind (arith, i.0, f)) in
      let stop : Stops (precedence o) ts = stops_more k (precedence o) ts i.0 h in
      ap (λ us. parse_tokens m (needs s) us) (append_assoc (spelling a) (operator o ∷ spelling b) ts)
      ∙ complete a (precedence o) more i.1 s under (operator o ∷ spelling b ++ ts) (omega arith)
      ∙ wait_step o (meaning m a) s (spelling b ++ ts) more under
      ∙ complete b (precedence o + 1) (omega arith) i.2 (left o (meaning m a) ∷ s) (omega arith) ts (stops_more (precedence o) (precedence o + 1) ts (omega arith) stop)
      ∙ take_left o (meaning m a) (meaning m b) s ts stop
  complete (parens a) k l i s b ts h = simp (append_assoc, complete a 1 (omega arith) i (paren ∷ s) tt (closing ∷ ts) tt)
  complete e k h g s k' ts m = grind arith

  -- The tokens of an expression alone give its meaning.
  pub complete_alone : (e : Expression) → HasPrecedence 1 e → parse_tokens m (needs []) (spelling e) ≡ Some (meaning m e)
  complete_alone e i = ap (λ us. parse_tokens m (needs []) us) (sym (append-nil (spelling e))) ∙ complete e 1 (omega arith) i [] tt [] tt

-- Each tree means itself.
pub meaning_itself : (e : Expression) → meaning itself e ≡ e
meaning_itself (unary o a) = ap (unary o) (meaning_itself a)
meaning_itself (binary o a b) = ap₂ (binary o) (meaning_itself a) (meaning_itself b)
meaning_itself (parens a) = ap parens (meaning_itself a)
meaning_itself _ = refl
