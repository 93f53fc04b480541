-- One expression: the computed tree of a text is the one that the text has, and there is no other.
use Rattle.std.proofs.Common.{◌≡◌, ℕ, List, [], Option, Some, None, refl, sym, ◌∙◌, subst, arith, ◌+◌, ◌≤◌, ◌∷◌, ◌++◌, Bool, false, IsTrue, if◌then◌else◌, leb, ap, append_assoc, append-nil}
use Rattle.std.proofs.lemmas.Option.{none-some, same_Some}
use Rattle.ud_model.specs.conditions.Tokens.{Token, AreTokens, number, name, defined, operator, opening, closing}
use Rattle.ud_model.specs.conditions.Expressions.{Expression, spelling, HasPrecedence, IsWritten, unary, binary, parens, precedence, is_prefix}
use Rattle.ud_model.specs.conditions.Parsing.{needs, parse_all_tokens, tokens_of, reads, itself, expression_of, Frame, left, before, paren, ParseState, has, asks, asks_inside, asks_end, stuck, reduce, step, finish, parse_tokens}
use Rattle.ud_model.proofs.conditions.ParsingComplete.{complete_alone, meaning_itself}
use Rattle.ud_model.proofs.conditions.TokenLemmas.{tokens_of_only, tokens_of_are}
use Rattle.ud_model.specs.declared.operator.Operator.{Operator}

-- A tree is spelled by the tokens that were parsed as it. A state holds the tokens so far: on the
-- stack, and in the operand that has come.

-- The tokens of the stack.
abbrev pub written : List (Frame Expression) → List Token
written [] = []
written (left o a ∷ s) = written s ++ (spelling a ++ operator o ∷ [])
written (before o ∷ s) = written s ++ operator o ∷ []
written (paren ∷ s) = written s ++ opening ∷ []

-- The precedence that an operand needs for the stack.
abbrev pub hole : List (Frame Expression) → ℕ
hole (left o a ∷ s) = precedence o + 1
hole (before o ∷ s) = 10
hole _ = 1

-- The stack can become part of a tree.
abbrev pub Fits : List (Frame Expression) → Type 0
Fits [] = Unit {0}
Fits (left o a ∷ s) = HasPrecedence (precedence o) a × (1 ≤ precedence o) × (hole s ≤ precedence o) × Fits s
Fits (before o ∷ s) = IsTrue (is_prefix o) × Fits s
Fits (paren ∷ s) = Fits s

-- The state holds the tokens so far.
abbrev pub Holds : List Token → ParseState Expression → Type 0
Holds us (needs s) = Fits s × (written s ≡ us)
Holds us (has x s) = Fits s × HasPrecedence 10 x × (written s ++ spelling x ≡ us)
Holds us (asks s) = Fits s × (written s ++ defined ∷ [] ≡ us)
Holds us (asks_inside s) = Fits s × (written s ++ defined ∷ opening ∷ [] ≡ us)
Holds us (asks_end n s) = Fits s × (written s ++ defined ∷ opening ∷ name n false ∷ [] ≡ us)
Holds us stuck = Unit {0}

-- A tree of the tightest precedence is of each precedence.
loosen : (k : ℕ) (x : Expression) → HasPrecedence 10 x → HasPrecedence k x
loosen k (unary o a) i = i
loosen k (binary o a b) i = let h : precedence o ≤ 9 = (grind arith) in let l : 10 ≤ precedence o = i.0 in absurd (omega arith)
loosen k (parens a) i = i
loosen _ _ _ = tt

-- The operators of precedence `j` or tighter have taken their operands.
pub record Reduced (j : ℕ) (x : Expression) (s : List (Frame Expression)) (r : Expression × List (Frame Expression)) : Type 0 where
  pub same : written r.1 ++ spelling r.0 ≡ written s ++ spelling x
  pub fits : Fits r.1
  pub in_hole : HasPrecedence (hole r.1) r.0
  pub tight : HasPrecedence j r.0
  pub further : 1 ≤ j → hole r.1 ≤ j

left_if : (b : Bool) (j : ℕ) (o : Operator) (a x : Expression) (s : List (Frame Expression))
    (r : Expression × List (Frame Expression)) → leb j (precedence o) ≡ b → Fits (left o a ∷ s) →
    HasPrecedence (precedence o + 1) x → HasPrecedence j x → (j ≤ precedence o → Reduced j (binary o a x) s r) →
    Reduced j x (left o a ∷ s) (if b then r else (x, left o a ∷ s))
left_if b j o a x s r e f i t g = grind (arith, append_assoc)

reduced : (j : ℕ) (x : Expression) (s : List (Frame Expression)) → Fits s → HasPrecedence (hole s) x → HasPrecedence j x → Reduced j x s (reduce itself j x s)
reduced j x (left o a ∷ s) f i t =
    left_if (leb j (precedence o)) j o a x s (reduce itself j (binary o a x) s) refl f i t
    (λ l. reduced j (binary o a x) s f.3 (f.2, f.0, i) (l, f.0, i))
reduced j x (before o ∷ s) f i t = grind (arith, append_assoc, reduced j (unary o x) s f.1 (f.0, i) (f.0, i))
reduced j x s h g k = grind arith

-- The end of the tokens so far.
pushed : (us vs ws xs : List Token) → us ++ vs ≡ ws → us ++ (vs ++ xs) ≡ ws ++ xs
pushed us vs ws xs e = sym (append_assoc us vs xs) ∙ ap (λ ys. ys ++ xs) e

-- One more token is a token of the state after it.
step_holds : (us : List Token) (st : ParseState Expression) (t : Token) → Holds us st → Holds (us ++ t ∷ []) (step itself st t)
step_holds us (needs s) (number w) h = (h.0, tt, ap (λ ys. ys ++ number w ∷ []) h.1)
step_holds us (needs s) (name n a) h = (h.0, tt, ap (λ ys. ys ++ name n a ∷ []) h.1)
step_holds us (needs s) defined h = (h.0, ap (λ ys. ys ++ defined ∷ []) h.1)
step_holds us (needs s) (operator o) h = grind arith
step_holds us (needs s) opening h = (h.0, ap (λ ys. ys ++ opening ∷ []) h.1)
step_holds us (has x s) (operator o) h = grind (arith, pushed, reduced, loosen)
step_holds us (has x s) closing h = grind (arith, append_assoc, h.2, reduced 0 x s h.0 (loosen (hole s) x h.1) (loosen 0 x h.1))
step_holds us (asks s) (name n false) h = (h.0, tt, pushed (written s) (defined ∷ []) us (name n false ∷ []) h.1)
step_holds us (asks s) opening h = (h.0, pushed (written s) (defined ∷ []) us (opening ∷ []) h.1)
step_holds us (asks_inside s) (name n false) h = (h.0, pushed (written s) (defined ∷ opening ∷ []) us (name n false ∷ []) h.1)
step_holds us (asks_end n s) closing h = (h.0, tt, pushed (written s) (defined ∷ opening ∷ name n false ∷ []) us (closing ∷ []) h.1)
step_holds _ _ _ _ = tt

finish_holds : (us : List Token) (st : ParseState Expression) (e : Expression) → Holds us st → finish itself st ≡ Some e → HasPrecedence 1 e × (spelling e ≡ us)
finish_holds us (has x s) e h f = grind (arith, h.2, reduced 0 x s h.0 (loosen (hole s) x h.1) (loosen 0 x h.1), f)
finish_holds _ _ e _ f = absurd (none-some e f)

run_holds : (ts us : List Token) (st : ParseState Expression) (e : Expression) → Holds us st → parse_tokens itself st ts ≡ Some e → HasPrecedence 1 e × (spelling e ≡ us ++ ts)
run_holds [] us st e h f = let q : HasPrecedence 1 e × (spelling e ≡ us) = finish_holds us st e h f in (q.0, q.1 ∙ sym (append-nil us))
run_holds (t ∷ ts) us st e h f =
    let q = run_holds ts (us ++ t ∷ []) (step itself st t) e (step_holds us st t h) f in
    (q.0, q.1 ∙ append_assoc us (t ∷ []) ts)

-- A tree is spelled by the tokens that were parsed as it.
pub sound : (ts : List Token) (e : Expression) → parse_tokens itself (needs []) ts ≡ Some e → HasPrecedence 1 e × (spelling e ≡ ts)
sound ts e f = run_holds ts [] (needs []) e (tt, refl) f

-- A text is parsed as the tree that it has.
pub expression_only : (text : List ℕ) (e : Expression) → IsWritten text e → expression_of text ≡ Some e
unfolding expression_of reads
expression_only text e p = grind (arith, tokens_of_only, complete_alone, meaning_itself)

run_written : (text : List ℕ) (o : Option (List Token)) (e : Expression) → tokens_of text ≡ o → parse_all_tokens itself (needs []) o ≡ Some e → IsWritten text e
run_written text None e d f = absurd (none-some e f)
run_written text (Some ts) e d f = let q : HasPrecedence 1 e × (spelling e ≡ ts) = sound ts e f in (q.0, subst (λ us. AreTokens text us) (sym q.1) (tokens_of_are text ts d))

-- A text has the tree as which it is parsed.
pub expression_is : (text : List ℕ) (e : Expression) → expression_of text ≡ Some e → IsWritten text e
unfolding expression_of reads
expression_is text e f = run_written text (tokens_of text) e refl f

-- A text has one tree at most.
pub one_expression : (text : List ℕ) (e f : Expression) → IsWritten text e → IsWritten text f → e ≡ f
one_expression text e f p q = same_Some e f (sym (expression_only text e p) ∙ expression_only text f q)
