-- Readings: the meaning of a text in a state is that of the tree that is parsed in that state.
use Rattle.std.proofs.Common.{◌≡◌, ℕ, List, [], ◌∷◌, Bool, if◌then◌else◌, leb, Option, option_map, refl, arith}
use Rattle.ud_model.specs.conditions.Tokens.{Token}
use Rattle.ud_model.specs.conditions.Expressions.{Expression, precedence}
use Rattle.ud_model.specs.conditions.Parsing.{Meaning, meaning, Frame, left, before, paren, ParseState, needs, has, asks, asks_inside, asks_end, stuck, reduce, step, parse_tokens, parse_all_tokens, tokens_of, reads, itself, expression_of}

module _ {A : Type 0} (m : Meaning A) where
  -- The stack, each tree replaced by its meaning.
  abbrev pub frames_meant : List (Frame Expression) → List (Frame A)
  frames_meant [] = []
  frames_meant (left o e ∷ s) = left o (meaning m e) ∷ frames_meant s
  frames_meant (before o ∷ s) = before o ∷ frames_meant s
  frames_meant (paren ∷ s) = paren ∷ frames_meant s

  -- An operand and the stack, replaced by their meaning.
  abbrev pub pair_meant : Expression × List (Frame Expression) → A × List (Frame A)
  pair_meant (e, s) = (meaning m e, frames_meant s)

  -- A state, replaced by its meaning.
  abbrev pub state_meant : ParseState Expression → ParseState A
  state_meant (needs s) = needs (frames_meant s)
  state_meant (has e s) = has (meaning m e) (frames_meant s)
  state_meant (asks s) = asks (frames_meant s)
  state_meant (asks_inside s) = asks_inside (frames_meant s)
  state_meant (asks_end n s) = asks_end n (frames_meant s)
  state_meant stuck = stuck

  on_either : (b : Bool) {x y : A × List (Frame A)} (p q : Expression × List (Frame Expression)) → x ≡ pair_meant p → y ≡ pair_meant q →
      (if b then x else y) ≡ pair_meant (if b then p else q)
  on_either b p q d e = grind arith

  reduce_meant : (j : ℕ) (e : Expression) (s : List (Frame Expression)) → reduce m j (meaning m e) (frames_meant s) ≡ pair_meant (reduce itself j e s)
  reduce_meant j e (left o a ∷ s) = on_either (leb j (precedence o)) _ _ (reduce_meant j (itself.binary o a e) s) refl
  reduce_meant j e (before o ∷ s) = reduce_meant j (itself.unary o e) s
  reduce_meant _ _ _ = refl

  -- Tokens mean what their tree means.
  pub run_meant : (s : ParseState Expression) (ts : List Token) → parse_tokens m (state_meant s) ts ≡ option_map (meaning m) (parse_tokens itself s ts)
  run_meant s [] = grind (arith, reduce_meant)
  run_meant s (t ∷ ts) = grind (arith, reduce_meant, run_meant (step itself s t) ts)

  run_all_meant : (s : ParseState Expression) (ts : Option (List Token)) → parse_all_tokens m (state_meant s) ts ≡ option_map (meaning m) (parse_all_tokens itself s ts)
  run_all_meant s ts = grind (arith, run_meant)

  -- A text means what its tree means.
  pub reads_meaning : (text : List ℕ) → reads m (needs []) text ≡ option_map (meaning m) (expression_of text)
  unfolding reads expression_of
  reads_meaning text = run_all_meant (needs []) (tokens_of text)
