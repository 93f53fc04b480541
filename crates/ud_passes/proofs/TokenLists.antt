-- Token lists: the tokens of a text, one after another.
use Rattle.std.proofs.Common.{◌≡◌, ℕ, List, [], ◌∷◌, length, Bool, true, false, Some, refl, arith}
use Rattle.std.proofs.lemmas.Bool.{and_left}
use Rattle.ud_model.specs.conditions.Tokens.{Token, at_end, unreadable, found, next_token}
use Rattle.ud_simplified.specs.ResidualTexts.{are_tokens, same_token}
use Rattle.ud_model.specs.conditions.Parsing.{tokens_of}
use Rattle.ud_cond.proofs.lemmas.expressions.ReadingLemmas.{tokens_of-prepend_token}

module _ (text : List ℕ) (t : Token) where
  -- The first token is this one.
  pub same_first : (u : Token) (rest : List ℕ) → next_token text ≡ found u rest → same_token u t ≡ true → (tokens : List Token) →
      are_tokens (tokens_of text) (t ∷ tokens) ≡ are_tokens (tokens_of rest) tokens
  same_first u rest e s tokens = grind (arith, tokens_of-prepend_token)

  -- The first token is another one.
  pub other_first : (u : Token) (rest : List ℕ) → next_token text ≡ found u rest → same_token u t ≡ false → (tokens : List Token) →
      are_tokens (tokens_of text) (t ∷ tokens) ≡ false
  other_first u rest e s tokens = grind (arith, tokens_of-prepend_token, and_left)

  -- There is no token.
  pub none_first : next_token text ≡ at_end → (tokens : List Token) → are_tokens (tokens_of text) (t ∷ tokens) ≡ false
  none_first e tokens = grind (arith, tokens_of-prepend_token)

  pub unread_first : next_token text ≡ unreadable → (tokens : List Token) → are_tokens (tokens_of text) (t ∷ tokens) ≡ false
  unread_first e tokens = grind (arith, tokens_of-prepend_token)

-- The tokens of a text that begins with a token.
pub record Splits (t : Token) (rest : List ℕ) (tokens : List Token) : Type 0 where
  pub others : List Token
  pub is : tokens ≡ t ∷ others
  pub rest_has : tokens_of rest ≡ Some others

pub splits : (text : List ℕ) (t : Token) (rest : List ℕ) (tokens : List Token) → next_token text ≡ found t rest → tokens_of text ≡ Some tokens → Splits t rest tokens
splits text t rest tokens e f = grind (arith, tokens_of-prepend_token)

-- The tokens of a text, by its first one.
pub ruleset token_steps = (tokens_of-prepend_token)

-- A text that begins with no token has none.
pub ends_first : (text : List ℕ) → next_token text ≡ at_end → (t : Token) (tokens : List Token) → tokens_of text ≡ Some (t ∷ tokens) → ⊥
ends_first text e t tokens f =
    let n : length (t ∷ tokens) ≡ 0 = (grind (arith, tokens_of-prepend_token, e, f)) in cc

-- The token at which a list goes on.
pub record Begins (tokens : List Token) : Type 0 where
  pub token : Token
  pub others : List Token
  pub is : tokens ≡ token ∷ others

pub begins : (f : Bool) (flags : List Bool) (tokens : List Token) → length (f ∷ flags) ≡ length tokens → Begins tokens
begins f flags [] e = cc
begins f flags (t ∷ tokens) e = record { token = t; others = tokens; is = refl }

pub one_less : (f : Bool) (flags : List Bool) (t : Token) (tokens : List Token) → length (f ∷ flags) ≡ length (t ∷ tokens) → length flags ≡ length tokens
one_less f flags t tokens e = omega (arith, e)
