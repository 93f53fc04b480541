-- Tokens: the computed tokens of a text are those of the relation, since each token has a byte at
-- least.
use Rattle.std.proofs.Common.{◌≡◌, ℕ, zero, suc, ◌<◌, ◌≤◌, List, [], ◌∷◌, length, drop, slice_index, Bool, true, false, if◌then◌else◌, Option, Some, None, bytes_eq, refl, ap, subst, arith, length-drop, rules}
use Rattle.std.proofs.lemmas.Option.{none-some}
use Rattle.ud_model.specs.text.Bytes.{is_word_byte, skip_white, leading_word, skip_word}
use Rattle.ud_model.specs.conditions.Tokens.{Token, NextToken, found, after_matching_paren, name_token, word_token, punctuator, leading_token, next_token, AreTokens}
use Rattle.ud_model.specs.conditions.Parsing.{prepend_token, tokens_in, tokens_of}
use Rattle.ud_model.proofs.text.ByteLemmas.{length-skip_white}

-- The rest after the token has fewer bytes than `k`.
abbrev pub Shorter : ℕ → NextToken → Type 0
Shorter k (found t rest) = length rest < k
Shorter _ _ = Unit {0}

-- The rest has no more bytes than `k`.
abbrev pub Within : ℕ → Option (List ℕ) → Type 0
Within k None = Unit {0}
Within k (Some rest) = length rest ≤ k

shorter_either : (k : ℕ) (b : Bool) (x y : NextToken) → Shorter k x → Shorter k y → Shorter k (if b then x else y)
shorter_either k b x y p q = grind arith

shorter_more : (j k : ℕ) (x : NextToken) → j ≤ k → Shorter j x → Shorter k x
shorter_more j k x l p = grind arith

drop_one_most : (t : List ℕ) → length (drop 1 t) ≤ length t
drop_one_most t = rw length-drop (omega arith)

past_word_most : (t : List ℕ) → length (skip_word t) ≤ length t
past_word_most [] = omega arith
past_word_most (b ∷ t) = grind (arith, past_word_most t)

after_within : (n : ℕ) (t : List ℕ) → Within (length t) (after_matching_paren n t)
after_within zero (b ∷ t) = grind (arith, after_within 1 t, after_within 0 t)
after_within (suc n) (b ∷ t) = grind (arith, after_within (suc (suc n)) t, after_within n t, after_within (suc n) t)
after_within _ [] = tt

name_shorter : (k : ℕ) (w rest : List ℕ) → length rest < k → Shorter k (name_token w rest)
name_shorter k w rest l = grind (arith, length-skip_white, drop_one_most, after_within)

word_shorter : (k : ℕ) (w rest : List ℕ) → length rest < k → Shorter k (word_token w rest)
word_shorter k w rest l = search (rules, shorter_either, slice_index, bytes_eq, name_shorter)

past_word_after : (b : ℕ) (t : List ℕ) → is_word_byte b ≡ true → length (skip_word (b ∷ t)) < suc (length t)
past_word_after b t e = grind (arith, past_word_most)

front_by : (b : ℕ) (t : List ℕ) (c : Bool) → is_word_byte b ≡ c →
    Shorter (suc (length t)) (if c then word_token (leading_word (b ∷ t)) (skip_word (b ∷ t)) else punctuator b t)
front_by b t true e = word_shorter (suc (length t)) (leading_word (b ∷ t)) (skip_word (b ∷ t)) (past_word_after b t e)
front_by b t false e = grind arith

front_shorter : (t : List ℕ) → Shorter (length t) (leading_token t)
front_shorter t = grind (arith, front_by)

next_shorter : (text : List ℕ) → Shorter (length text) (next_token text)
unfolding next_token
next_shorter text = shorter_more (length (skip_white text)) (length text) (leading_token (skip_white text)) (length-skip_white text) (front_shorter (skip_white text))

-- The rest after a token is shorter than the text.
pub shorter : (text rest : List ℕ) (t : Token) → next_token text ≡ found t rest → length rest < length text
shorter text rest t e = subst (λ x. Shorter (length text) x) e (next_shorter text)

-- The tokens of a text are found in as many steps as it has bytes, and one more.
pub tokens_enough : (ts : List Token) (n : ℕ) (text : List ℕ) → length text < n → AreTokens text ts → tokens_in n text ≡ Some ts
tokens_enough ts zero text l p = absurd (omega arith)
tokens_enough [] (suc n) text l p = ap (prepend_token (λ rest. tokens_in n rest)) p
tokens_enough (t ∷ ts) (suc n) text l p = let h : length p.0 < length text = shorter text p.0 t p.1 in cc (p.1, tokens_enough ts n p.0 (omega arith) p.2)

cut_tokens : (n : ℕ) (text : List ℕ) (ts : List Token) (x : NextToken) → next_token text ≡ x → ((rest : List ℕ) (us : List Token) → tokens_in n rest ≡ Some us → AreTokens rest us) →
    prepend_token (λ rest. tokens_in n rest) x ≡ Some ts → AreTokens text ts
cut_tokens n text ts x d f e = grind arith

-- Tokens that are found are those of the text.
pub tokens_found : (n : ℕ) (text : List ℕ) (ts : List Token) → tokens_in n text ≡ Some ts → AreTokens text ts
tokens_found zero text ts e = absurd (none-some ts e)
tokens_found (suc n) text ts e = cut_tokens n text ts (next_token text) refl (tokens_found n) e

-- The computed tokens are those of the relation.
pub tokens_of_only : (text : List ℕ) (ts : List Token) → AreTokens text ts → tokens_of text ≡ Some ts
unfolding tokens_of
tokens_of_only text ts p = tokens_enough ts (suc (length text)) text (omega arith) p

-- The computed tokens are those of the text.
pub tokens_of_are : (text : List ℕ) (ts : List Token) → tokens_of text ≡ Some ts → AreTokens text ts
unfolding tokens_of
tokens_of_are text ts e = tokens_found (suc (length text)) text ts e
