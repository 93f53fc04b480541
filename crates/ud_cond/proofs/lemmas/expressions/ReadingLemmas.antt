-- Reading a text token by token: each token has at least one byte, and the text after it continues
-- in the state that the token makes.
use Rattle.std.proofs.Common.{◌≡◌, ℕ, zero, suc, ◌<◌, List, [], ◌∷◌, length, Option, None, refl, ◌∙◌, ap, arith}
use Rattle.ud_model.specs.conditions.Tokens.{Token, NextToken, at_end, unreadable, found, next_token}
use Rattle.ud_model.specs.conditions.Parsing.{Meaning, ParseState, stuck, step, finish, parse_tokens, parse_all_tokens, prepend_token, tokens_in, tokens_of, reads}
use Rattle.ud_model.proofs.conditions.TokenLemmas.{shorter}

-- the text after a token has fewer than `n` bytes
abbrev pub Leaves : ℕ → NextToken → Type 0
Leaves n at_end = Unit {0}
Leaves n unreadable = Unit {0}
Leaves n (found t rest) = length rest < n

leaves_by : (text : List ℕ) (x : NextToken) → next_token text ≡ x → Leaves (length text) x
leaves_by text x e = grind (arith, shorter)

cut_same : (k : ℕ) (f g : List ℕ → Option (List Token)) (x : NextToken) → Leaves k x → ((rest : List ℕ) → length rest < k → f rest ≡ g rest) → prepend_token f x ≡ prepend_token g x
cut_same k f g x l h = grind arith

tokens_in-enough : (n k : ℕ) (text : List ℕ) → length text < n → length text < k → tokens_in n text ≡ tokens_in k text
tokens_in-enough zero k text l m = absurd (omega arith)
tokens_in-enough (suc n) zero text l m = absurd (omega arith)
tokens_in-enough (suc n) (suc k) text l m =
    cut_same (length text) (λ rest. tokens_in n rest) (λ rest. tokens_in k rest) (next_token text) (leaves_by text (next_token text) refl)
    (λ rest short. tokens_in-enough n k rest (omega arith) (omega arith))

-- the tokens of a text are the first one and those of the text after it
pub tokens_of-prepend_token : (text : List ℕ) → tokens_of text ≡ prepend_token tokens_of (next_token text)
unfolding tokens_of
tokens_of-prepend_token text =
    cut_same (length text) (λ rest. tokens_in (length text) rest) (λ rest. tokens_in (suc (length rest)) rest) (next_token text) (leaves_by text (next_token text) refl)
    (λ rest short. tokens_in-enough (length text) (suc (length rest)) rest short (omega arith))

module _ {A : Type 0} (m : Meaning A) where
  -- the meaning of a text in a state, by its leading token
  abbrev pub reads_on : ParseState A → NextToken → Option A
  reads_on s at_end = finish m s
  reads_on s unreadable = None
  reads_on s (found t rest) = reads m (step m s t) rest

  -- the leading token decides the meaning of a text in a state
  pub reads-on : (s : ParseState A) (text : List ℕ) → reads m s text ≡ reads_on s (next_token text)
  unfolding reads
  reads-on s text = grind (arith, tokens_of-prepend_token)

  parse_tokens-stuck : (ts : List Token) → parse_tokens m stuck ts ≡ None
  parse_tokens-stuck [] = refl
  parse_tokens-stuck (t ∷ ts) = parse_tokens-stuck ts

  parse_all_tokens-stuck : (ts : Option (List Token)) → parse_all_tokens m stuck ts ≡ None
  parse_all_tokens-stuck ts = grind (arith, parse_tokens-stuck)

  -- no expression begins with the tokens so far, so no text completes one
  pub reads-stuck : (text : List ℕ) → reads m stuck text ≡ None
  unfolding reads
  reads-stuck text = parse_all_tokens-stuck (tokens_of text)

  -- the leading token makes a state
  pub reads-found : (s : ParseState A) (text : List ℕ) (t : Token) (rest : List ℕ) → next_token text ≡ found t rest → reads m s text ≡ reads m (step m s t) rest
  reads-found s text t rest e = reads-on s text ∙ ap (reads_on s) e
