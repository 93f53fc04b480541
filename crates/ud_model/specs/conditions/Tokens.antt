-- Tokens: the tokens of an expression.
-- C11 6.4, 6.4.2, 6.4.4.1, 6.4.6 and 6.4.8: white space separates tokens, and the longest token is
-- taken.
--
--   Token               a constant, a name with or without arguments, `defined`, an operator, a
--                       parenthesis
--   next_token text     the first token of `text` and the rest; or that there is none, or that it
--                       can't be read
--   AreTokens text ts   `ts` are the tokens of `text`, from its beginning to its end
--
-- A name's arguments are the bytes from a `(` after the name to the matching `)`. Only parentheses
-- count in them, and no tokens are read there. C reads two minus signs as one token, and `0xE-9` as
-- one too; both are unreadable here.
--
-- Example: ` F(X)>0` is the name F with arguments, the operator `>` and the constant 0.
use Rattle.std.specs.Prelude.{◌≡◌, ℕ, zero, suc, ◌-◌, ◌==◌, List, [], ◌∷◌, length, drop}
use Rattle.std.specs.Prelude.{slice_index, Bool, true, false, not, ◌&&◌, ◌||◌, if◌then◌else◌}
use Rattle.std.specs.Prelude.{Option, Some, None, bytes_eq, codes}
use Rattle.ud_model.specs.text.Bytes.{is_digit, is_word_byte, skip_white, leading_word, skip_word}
use Rattle.ud_model.specs.text.Bytes.{starts_with_byte}
use Rattle.ud_model.specs.conditions.Constants.{is_constant}
use Rattle.ud_model.specs.declared.operator.Operator.{Operator}
use Rattle.ud_model.specs.declared.operator.Operator.TheVariants.{Or, And, BitOr, BitXor, BitAnd}
use Rattle.ud_model.specs.declared.operator.Operator.TheVariants.{Equal, NotEqual, Less, LessEqual}
use Rattle.ud_model.specs.declared.operator.Operator.TheVariants.{Greater, GreaterEqual, Plus}
use Rattle.ud_model.specs.declared.operator.Operator.TheVariants.{Minus, Times, Over, Remainder}
use Rattle.ud_model.specs.declared.operator.Operator.TheVariants.{Not, Complement}

-- A token of an expression.
pub data Token : Type 0 where
  -- An integer constant, as it is spelled.
  number : List ℕ → Token
  -- An identifier other than `defined`, and whether it has arguments.
  name : List ℕ → Bool → Token
  defined : Token
  operator : Operator → Token
  opening : Token
  closing : Token

-- The beginning of a text: a token, or the reason why there is none.
pub data NextToken : Type 0 where
  -- White space alone.
  at_end : NextToken
  -- No token.
  unreadable : NextToken
  -- A token, and the text after it.
  found : Token → List ℕ → NextToken

-- `after_matching_paren n text`: the rest of `text` after the `)` that closes a parenthesis with
-- `n` more open inside it. None if `text` doesn't close it.
abbrev pub after_matching_paren : ℕ → List ℕ → Option (List ℕ)
after_matching_paren n [] = None
after_matching_paren zero (b ∷ text) =
    if b == 40 then after_matching_paren 1 text
    else if b == 41 then Some text
    else after_matching_paren 0 text
after_matching_paren (suc n) (b ∷ text) =
    if b == 40 then after_matching_paren (suc (suc n)) text
    else if b == 41 then after_matching_paren n text
    else after_matching_paren (suc n) text

-- `with_arguments w rest`: the name `w` with arguments that end before `rest`; unreadable if they
-- don't end.
abbrev pub with_arguments : List ℕ → Option (List ℕ) → NextToken
with_arguments w None = unreadable
with_arguments w (Some rest) = found (name w true) rest

-- `name_token w rest`: the name `w` before `rest`, with its arguments if a `(` comes next.
abbrev pub name_token : List ℕ → List ℕ → NextToken
name_token w rest =
    if starts_with_byte 40 (skip_white rest)
    then with_arguments w (after_matching_paren 0 (drop 1 (skip_white rest)))
    else found (name w false) rest

-- `has_exponent_sign w rest`: the constant `w` ends in `e` or `E`, and a sign follows. C reads both
-- as one token.
abbrev pub has_exponent_sign : List ℕ → List ℕ → Bool
has_exponent_sign w rest = (slice_index w (length w - 1) == 101 || slice_index w (length w - 1) ==
    69) && (starts_with_byte 43 rest || starts_with_byte 45 rest)

-- `word_token w rest`: the token of the word `w` before `rest`. A word that begins with a digit is
-- a constant as a whole, or unreadable.
abbrev pub word_token : List ℕ → List ℕ → NextToken
word_token w rest =
    if is_digit (slice_index w 0) then (if is_constant w && not (has_exponent_sign w rest)
    then found (number w) rest else unreadable)
    else if bytes_eq w (codes "defined") then found defined rest
    else name_token w rest

-- `one_or_two_bytes c long short rest`: the operator `long` if its second byte `c` follows, else
-- `short`, which has one byte.
abbrev pub one_or_two_bytes : ℕ → Operator → Operator → List ℕ → NextToken
one_or_two_bytes c long short rest =
    if starts_with_byte c rest then found (operator long) (drop 1 rest)
    else found (operator short) rest

-- `punctuator b rest`: the operator or parenthesis that begins with `b`, which is no word byte.
abbrev pub punctuator : ℕ → List ℕ → NextToken
punctuator b rest =
    if b == 40 then found opening rest
    else if b == 41 then found closing rest
    else if b == 33 then one_or_two_bytes 61 NotEqual Not rest
    else if b == 60 then one_or_two_bytes 61 LessEqual Less rest
    else if b == 62 then one_or_two_bytes 61 GreaterEqual Greater rest
    else if b == 38 then one_or_two_bytes 38 And BitAnd rest
    else if b == 124 then one_or_two_bytes 124 Or BitOr rest
    else if b == 61 then (if starts_with_byte 61 rest then found (operator Equal) (drop 1 rest)
    else unreadable)
    else if b == 45 then (if starts_with_byte 45 rest then unreadable
    else found (operator Minus) rest)
    else if b == 43 then found (operator Plus) rest
    else if b == 42 then found (operator Times) rest
    else if b == 47 then found (operator Over) rest
    else if b == 37 then found (operator Remainder) rest
    else if b == 94 then found (operator BitXor) rest
    else if b == 126 then found (operator Complement) rest
    else unreadable

-- `leading_token text`: the token that `text` begins with. White space doesn't come first.
abbrev pub leading_token : List ℕ → NextToken
leading_token [] = at_end
leading_token (b ∷ text) =
    if is_word_byte b then word_token (leading_word (b ∷ text)) (skip_word (b ∷ text))
    else punctuator b text

-- `next_token text`: the first token of `text` after its leading white space.
unfoldable pub next_token : List ℕ → NextToken
next_token text = leading_token (skip_white text)

-- `AreTokens text ts`: `ts` are the tokens of `text`: the first one, and then those of the rest.
abbrev pub AreTokens : List ℕ → List Token → Type 0
AreTokens text [] = next_token text ≡ at_end
AreTokens text (t ∷ ts) = (rest : List ℕ) × (next_token text ≡ found t rest) × AreTokens rest ts
