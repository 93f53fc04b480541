-- NameLists: the names in a text, token by token.
-- `ud_model.specs.conditions.Names` defines the names of a tree. A text with a tree has the same
-- names, in the order of its tokens.
use Rattle.std.specs.Prelude.{ℕ, List, [], ◌∷◌, ◌++◌, Option, Some, None}
use Rattle.std.specs.Option.{option_to_list}
use Rattle.ud_model.specs.conditions.Tokens.{Token, name}
use Rattle.ud_model.specs.conditions.Parsing.{tokens_of}

-- `name_in_token t`: the name that the token is, if any.
abbrev pub name_in_token : Token → Option (List ℕ)
name_in_token (name n arguments) = Some n
name_in_token _ = None

-- `names_in_tokens ts`: the names among the tokens, in order.
abbrev pub names_in_tokens : List Token → List (List ℕ)
names_in_tokens [] = []
names_in_tokens (t ∷ ts) = option_to_list (name_in_token t) ++ names_in_tokens ts

-- `names_in_all tokens`: the names among the tokens, or none without tokens.
abbrev pub names_in_all : Option (List Token) → List (List ℕ)
names_in_all None = []
names_in_all (Some ts) = names_in_tokens ts

-- `names_in_text text`: the names of the text if it consists of tokens, else none.
abbrev pub names_in_text : List ℕ → List (List ℕ)
names_in_text text = names_in_all (tokens_of text)

-- `names_remaining alone text`: the name `alone`, if any, and then the names of the text.
abbrev pub names_remaining : Option (List ℕ) → List ℕ → List (List ℕ)
names_remaining alone text = option_to_list alone ++ names_in_text text
