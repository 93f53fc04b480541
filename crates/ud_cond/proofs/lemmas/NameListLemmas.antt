-- A text that is an expression has the names of its tree.
use Rattle.std.proofs.Common.{◌≡◌, ℕ, List, [], ◌∷◌, ◌++◌, append_assoc, append-nil, true, false, Option, Some, None, is_some, refl, ◌∙◌, ap, arith}
use Rattle.std.specs.Option.{option_to_list}
use Rattle.ud_model.specs.conditions.Tokens.{Token, found, next_token}
use Rattle.ud_model.specs.conditions.Expressions.{Expression, constant, named, is_defined, unary, binary, parens, spelling}
use Rattle.ud_model.specs.conditions.Parsing.{tokens_of, expression_of}
use Rattle.ud_model.specs.conditions.Names.{names_in, names_in_tree}
use Rattle.ud_model.proofs.conditions.TokenLemmas.{tokens_of_only}
use Rattle.ud_model.proofs.conditions.OneExpression.{expression_is}
use Rattle.ud_cond.specs.list_names.NameLists.{name_in_token, names_in_tokens, names_in_all, names_in_text}
use Rattle.ud_cond.proofs.lemmas.expressions.ReadingLemmas.{tokens_of-prepend_token}

names-append : (ts us : List Token) → names_in_tokens (ts ++ us) ≡ names_in_tokens ts ++ names_in_tokens us
names-append [] us = refl
names-append (t ∷ ts) us = grind (arith, append_assoc, names-append ts us)

-- the tokens of a tree have its names
pub names-spelling : (e : Expression) → names_in_tokens (spelling e) ≡ names_in e
names-spelling (constant w) = refl
names-spelling (named n a) = refl
names-spelling (is_defined n false) = refl
names-spelling (is_defined n true) = refl
names-spelling (unary o e) = names-spelling e
names-spelling (binary o d e) = grind (arith, names-append, names-spelling d, names-spelling e)
names-spelling (parens e) = grind (arith, names-append, append-nil, names-spelling e)

-- an expression consists of tokens
pub tokens-whole : (text : List ℕ) (e : Expression) → expression_of text ≡ Some e → tokens_of text ≡ Some (spelling e)
tokens-whole text e f = tokens_of_only text (spelling e) (expression_is text e f).1

whole_by : (text : List ℕ) (o : Option Expression) → expression_of text ≡ o → is_some o ≡ true → is_some (tokens_of text) ≡ true
whole_by text None e s = absurd (cc)
whole_by text (Some t) e s = ap is_some (tokens-whole text t e)

pub whole-tokens : (text : List ℕ) → is_some (expression_of text) ≡ true → is_some (tokens_of text) ≡ true
whole-tokens text s = grind (arith, whole_by)

named_by : (text : List ℕ) (o : Option Expression) → expression_of text ≡ o → is_some o ≡ true → names_in_text text ≡ names_in_tree o
named_by text None e s = absurd (cc)
named_by text (Some t) e s = ap names_in_all (tokens-whole text t e) ∙ names-spelling t

-- an expression has the names of its tree
pub names-tree : (text : List ℕ) → is_some (expression_of text) ≡ true → names_in_text text ≡ names_in_tree (expression_of text)
names-tree text s = grind (arith, named_by)

-- the names of a text are that of the leading token, if it is one, and those of the text after it
pub record Steps (text : List ℕ) (t : Token) (rest : List ℕ) : Type 0 where
  pub names : names_in_text text ≡ option_to_list (name_in_token t) ++ names_in_text rest
  pub whole : is_some (tokens_of rest) ≡ true

pub steps : (text : List ℕ) (t : Token) (rest : List ℕ) → found t rest ≡ next_token text → is_some (tokens_of text) ≡ true → Steps text t rest
steps text t rest e s = grind (arith, tokens_of-prepend_token)
