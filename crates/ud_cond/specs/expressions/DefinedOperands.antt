-- DefinedOperands: the name after `defined`, and what follows.
-- `ud_model.specs.conditions.Parsing` defines what a text means in a state.
use Rattle.std.specs.Prelude.{ℕ, Bool, true, false, List, Option, Some, None}
use Rattle.std.specs.Prelude.{option_map}
use Rattle.ud_model.specs.conditions.Tokens.{name, opening, closing, NextToken, found}
use Rattle.ud_model.specs.conditions.Tokens.{next_token}

-- `plain_name next`: the name and what follows it, if the next token is a name without arguments.
abbrev pub plain_name : NextToken → Option (List ℕ × List ℕ)
plain_name (found (name n false) rest) = Some (n, rest)
plain_name _ = None

-- `after_paren next`: what follows the next token, if that is a closing parenthesis.
abbrev pub after_paren : NextToken → Option (List ℕ)
after_paren (found closing rest) = Some rest
after_paren _ = None

-- `enclosed_name r`: the name, `true` for the parentheses, and what follows the closing one.
abbrev pub enclosed_name : Option (List ℕ × List ℕ) → Option (List ℕ × Bool × List ℕ)
enclosed_name None = None
enclosed_name (Some r) = option_map (λ rest. (r.0, true, rest)) (after_paren (next_token r.1))

-- `asked_name next`: the name after a `defined`, whether it is in parentheses, and what follows.
abbrev pub asked_name : NextToken → Option (List ℕ × Bool × List ℕ)
asked_name (found (name n false) rest) = Some (n, false, rest)
asked_name (found opening inside) = enclosed_name (plain_name (next_token inside))
asked_name _ = None
