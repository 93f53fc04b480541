-- CondViews: the program's values as values of the definitions.
use Rattle.std.specs.Prelude.{List, ℕ, Bool, Option, option_map}
use Rattle.ud_cond.specs.declared.symbols.Entry as entry
use Rattle.ud_cond.specs.declared.conditions.Rules as rules
use Rattle.ud_cond.specs.declared.conditions.Answer as answer
use Rattle.ud_cond.specs.declared.expressions.tokens.Token as token
use Rattle.ud_cond.specs.declared.expressions.tokens.Token.TheVariants as is
use Rattle.ud_cond.specs.declared.expressions.tokens.NextToken as next
use Rattle.ud_cond.specs.declared.expressions.tokens.NextToken.TheVariants as comes
use Rattle.ud_cond.specs.declared.expressions.constants.Base as base
use Rattle.ud_cond.specs.declared.expressions.constants.Base.TheVariants.{Octal, Decimal}
use Rattle.ud_cond.specs.declared.expressions.constants.Base.TheVariants.{Hexadecimal}
use Rattle.ud_cond.specs.declared.expressions.constants.ConstantParts as parts
use Rattle.ud_model.specs.text.Bytes.{is_digit}
use Rattle.ud_model.specs.conditions.Constants.{ConstantParts, is_octal_digit, is_hex_digit}
use Rattle.ud_model.specs.conditions.Tokens.{Token, number, name, defined, operator, opening}
use Rattle.ud_model.specs.conditions.Tokens.{closing, NextToken, at_end, unreadable, found}
use Rattle.ud_model.specs.conditions.Table.{Argument, Entry}
use Rattle.ud_model.specs.conditions.Conditions.{Rules, Decision}

-- `as_entry e`: a borrowed entry of the table, as the definitions' entry.
abbrev pub as_entry : entry.Entry → Entry
as_entry e = record { value = option_map (λ v. v.now) e.value; ignoring = e.ignoring }

-- `argument_for n value ignoring`: the call that defines `n` as `value`, or undefines it.
abbrev pub argument_for : List ℕ → Option (List ℕ) → Bool → Argument
argument_for n value ignoring =
    record { name = n; entry = record { value = value; ignoring = ignoring } }

-- `as_rules r`: the options for expressions, as the definitions' rules.
abbrev pub as_rules : rules.Rules → Rules
as_rules r = record { constants = r.constants; strict = r.strict }

-- `as_decision a`: the decision on a directive, as the definitions' decision.
abbrev pub as_decision : answer.Answer → Decision
as_decision a = record { cond = a.cond; ignoring = a.ignoring }

-- `as_token t`: a token, as the definitions' token.
abbrev pub as_token : token.Token → Token
as_token (is.Number w) = number w.now
as_token (is.Name w arguments) = name w.now arguments
as_token is.Defined = defined
as_token (is.Operator o) = operator o
as_token is.Opening = opening
as_token is.Closing = closing

-- `as_next n`: the beginning of a text, as the definitions' next token.
abbrev pub as_next : next.NextToken → NextToken
as_next comes.AtEnd = at_end
as_next comes.Unreadable = unreadable
as_next (comes.Found t rest) = found (as_token t) rest.now

-- `base_of b`: a base as a number.
abbrev pub base_of : base.Base → ℕ
base_of Octal = 8
base_of Decimal = 10
base_of Hexadecimal = 16

-- `is_digit_of b byte`: the byte is a digit of the base.
abbrev pub is_digit_of : base.Base → ℕ → Bool
is_digit_of Octal b = is_octal_digit b
is_digit_of Decimal b = is_digit b
is_digit_of Hexadecimal b = is_hex_digit b

-- `as_parts p`: the parts of a constant, as the definitions' parts.
abbrev pub as_parts : parts.ConstantParts → ConstantParts
as_parts p = record { base = base_of p.base; digits = p.digits.now; suffix = p.suffix.now }
