-- Values: the value of an expression, as far as the table decides it.
-- C11 6.10.1p4 and 6.5. A value is exactly a whole number, or at least one, or unknown (Anything).
--
--   fits u z                      `z` is from the least number to 2^63-1; `u` means that the
--                                 expression has a `u`
--   apply_binary_known u o a b    the value of an operator with two known operands
--   apply_binary strict u o a b   the value of an operator with two operands, known or not
--   apply_unary u o a             the value of an operator before one operand
--   counted o a b                 the number that counts for the operand `a` of `o` beside `b`
--   name_value table u n          the value of a name as an operand
--   defined_value table n         the value of `defined` and a name
--   number_of table strict u e    the value of a tree, with that least number
--   has_unsigned table e          a constant of the tree, or one that an operand's name
--                                 resolves to, has a `u`
--   value_of table strict e       the value of an expression
--
-- The least number is -2^63, or 0 if the expression has a `u`. A result out of this range is
-- unknown: C gives no value there, or not the one that whole numbers give. Under `strict`, `&&` and
-- `||` are unknown if an operand is. A byte 255 before a symbol's constant means that the symbol is
-- at least that number. No argument has this byte, since it isn't UTF-8.
--
-- Example: with A as 5, `-A / 2` is -2, `~A < 0u` is unknown, and `X && !A` is 0 unless `strict`.
-- With A as 5 or more, `A > 4` is 1, and `A > 5` and `A + 1 > 5` are unknown.
use Rattle.std.specs.Prelude.{ℕ, ◌^◌, ◌==◌, nat_eq, nat_lt, Bool, true, false, not, ◌&&◌, ◌||◌}
use Rattle.std.specs.Prelude.{if◌then◌else◌, List, [], ◌∷◌, drop, Option, Some, None, is_some, ℤ}
use Rattle.std.specs.Prelude.{pos, negsuc, ◌+ℤ◌, ◌-ℤ◌, ◌*ℤ◌, neg_ℤ, int_lt, int_le, int_div}
use Rattle.std.specs.Prelude.{int_rem, bit_and, bit_or, bit_xor}
use mir.Val.{to_z, of_z}
use mir.Syntax.{w64}
use Rattle.ud_model.specs.text.Bytes.{starts_with_byte}
use Rattle.ud_model.specs.conditions.Table.{Argument, Entry, entry_in}
use Rattle.ud_model.specs.conditions.Constants.{is_constant, has_u, constant_number}
use Rattle.ud_model.specs.conditions.Symbols.{resolve}
use Rattle.ud_model.specs.conditions.Expressions.{Expression, constant, named, is_defined, unary}
use Rattle.ud_model.specs.conditions.Expressions.{binary, parens}
use Rattle.ud_model.specs.declared.amount.Amount.{Amount}
use Rattle.ud_model.specs.declared.amount.Amount.TheVariants.{Anything, Exactly, AtLeast}
use Rattle.ud_model.specs.declared.operator.Operator.{Operator}
use Rattle.ud_model.specs.declared.operator.Operator.TheVariants.{Or, And, BitOr, BitXor, BitAnd}
use Rattle.ud_model.specs.declared.operator.Operator.TheVariants.{Equal, NotEqual, Less, LessEqual}
use Rattle.ud_model.specs.declared.operator.Operator.TheVariants.{Greater, GreaterEqual, Plus}
use Rattle.ud_model.specs.declared.operator.Operator.TheVariants.{Minus, Times, Over, Remainder}
use Rattle.ud_model.specs.declared.operator.Operator.TheVariants.{Not, Complement}

-- `fits u z`: `z` is from -2^63, or from 0 if `u`, to 2^63-1.
abbrev pub fits : Bool → ℤ → Bool
fits u (pos n) = nat_lt n (2 ^ 63)
fits u (negsuc n) = not u && nat_lt n (2 ^ 63)

-- `fit u z`: `z` if it is in range, else unknown.
abbrev pub fit : Bool → ℤ → Option ℤ
fit u z = if fits u z then Some z else None

-- `truth b`: 1 for true, 0 for false.
abbrev pub truth : Bool → ℤ
truth b = if b then pos 1 else pos 0

-- `is_zero z`: `z` is 0.
abbrev pub is_zero : ℤ → Bool
is_zero (pos n) = nat_eq n 0
is_zero (negsuc n) = false

-- `equal_numbers a b`: `a` and `b` are the same number.
abbrev pub equal_numbers : ℤ → ℤ → Bool
equal_numbers a b = int_le a b && int_le b a

-- `by_bits f a b`: `f` applied to `a` and `b` in two's complement of 64 bits.
abbrev pub by_bits : (ℕ → ℕ → ℕ) → ℤ → ℤ → ℤ
by_bits f a b = to_z w64 (f (of_z w64 a) (of_z w64 b))

-- `apply_binary_known u o a b`: the value of `o` between the known operands `a` and `b`.
-- Comparisons, `&&` and `||` give 0 or 1. `/` truncates toward zero, and `%` is the remainder that
-- goes with it. Both are unknown if the divisor is 0 or the quotient is out of range.
unfoldable pub apply_binary_known : Bool → Operator → ℤ → ℤ → Option ℤ
apply_binary_known u Or a b = Some (truth (not (is_zero a) || not (is_zero b)))
apply_binary_known u And a b = Some (truth (not (is_zero a) && not (is_zero b)))
apply_binary_known u BitOr a b = fit u (by_bits bit_or a b)
apply_binary_known u BitXor a b = fit u (by_bits bit_xor a b)
apply_binary_known u BitAnd a b = fit u (by_bits bit_and a b)
apply_binary_known u Equal a b = Some (truth (equal_numbers a b))
apply_binary_known u NotEqual a b = Some (truth (not (equal_numbers a b)))
apply_binary_known u Less a b = Some (truth (int_lt a b))
apply_binary_known u LessEqual a b = Some (truth (int_le a b))
apply_binary_known u Greater a b = Some (truth (int_lt b a))
apply_binary_known u GreaterEqual a b = Some (truth (int_le b a))
apply_binary_known u Plus a b = fit u (a +ℤ b)
apply_binary_known u Minus a b = fit u (a -ℤ b)
apply_binary_known u Times a b = fit u (a *ℤ b)
apply_binary_known u Over a b = if is_zero b then None else fit u (int_div a b)
apply_binary_known u Remainder a b =
    if is_zero b then None
    else if fits u (int_div a b) then fit u (int_rem a b)
    else None
apply_binary_known u _ a b = None

-- `short_circuit o a`: the value that one known operand `a` decides: `&&` is 0 if `a` is 0, and
-- `||` is 1 if `a` isn't 0. Else it is unknown.
abbrev pub short_circuit : Operator → ℤ → Option ℤ
short_circuit And a = if is_zero a then Some (pos 0) else None
short_circuit Or a = if is_zero a then None else Some (pos 1)
short_circuit _ a = None

-- `short_circuits strict o a`: the value that one known operand decides, but unknown under
-- `strict`.
abbrev pub short_circuits : Bool → Operator → ℤ → Option ℤ
short_circuits true o a = None
short_circuits false o a = short_circuit o a

-- `apply_binary strict u o a b`: the value of `o` between the operands `a` and `b`, known or not.
abbrev pub apply_binary : Bool → Bool → Operator → Option ℤ → Option ℤ → Option ℤ
apply_binary strict u o (Some a) (Some b) = apply_binary_known u o a b
apply_binary strict u o (Some a) None = short_circuits strict o a
apply_binary strict u o None (Some b) = short_circuits strict o b
apply_binary strict u o None None = None

-- `apply_unary_known u o a`: the value of `o` before the known operand `a`.
unfoldable pub apply_unary_known : Bool → Operator → ℤ → Option ℤ
apply_unary_known u Not a = Some (truth (is_zero a))
apply_unary_known u Minus a = fit u (neg_ℤ a)
apply_unary_known u Complement a = fit u (neg_ℤ a -ℤ pos 1)
apply_unary_known u _ a = None

-- `apply_unary u o a`: the value of `o` before the operand `a`, known or not.
abbrev pub apply_unary : Bool → Operator → Option ℤ → Option ℤ
apply_unary u o (Some a) = apply_unary_known u o a
apply_unary u o None = None

-- `amount_from least number`: the number, or one from it on if `least`; anything without a number.
abbrev pub amount_from : Bool → Option ℤ → Amount
amount_from least None = Anything
amount_from false (Some z) = Exactly z
amount_from true (Some z) = AtLeast z

-- `is_same_from o n b`: `o` gives the same for each number from `n` on, with `b` on its other side.
abbrev pub is_same_from : Operator → ℤ → Amount → Bool
is_same_from Not n b = int_lt (pos 0) n
is_same_from And n b = int_lt (pos 0) n
is_same_from Or n b = int_lt (pos 0) n
is_same_from Less n (Exactly b) = int_le b n
is_same_from GreaterEqual n (Exactly b) = int_le b n
is_same_from Equal n (Exactly b) = int_lt b n
is_same_from NotEqual n (Exactly b) = int_lt b n
is_same_from LessEqual n (Exactly b) = int_lt b n
is_same_from Greater n (Exactly b) = int_lt b n
is_same_from _ n b = false

-- `counted o a b`: the number that counts for the operand `a` of `o`, with `b` on its other side.
-- The least number counts if each greater one gives the same.
abbrev pub counted : Operator → Amount → Amount → Option ℤ
counted o Anything b = None
counted o (Exactly z) b = Some z
counted o (AtLeast n) b = if is_same_from o n b then Some n else None

-- `mirrored o`: the relation that gives the same as `o` with both operands exchanged.
abbrev pub mirrored : Operator → Operator
mirrored Less = Greater
mirrored LessEqual = GreaterEqual
mirrored Greater = Less
mirrored GreaterEqual = LessEqual
mirrored o = o

-- `unary_amount u o a`: the value of `o` before the operand `a`.
abbrev pub unary_amount : Bool → Operator → Amount → Amount
unary_amount u o a = amount_from false (apply_unary u o (counted o a Anything))

-- `binary_amount strict u o a b`: the value of `o` between the operands `a` and `b`.
abbrev pub binary_amount : Bool → Bool → Operator → Amount → Amount → Amount
binary_amount strict u o a b =
    amount_from false (apply_binary strict u o (counted o a b) (counted (mirrored o) b a))

-- `limited n`: `n`, or unknown above 2^63-1.
abbrev pub limited : ℕ → Option ℤ
limited n = if nat_lt n (2 ^ 63) then Some (pos n) else None

-- `constant_value w`: the value of the constant `w`.
abbrev pub constant_value : List ℕ → Option ℤ
constant_value w = limited (constant_number w)

-- `negated_value u z`: the value of `z` with a `-` before it.
abbrev pub negated_value : Bool → Option ℤ → Option ℤ
negated_value u None = None
negated_value u (Some z) = fit u (neg_ℤ z)

-- `text_value u text`: the value of a text that a symbol resolves to. Only a constant, or a `-` and
-- a constant, has a known value.
abbrev pub text_value : Bool → List ℕ → Option ℤ
text_value u [] = None
text_value u (b ∷ w) =
    if b == 45 then (if is_constant w then negated_value u (constant_value w) else None)
    else if is_constant (b ∷ w) then constant_value (b ∷ w) else None

-- `text_has_u text`: the constant of such a text has a `u`.
abbrev pub text_has_u : List ℕ → Bool
text_has_u [] = false
text_has_u (b ∷ w) = if b == 45 then has_u w else has_u (b ∷ w)

-- `constant_in text`: the text without a byte 255 at its beginning.
abbrev pub constant_in : List ℕ → List ℕ
constant_in text = if starts_with_byte 255 text then drop 1 text else text

-- `end_value u end`: the value of the text that a name resolves to, if any.
abbrev pub end_value : Bool → Option (List ℕ) → Amount
end_value u None = Anything
end_value u (Some text) =
    amount_from (starts_with_byte 255 text) (text_value u (constant_in text))

-- `defined_name_value u end value`: the value of a listed name that resolves to `end`. An undefined
-- name, whose `value` is None, is 0.
abbrev pub defined_name_value : Bool → Option (List ℕ) → Option (List ℕ) → Amount
defined_name_value u end None = Exactly (pos 0)
defined_name_value u end (Some text) = end_value u end

-- `name_value_by u end entry`: the value of a name as an operand, by its entry. An unlisted name is
-- unknown, and an undefined one is 0.
abbrev pub name_value_by : Bool → Option (List ℕ) → Option Entry → Amount
name_value_by u end None = Anything
name_value_by u end (Some e) = defined_name_value u end e.value

-- `name_value table u n`: the value of the name `n` as an operand.
unfoldable pub name_value : List Argument → Bool → List ℕ → Amount
name_value table u n = name_value_by u (resolve table n) (entry_in table n)

-- `end_has_u end`: a name resolves to a text, and the constant of this text has a `u`.
abbrev pub end_has_u : Option (List ℕ) → Bool
end_has_u None = false
end_has_u (Some text) = text_has_u (constant_in text)

-- `name_has_u table n`: the constant that `n` resolves to has a `u`.
unfoldable pub name_has_u : List Argument → List ℕ → Bool
name_has_u table n = end_has_u (resolve table n)

-- `defined_value_by entry`: 1 if the entry defines its name, 0 if it undefines it, unknown without
-- an entry.
abbrev pub defined_value_by : Option Entry → Option ℤ
defined_value_by None = None
defined_value_by (Some e) = Some (truth (is_some e.value))

-- `defined_value table n`: the value of `defined n`, which is unknown if `n` is unlisted.
unfoldable pub defined_value : List Argument → List ℕ → Option ℤ
defined_value table n = defined_value_by (entry_in table n)

module _ (table : List Argument) where
  -- `number_of strict u e`: the value of the tree `e`; `u` means that the whole expression has a
  -- `u`.
  abbrev pub number_of : Bool → Bool → Expression → Amount
  number_of strict u (constant w) = amount_from false (constant_value w)
  number_of strict u (named n arguments) = name_value table u n
  number_of strict u (is_defined n parentheses) = amount_from false (defined_value table n)
  number_of strict u (unary o a) = unary_amount u o (number_of strict u a)
  number_of strict u (binary o a b) =
      binary_amount strict u o (number_of strict u a) (number_of strict u b)
  number_of strict u (parens a) = number_of strict u a

  -- `has_unsigned e`: a constant of `e`, or one that an operand's name resolves to, has a `u`.
  abbrev pub has_unsigned : Expression → Bool
  has_unsigned (constant w) = has_u w
  has_unsigned (named n arguments) = name_has_u table n
  has_unsigned (is_defined n parentheses) = false
  has_unsigned (unary o a) = has_unsigned a
  has_unsigned (binary o a b) = has_unsigned a || has_unsigned b
  has_unsigned (parens a) = has_unsigned a

  -- `value_of strict e`: the value of the expression `e`.
  abbrev pub value_of : Bool → Expression → Amount
  value_of strict e = number_of strict (has_unsigned e) e
