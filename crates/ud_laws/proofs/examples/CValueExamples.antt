-- Examples: the values that C may give an expression, computed by the checker.
use Rattle.std.proofs.Common.{◌≡◌, refl, ℕ, List, [], ◌∷◌, codes, Some, None, true, false, Bool, inl, inr, arith, pos, negsuc}
use Rattle.ud_model.specs.conditions.Table.{Argument}
use Rattle.ud_model.specs.conditions.Constants.{suffix_sign}
use Rattle.ud_model.specs.conditions.Tokens.{next_token}
use Rattle.ud_model.specs.conditions.Expressions.{Expression, constant, named, is_defined, unary, binary}
use Rattle.ud_model.specs.conditions.Parsing.{tokens_of, reads, expression_of}
use Rattle.ud_model.specs.conditions.Symbols.{resolve}
use Rattle.ud_model.specs.conditions.Values.{apply_binary_known, apply_unary_known, name_value, name_has_u, defined_value, number_of, value_of}
use Rattle.ud_model.specs.laws.CValues.{Number, Gives, IsConstantValue, signed, unsigned, number, plain, by_suffix, by_size, CValue, of_constant, of_known_name, of_known_defined, of_open_defined, of_unary, of_binary, of_and_both, of_or_both, IsCValue}
use Rattle.ud_model.specs.declared.amount.Amount.TheVariants.{Exactly, Anything}
use Rattle.ud_model.specs.declared.operator.Operator.TheVariants.{Or, And, Equal, Less, Plus, Minus, Over, Remainder, Not, Complement}

-- The argument that defines a name as a value, and the one that undefines it.
abbrev pub sets : List ℕ → List ℕ → Argument
sets name value = record { name = name; entry = record { value = Some value; ignoring = false } }

abbrev pub undefines : List ℕ → Argument
undefines name = record { name = name; entry = record { value = None; ignoring = false } }

-- A is 5.
abbrev pub five : List Argument
five = sets (codes "A") (codes "5") ∷ []

-- The text has this tree, whose value is known, and C may give it this value.
abbrev Shown : List ℕ → Expression → Number → Type 0
Shown text tree value =
    (expression_of text ≡ Some tree) × (value_of five false tree ≡ Exactly (number value)) ×
    IsCValue five tree value

-- The text has this tree, and C may give it this value. Here its value is unknown.
abbrev Refuted : List ℕ → Expression → Number → Type 0
Refuted text tree value = (expression_of text ≡ Some tree) × (value_of five false tree ≡ Anything) ×
    IsCValue five tree value

pub a_is_five : (u : Bool) → CValue five u (named (codes "A") false) (signed (pos 5))
unfolding suffix_sign name_value name_has_u resolve
a_is_five u = of_known_name {z = pos 5} refl

-- The operand A, and a constant.
abbrev a : Expression
a = named (codes "A") false

abbrev c : List ℕ → Expression
c w = constant w

minus_five : CValue five false (unary Minus a) (signed (negsuc 4))
minus_five = of_unary (a_is_five false) (record { sfits = omega arith }, refl)

two : CValue five false (c (codes "2")) (signed (pos 2))
unfolding suffix_sign
two = of_constant (plain refl (omega arith))

-- -5 / 2 is -2, and -5 % 2 is -1.
pub quotient_and_remainder : Shown (codes "-A / 2 == -A % 2 - 1")
    (binary Equal (binary Over (unary Minus a) (c (codes "2")))
    (binary Minus (binary Remainder (unary Minus a) (c (codes "2"))) (c (codes "1"))))
    (signed (pos 1))
unfolding expression_of reads tokens_of next_token suffix_sign apply_binary_known apply_unary_known
    name_value name_has_u resolve defined_value
quotient_and_remainder = (
  refl,
  refl,
  of_binary (of_binary minus_five two ((λ h. cc), (record { sfits = omega arith }, refl)))
      (of_binary (of_binary minus_five two ((λ h. cc), record { sfits = omega arith }, refl))
      (of_constant (plain refl (omega arith))) (record { sfits = omega arith }, refl))
      (inl (refl, refl)),
)

-- Beside `0u` -6 is 2^64 - 6, which isn't below 0; so the right operand counts.
pub or_by_its_right : Shown (codes "~A < 0u || defined A")
    (binary Or (binary Less (unary Complement a) (c (codes "0u"))) (is_defined (codes "A") false))
    (signed (pos 1))
unfolding expression_of reads tokens_of next_token suffix_sign apply_binary_known apply_unary_known
    name_value name_has_u resolve defined_value
or_by_its_right = (
  refl,
  refl,
  of_or_both {x = signed (pos 0)}
      (of_binary {x = signed (negsuc 5)} {y = unsigned 0} (of_unary (a_is_five true) refl)
      (of_constant (by_suffix refl (omega arith))) (inr ((λ h. omega arith), refl)))
      refl (of_known_defined {z = pos 1} refl) (inl ((λ h. cc), refl)),
)

-- X may be defined; that A isn't 0 decides.
pub and_by_its_right : Shown (codes "defined(X) && !A")
    (binary And (is_defined (codes "X") true) (unary Not a)) (signed (pos 0))
unfolding expression_of reads tokens_of next_token suffix_sign apply_binary_known apply_unary_known
    name_value name_has_u resolve defined_value
and_by_its_right = (
  refl,
  refl,
  of_and_both {x = signed (pos 1)} (of_open_defined refl (inr refl)) (λ h. cc)
      (of_unary (a_is_five false) (inr ((λ h. cc), refl))) (inr ((λ h. h refl), refl)),
)

-- The sum is 2^63; wrapped at 64 bits with a sign it would be -2^63.
pub wrapping_sum : Refuted (codes "9223372036854775807u + 1")
    (binary Plus (c (codes "9223372036854775807u")) (c (codes "1"))) (unsigned 9223372036854775808)
unfolding expression_of reads tokens_of next_token suffix_sign apply_binary_known apply_unary_known
    name_value name_has_u resolve
wrapping_sum = (
  refl,
  refl,
  of_binary {x = unsigned 9223372036854775807} {y = signed (pos 1)}
      (of_constant (by_suffix refl (omega arith))) (of_constant (plain refl (omega arith))) refl,
)

-- A hexadecimal constant above 2^63-1 is of the unsigned type; its bits with a sign would be -1.
pub hex_as_signed : Refuted (codes "0xFFFFFFFFFFFFFFFF") (c (codes "0xFFFFFFFFFFFFFFFF"))
    (unsigned 18446744073709551615)
unfolding expression_of reads tokens_of next_token suffix_sign apply_binary_known apply_unary_known
    name_value name_has_u resolve
hex_as_signed = (refl, refl, of_constant (by_size refl refl (omega arith) (omega arith)))

-- -1 % 0.
abbrev remainder_by_zero : Expression
remainder_by_zero = binary Remainder (unary Minus (c (codes "1"))) (c (codes "0"))

is_nought : (y : Number) → IsConstantValue (codes "0") y → y ≡ signed (pos 0)
unfolding suffix_sign
is_nought y h = grind arith

no_remainder : (x z : Number) → Gives Remainder x (signed (pos 0)) z → ⊥
no_remainder x z g = grind arith

nought_of : {table : List Argument} {u : Bool} {y : Number} → CValue table u (c (codes "0")) y → y ≡ signed (pos 0)
nought_of {y = y} (of_constant p) = is_nought y p

-- It has no known value, and no C value.
pub remainder_by_zero_unknown : number_of five false false remainder_by_zero ≡ Anything
unfolding apply_binary_known apply_unary_known
remainder_by_zero_unknown = refl

pub remainder_by_zero_none : (table : List Argument) (u : Bool) (z : Number) → CValue table u remainder_by_zero z → ⊥
remainder_by_zero_none table u z h = grind (arith, nought_of)
