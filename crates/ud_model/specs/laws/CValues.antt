-- C values: the values that C may give a condition's expression, whatever the names are that the
-- table leaves open.
-- C11 6.10.1p4: all signed integers have the type intmax_t and all unsigned ones uintmax_t, here of
-- 64 bits in two's complement. 6.5 and 6.3.1.8 for the operators.
--
--   Number                a number of one of the two types; `number x` is the number alone
--   IsConstantValue w c   the constant `w` has the value `c` (6.4.4.1p5)
--   GivesUnary o x c      an operator before the operand `x` may give `c`
--   Gives o x y c         an operator between two operands may give `c`, `&&` and `||` aside
--   CValue table u e c    the tree `e` may have the value `c`; `u` means that the whole expression
--                         has a `u`
--   IsCValue table e c    the expression `e` may have the value `c`
--
-- A name whose value the table decides has this value, in the type of the constant it resolves to.
-- If the table has its least value, it may be any number from there to 2^63-1 in that type. Every
-- other name may be any number of either type, a different one at each use. `defined` and an
-- unlisted name is 0 or 1. Where C gives no value there is none: a divisor of 0, a signed result
-- out of range, a constant without a type.
--
-- Example: with A undefined and X unlisted, `A && X` can only be 0, and `X - X` can be any number.
use Rattle.std.specs.Prelude.{◌≡◌, ◌≢◌, ℕ, ◌+◌, ◌-◌, ◌*◌, ◌/◌, ◌%◌, ◌^◌, ◌<◌, ◌≤◌, Bool, true}
use Rattle.std.specs.Prelude.{false, if◌then◌else◌, List, Some, None, ◌⊎◌, ℤ, pos, ◌+ℤ◌, ◌-ℤ◌, ◌*ℤ◌}
use Rattle.std.specs.Prelude.{neg_ℤ, ◌<ℤ◌, ◌≤ℤ◌, int_div, int_rem, bit_and, bit_or, bit_xor}
use Rattle.std.specs.Prelude.{FitsSigned}
use Rattle.std.specs.Int.{cast_signed, cast_unsigned}
use mir.Syntax.{w64}
use Rattle.ud_model.specs.conditions.Table.{Argument}
use Rattle.ud_model.specs.conditions.Constants.{has_u, is_decimal, constant_number}
use Rattle.ud_model.specs.conditions.Expressions.{Expression, constant, named, is_defined, unary}
use Rattle.ud_model.specs.conditions.Expressions.{binary, parens}
use Rattle.ud_model.specs.conditions.Values.{name_value, name_has_u, defined_value, has_unsigned}
use Rattle.ud_model.specs.declared.amount.Amount.TheVariants.{Anything, Exactly, AtLeast}
use Rattle.ud_model.specs.declared.operator.Operator.{Operator}
use Rattle.ud_model.specs.declared.operator.Operator.TheVariants.{Or, And, BitOr, BitXor, BitAnd}
use Rattle.ud_model.specs.declared.operator.Operator.TheVariants.{Equal, NotEqual, Less, LessEqual}
use Rattle.ud_model.specs.declared.operator.Operator.TheVariants.{Greater, GreaterEqual, Plus}
use Rattle.ud_model.specs.declared.operator.Operator.TheVariants.{Minus, Times, Over, Remainder}
use Rattle.ud_model.specs.declared.operator.Operator.TheVariants.{Not, Complement}

-- A number with its type.
pub data Number : Type 0 where
  -- A number of intmax_t.
  signed : ℤ → Number
  -- A number of uintmax_t.
  unsigned : ℕ → Number

-- `number x`: the number alone.
abbrev pub number : Number → ℤ
number (signed z) = z
number (unsigned n) = pos n

-- `IsInRange x`: the number is in the range of its type.
abbrev pub IsInRange : Number → Type 0
IsInRange (signed z) = FitsSigned w64 z
IsInRange (unsigned n) = n < 2 ^ 64

-- `as_unsigned x`: `x` converted to uintmax_t. A negative number has 2^64 added (6.3.1.3p2), so its
-- bits stay.
abbrev pub as_unsigned : Number → ℕ
as_unsigned (signed z) = cast_unsigned w64 z
as_unsigned (unsigned n) = n

-- `IsTruth Holds c`: `c` is 1 if `Holds` is true, and 0 if it isn't (6.5.3.3p5, 6.5.8p6, 6.5.9p3).
abbrev pub IsTruth : Type 0 → Number → Type 0
IsTruth Holds c = (Holds × (c ≡ signed (pos 1))) ⊎ ((Holds → ⊥) × (c ≡ signed (pos 0)))

-- `IsZero x`: the number is 0.
abbrev pub IsZero : Number → Type 0
IsZero x = number x ≡ pos 0

-- `IsResult z c`: `c` is the result `z` in intmax_t. A `z` out of range gives no result (6.5p5).
abbrev pub IsResult : ℤ → Number → Type 0
IsResult z c = FitsSigned w64 z × (c ≡ signed z)

-- `bitwise f a b`: `f` applied to the bits of both operands (6.2.6.2).
abbrev pub bitwise : (ℕ → ℕ → ℕ) → ℤ → ℤ → ℤ
bitwise f a b = cast_signed w64 (f (cast_unsigned w64 a) (cast_unsigned w64 b))

-- `GivesSigned o a b c`: `o` between two operands of intmax_t gives `c`.
abbrev pub GivesSigned : Operator → ℤ → ℤ → Number → Type 0
GivesSigned BitOr a b c = c ≡ signed (bitwise bit_or a b)
GivesSigned BitXor a b c = c ≡ signed (bitwise bit_xor a b)
GivesSigned BitAnd a b c = c ≡ signed (bitwise bit_and a b)
GivesSigned Equal a b c = IsTruth (a ≡ b) c
GivesSigned NotEqual a b c = IsTruth (a ≢ b) c
GivesSigned Less a b c = IsTruth (a <ℤ b) c
GivesSigned LessEqual a b c = IsTruth (a ≤ℤ b) c
GivesSigned Greater a b c = IsTruth (b <ℤ a) c
GivesSigned GreaterEqual a b c = IsTruth (b ≤ℤ a) c
GivesSigned Plus a b c = IsResult (a +ℤ b) c
GivesSigned Minus a b c = IsResult (a -ℤ b) c
GivesSigned Times a b c = IsResult (a *ℤ b) c
GivesSigned Over a b c = (b ≢ pos 0) × IsResult (int_div a b) c
GivesSigned Remainder a b c = (b ≢ pos 0) × FitsSigned w64 (int_div a b) ×
    (c ≡ signed (int_rem a b))
GivesSigned _ a b c = ⊥

-- `GivesUnsigned o a b c`: `o` between two operands of uintmax_t gives `c`, modulo 2^64 (6.2.5p9).
abbrev pub GivesUnsigned : Operator → ℕ → ℕ → Number → Type 0
GivesUnsigned BitOr a b c = c ≡ unsigned (bit_or a b)
GivesUnsigned BitXor a b c = c ≡ unsigned (bit_xor a b)
GivesUnsigned BitAnd a b c = c ≡ unsigned (bit_and a b)
GivesUnsigned Equal a b c = IsTruth (a ≡ b) c
GivesUnsigned NotEqual a b c = IsTruth (a ≢ b) c
GivesUnsigned Less a b c = IsTruth (a < b) c
GivesUnsigned LessEqual a b c = IsTruth (a ≤ b) c
GivesUnsigned Greater a b c = IsTruth (b < a) c
GivesUnsigned GreaterEqual a b c = IsTruth (b ≤ a) c
GivesUnsigned Plus a b c = c ≡ unsigned ((a + b) % 2 ^ 64)
GivesUnsigned Minus a b c = c ≡ unsigned ((a + (2 ^ 64 - b)) % 2 ^ 64)
GivesUnsigned Times a b c = c ≡ unsigned ((a * b) % 2 ^ 64)
GivesUnsigned Over a b c = (0 < b) × (c ≡ unsigned (a / b))
GivesUnsigned Remainder a b c = (0 < b) × (c ≡ unsigned (a % b))
GivesUnsigned _ a b c = ⊥

-- `Gives o x y c`: `o` between `x` and `y` gives `c`. By the usual arithmetic conversions
-- (6.3.1.8), an operand beside one of uintmax_t is converted to that type.
abbrev pub Gives : Operator → Number → Number → Number → Type 0
Gives o (signed a) (signed b) c = GivesSigned o a b c
Gives o (signed a) (unsigned b) c = GivesUnsigned o (as_unsigned (signed a)) b c
Gives o (unsigned a) (signed b) c = GivesUnsigned o a (as_unsigned (signed b)) c
Gives o (unsigned a) (unsigned b) c = GivesUnsigned o a b c

-- `GivesUnary o x c`: `o` before the operand `x` gives `c` (6.5.3.3).
abbrev pub GivesUnary : Operator → Number → Number → Type 0
GivesUnary Not x c = IsTruth (IsZero x) c
GivesUnary Minus (signed a) c = IsResult (neg_ℤ a) c
GivesUnary Minus (unsigned a) c = c ≡ unsigned ((2 ^ 64 - a) % 2 ^ 64)
GivesUnary Complement (signed a) c = c ≡ signed (cast_signed w64 (2 ^ 64 - 1 - cast_unsigned w64 a))
GivesUnary Complement (unsigned a) c = c ≡ unsigned (2 ^ 64 - 1 - a)
GivesUnary _ x c = ⊥

-- `IsConstantValue w c`: the constant `w` has the value `c`. Its type is uintmax_t if it has a `u`,
-- or if it isn't decimal and only fits this type (6.4.4.1p5).
pub data IsConstantValue (w : List ℕ) : Number → Type 0 where
  plain : has_u w ≡ false → constant_number w < 2 ^ 63 →
      IsConstantValue w (signed (pos (constant_number w)))
  by_suffix : has_u w ≡ true → constant_number w < 2 ^ 64 →
      IsConstantValue w (unsigned (constant_number w))
  by_size : has_u w ≡ false → is_decimal w ≡ false → 2 ^ 63 ≤ constant_number w →
      constant_number w < 2 ^ 64 →
      IsConstantValue w (unsigned (constant_number w))

-- `typed b z`: the known value `z` as a number of uintmax_t if `b`, else of intmax_t.
abbrev pub typed : Bool → ℤ → Number
typed b z = if b then unsigned (cast_unsigned w64 z) else signed z

-- `CValue table u e c`: the tree `e` may have the value `c`. `&&` and `||` evaluate their right
-- operand only if the left one leaves them open (6.5.13p4, 6.5.14p4).
pub data CValue (table : List Argument) (u : Bool) : Expression → Number → Type 0 where
  of_constant : {w : List ℕ} {c : Number} → IsConstantValue w c → CValue table u (constant w) c
  of_known_name : {n : List ℕ} {arguments : Bool} {z : ℤ} → name_value table u n ≡ Exactly z →
      CValue table u (named n arguments) (typed (name_has_u table n) z)
  of_least_name : {n : List ℕ} {arguments : Bool} {z k : ℤ} → name_value table u n ≡ AtLeast z →
      z ≤ℤ k → FitsSigned w64 k →
      CValue table u (named n arguments) (typed (name_has_u table n) k)
  of_open_name : {n : List ℕ} {arguments : Bool} {c : Number} → name_value table u n ≡ Anything →
      IsInRange c →
      CValue table u (named n arguments) c
  of_known_defined : {n : List ℕ} {p : Bool} {z : ℤ} → defined_value table n ≡ Some z →
      CValue table u (is_defined n p) (signed z)
  of_open_defined : {n : List ℕ} {p : Bool} {c : Number} → defined_value table n ≡ None →
      (c ≡ signed (pos 0)) ⊎ (c ≡ signed (pos 1)) →
      CValue table u (is_defined n p) c
  of_unary : {o : Operator} {a : Expression} {x c : Number} → CValue table u a x →
      GivesUnary o x c → CValue table u (unary o a) c
  of_binary : {o : Operator} {a b : Expression} {x y c : Number} → CValue table u a x →
      CValue table u b y → Gives o x y c →
      CValue table u (binary o a b) c
  of_and_left : {a b : Expression} {x : Number} → CValue table u a x → IsZero x →
      CValue table u (binary And a b) (signed (pos 0))
  of_and_both : {a b : Expression} {x y c : Number} → CValue table u a x → (IsZero x → ⊥) →
      CValue table u b y → IsTruth (IsZero y → ⊥) c →
      CValue table u (binary And a b) c
  of_or_left : {a b : Expression} {x : Number} → CValue table u a x → (IsZero x → ⊥) →
      CValue table u (binary Or a b) (signed (pos 1))
  of_or_both : {a b : Expression} {x y c : Number} → CValue table u a x → IsZero x →
      CValue table u b y → IsTruth (IsZero y → ⊥) c →
      CValue table u (binary Or a b) c
  of_parens : {a : Expression} {c : Number} → CValue table u a c → CValue table u (parens a) c

-- `IsCValue table e c`: the expression `e` may have the value `c`.
abbrev pub IsCValue : List Argument → Expression → Number → Type 0
IsCValue table e c = CValue table (has_unsigned table e) e c
