-- Digits: constants of one digit, the common case.
use Rattle.std.specs.Prelude.{◌≡◌, ℕ, ℤ, List, false, Some}
use Rattle.ud_model.specs.text.Bytes.{is_identifier, starts_with_byte}
use Rattle.ud_model.specs.conditions.Constants.{constant_parts, constant_sign}
use Rattle.ud_model.specs.conditions.Values.{constant_value}

-- `IsOneDigit w z`: the word is a constant without a `u` that denotes `z`, and begins neither like
-- a name nor with a `-` or a byte 255.
pub record IsOneDigit (w : List ℕ) (z : ℤ) : Type 0 where
  pub sign : constant_sign (constant_parts w) ≡ Some false
  pub value : constant_value w ≡ Some z
  pub nameless : is_identifier w ≡ false
  pub positive : starts_with_byte 45 w ≡ false
  pub sole : starts_with_byte 255 w ≡ false
