-- Constants: the integer constants, and their numbers.
-- C11 6.4.4.1. A word is a text of word bytes alone.
--
--   constant_parts w    the digits of a word, in their base, and its suffix
--   suffix_sign s       whether a suffix has a `u`; None if `s` is no suffix
--   is_constant w       the word is an integer constant
--   has_u w             the word is a constant with a `u` or `U`
--   is_decimal w        the word doesn't begin with `0`
--   constant_number w   the number that its digits denote
--
-- Example: `0x1uL` is the number 1, of base 16, and has a `u`. `08` is no constant.
use Rattle.std.specs.Prelude.{ℕ, ◌+◌, ◌-◌, ◌*◌, nat_le, List, [], ◌∷◌, ◌++◌, map, take, drop}
use Rattle.std.specs.Prelude.{length, Bool, true, false, not, ◌&&◌, ◌||◌, if◌then◌else◌, Option}
use Rattle.std.specs.Prelude.{Some, None, is_some, unwrap_or, bytes_eq, codes}
use Rattle.std.specs.List.{prefix_len, flat_map}
use Rattle.ud_model.specs.text.Bytes.{is_digit, starts_with_byte}

-- `is_octal_digit b`: `b` is a digit from `0` to `7`.
abbrev pub is_octal_digit : ℕ → Bool
is_octal_digit b = nat_le 48 b && nat_le b 55

-- `is_hex_digit b`: `b` is a digit, or a letter from `a` to `f` or from `A` to `F`.
abbrev pub is_hex_digit : ℕ → Bool
is_hex_digit b = is_digit b || (nat_le 65 b && nat_le b 70) || (nat_le 97 b && nat_le b 102)

-- The digits of a word in a base, and the suffix after them.
pub record ConstantParts : Type 0 where
  pub base : ℕ
  pub digits : List ℕ
  pub suffix : List ℕ

-- `split_digits is_one base w`: `w` split after its longest prefix of digits, the bytes that
-- `is_one` accepts.
abbrev pub split_digits : (ℕ → Bool) → ℕ → List ℕ → ConstantParts
split_digits is_one base w = record {
  base = base;
  digits = take (prefix_len is_one w) w;
  suffix =
      drop (prefix_len is_one w) w;
}

-- `has_hex_prefix w`: `w` begins with `0x` or `0X`.
abbrev pub has_hex_prefix : List ℕ → Bool
has_hex_prefix w = starts_with_byte 48 w &&
    (starts_with_byte 120 (drop 1 w) || starts_with_byte 88 (drop 1 w))

-- `constant_parts w`: hexadecimal digits after `0x` or `0X`, else octal digits from a `0` on, else
-- decimal digits.
abbrev pub constant_parts : List ℕ → ConstantParts
constant_parts w =
    if has_hex_prefix w then split_digits is_hex_digit 16 (drop 2 w)
    else if starts_with_byte 48 w then split_digits is_octal_digit 8 w
    else split_digits is_digit 10 w

-- The suffixes `u` and `U`.
abbrev pub unsigned_suffixes : List (List ℕ)
unsigned_suffixes = codes "u" ∷ codes "U" ∷ []

-- The suffixes `l` and `L`, each alone or twice.
abbrev pub long_suffixes : List (List ℕ)
long_suffixes = codes "l" ∷ codes "L" ∷ codes "ll" ∷ codes "LL" ∷ []

-- `each_combination firsts others`: each of `firsts` joined with each of `others` after it.
abbrev pub each_combination : List (List ℕ) → List (List ℕ) → List (List ℕ)
each_combination firsts others = flat_map (λ a. map (λ b. a ++ b) others) firsts

-- `is_one_of_texts texts s`: `s` is one of `texts`.
abbrev pub is_one_of_texts : List (List ℕ) → List ℕ → Bool
is_one_of_texts [] s = false
is_one_of_texts (t ∷ ts) s = bytes_eq t s || is_one_of_texts ts s

-- `suffix_sign s`: true if `s` is a suffix with a `u`, false if it is one without, else None. A
-- suffix has an unsigned and a long part in either order, one part alone, or nothing.
unfoldable pub suffix_sign : List ℕ → Option Bool
suffix_sign s =
    if is_one_of_texts (unsigned_suffixes ++ each_combination unsigned_suffixes long_suffixes ++
    each_combination long_suffixes unsigned_suffixes) s then Some true
    else if is_one_of_texts ([] ∷ long_suffixes) s then Some false
    else None

-- `constant_sign p`: true if `p` is a constant with a `u`, false if it is one without, else None. A
-- constant has at least one digit.
abbrev pub constant_sign : ConstantParts → Option Bool
constant_sign p = if nat_le 1 (length p.digits) then suffix_sign p.suffix else None

-- `is_constant w`: `w` is a constant: digits of its base, at least one, and a suffix or nothing.
abbrev pub is_constant : List ℕ → Bool
is_constant w = is_some (constant_sign (constant_parts w))

-- `has_u w`: `w` is a constant with a `u` or `U`.
abbrev pub has_u : List ℕ → Bool
has_u w = unwrap_or (constant_sign (constant_parts w)) false

-- `is_decimal w`: `w` doesn't begin with `0`.
abbrev pub is_decimal : List ℕ → Bool
is_decimal w = not (starts_with_byte 48 w)

-- `digit_value d`: the value of the digit `d`, which is one of `0` to `9`, `A` to `F` or `a` to
-- `f`.
abbrev pub digit_value : ℕ → ℕ
digit_value d = if nat_le d 57 then d - 48 else if nat_le d 70 then d - 55 else d - 87

-- `append_digits base n digits`: the number `n`, continued by `digits`.
abbrev pub append_digits : ℕ → ℕ → List ℕ → ℕ
append_digits base n [] = n
append_digits base n (d ∷ ds) = append_digits base (n * base + digit_value d) ds

-- `constant_number w`: the number that the digits of `w` denote.
abbrev pub constant_number : List ℕ → ℕ
constant_number w = append_digits (constant_parts w).base 0 (constant_parts w).digits
