-- Numbers grow with their digits, so a number that is too large stays too large.
use Rattle.std.proofs.Common.{◌≡◌, ℕ, pos, ◌≤◌, ◌<◌, ◌+◌, ◌*◌, ◌^◌, ◌==◌, List, [], ◌∷◌, length, get_or, Bool, Some, None, true, false, refl, sym, subst, arith}
use Rattle.std.proofs.lemmas.Bool.{eqb-true}
use Rattle.ud_model.specs.text.Bytes.{is_digit}
use Rattle.ud_model.specs.conditions.Constants.{constant_parts, suffix_sign, append_digits, digit_value}
use Rattle.ud_model.specs.conditions.Values.{limited}
use Rattle.ud_cond.specs.expressions.Digits.{IsOneDigit}
use Rattle.ud_cond.specs.declared.expressions.constants.Base.{Base}
use Rattle.ud_cond.specs.CondViews.{base_of}

-- more digits make no smaller number
pub grows : (b : Base) (n : ℕ) (ds : List ℕ) → n ≤ append_digits (base_of b) n ds
grows b n [] = omega arith
grows b n (d ∷ ds) = grind (arith, grows b (n * base_of b + digit_value d) ds)

-- a number whose digits so far are too large is unknown too
pub unknown-above : (b : Base) (n : ℕ) (ds : List ℕ) → 0 < length ds → 2 ^ 64 ≤ n * base_of b + digit_value (get_or ds 0 0) → limited (append_digits (base_of b) n ds) ≡ None
unknown-above b n [] l h = absurd (omega arith)
unknown-above b n (d ∷ ds) l h = grind (arith, grows)

-- the parts of a word of one digit
digit_by : (b : ℕ) (z : Bool) → (b == 48) ≡ z → is_digit b ≡ true → (base : ℕ) × (constant_parts (b ∷ []) ≡ record { base = base; digits = b ∷ []; suffix = [] })
digit_by b true e d = (8, let is : b ≡ 48 = eqb-true b 48 e in subst (λ (n : ℕ). constant_parts (n ∷ []) ≡ record { base = 8; digits = n ∷ []; suffix = [] }) (sym is) refl)
digit_by b false e d = (10, simp (e, d))

no_suffix : suffix_sign [] ≡ Some false
unfolding suffix_sign
no_suffix = refl

-- a text of one byte
pub sole : (w : List ℕ) → length w ≡ 1 → w ≡ get_or w 0 0 ∷ []
sole [] l = absurd (omega arith)
sole (b ∷ []) l = refl
sole (b ∷ a ∷ w) l = absurd (omega arith)

-- a word of one digit is a constant of the digit's value
pub one-digit : (b n : ℕ) → is_digit b ≡ true → n ≡ digit_value b → n < 256 → IsOneDigit (b ∷ []) (pos n)
one-digit b n d is few = grind (arith, digit_by, no_suffix)
