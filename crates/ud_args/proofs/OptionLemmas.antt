-- The argument of an option that names a symbol, split at its first `=`.
use Rattle.std.proofs.Common.{◌≡◌, ℕ, ◌+◌, List, [], ◌∷◌, take, drop, Bool, true, false, not, cond, Option, Some, refl, ap, one-add, ◌==◌, if◌then◌else◌}
use Rattle.std.specs.List.{position_or_len}
use Rattle.ud_model.specs.answer.SymbolArguments.{name_before_equals, value_after_equals}
use Rattle.ud_args.specs.ParsedSettings.{after_first}

-- the position of the first `=`
abbrev pub equals_at : List ℕ → ℕ
equals_at bytes = position_or_len (λ b. b == 61) bytes

name_one : (e : Bool) (n b : ℕ) (bs prefix : List ℕ) → take n bs ≡ prefix → take (cond (not e) (1 + n) 0) (b ∷ bs) ≡ (if e then [] else b ∷ prefix)
name_one true n b bs prefix h = refl
name_one false n b bs prefix h = rw one-add (ap (λ l. b ∷ l) h)

-- the bytes before the first `=` are the name
pub take-equals_at : (bytes : List ℕ) → take (equals_at bytes) bytes ≡ name_before_equals bytes
take-equals_at [] = refl
take-equals_at (b ∷ bs) = name_one (b == 61) (equals_at bs) b bs (name_before_equals bs) (take-equals_at bs)

value_one : (e : Bool) (n b : ℕ) (bs : List ℕ) (value : Option (List ℕ)) → after_first (drop n bs) ≡ value
    → after_first (drop (cond (not e) (1 + n) 0) (b ∷ bs)) ≡ (if e then Some bs else value)
value_one true n b bs value h = refl
value_one false n b bs value h = rw one-add h

-- the bytes after the first `=` are the value
pub drop-equals_at : (bytes : List ℕ) → after_first (drop (equals_at bytes) bytes) ≡ value_after_equals bytes
drop-equals_at [] = refl
drop-equals_at (b ∷ bs) = value_one (b == 61) (equals_at bs) b bs (value_after_equals bs) (drop-equals_at bs)
