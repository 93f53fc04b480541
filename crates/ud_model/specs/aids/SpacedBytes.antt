-- Spaced bytes: a text with one space for all white space before a byte.
use Rattle.std.specs.Prelude.{ℕ, List, [], ◌∷◌, ◌++◌, Bool, true, false, if◌then◌else◌}
use Rattle.ud_model.specs.text.Bytes.{space, is_white}

-- `spaced white bytes`: the bytes with one space for all white space before a byte, and without any
-- at the end. White space is before the first byte if `white`.
abbrev pub spaced : Bool → List ℕ → List ℕ
spaced white [] = []
spaced white (b ∷ bytes) =
    if is_white b then spaced true bytes
    else (if white then space ∷ b ∷ [] else b ∷ []) ++ spaced false bytes
