-- PlainText: whole lines in plain mode, where only a `#` may begin a directive (C11 6.10).
--
-- `white`: the line is white so far, before the byte or the bytes.
--
-- Example: no byte of `a #if` may begin a directive, whatever comes before it. In ` #if` the `#`
-- may, if the line is white before it.
use Rattle.std.specs.Prelude.{◌≡◌, ℕ, ◌==◌, List, [], ◌∷◌, Bool, false, not, ◌&&◌, ◌||◌}
use Rattle.ud_model.specs.text.Bytes.{newline, number_sign, is_white}
use Rattle.ud_text.specs.bulk.BulkStates.{is_other_word}

-- `is_white_past white b`: after `b` the line is white: `b` ends a line, or is white like all
-- before it.
abbrev pub is_white_past : Bool → ℕ → Bool
is_white_past white b = (b == newline) || (white && is_white b)

-- `is_white_past_all white bytes`: the line is white after these bytes.
abbrev pub is_white_past_all : Bool → List ℕ → Bool
is_white_past_all white [] = white
is_white_past_all white (b ∷ bytes) = is_white_past_all (is_white_past white b) bytes

-- `begins_directive white b rest`: `b` is a `#`, the first byte of its line after white space, and
-- what follows may be a keyword.
abbrev pub begins_directive : Bool → ℕ → List ℕ → Bool
begins_directive white b rest = (b == number_sign) && (white && not (is_other_word rest))

-- `NoneBeginsDirective white bytes`: none of the bytes may begin a directive.
abbrev pub NoneBeginsDirective : Bool → List ℕ → Type 0
NoneBeginsDirective white [] = Unit {0}
NoneBeginsDirective white (b ∷ bytes) =
    (begins_directive white b bytes ≡ false) ×
    NoneBeginsDirective (is_white_past white b) bytes
