-- Reading: the bytes that are read of a file, and the texts that aren't taken.
--
-- `old` and `new` are what a reader still has, before and after; `None` if it doesn't report that.
use Rattle.std.specs.Prelude.{◌≡◌, ℕ, ◌+◌, ◌-◌, List, ◌++◌, length, drop, Bool, not}
use Rattle.std.specs.Prelude.{◌&&◌, ◌||◌, ◌⊎◌, Option, nat_eq, nat_lt, ◌∷◌, []}
use Rattle.std.specs.List.{list_any, starts_with}
use Rattle.std.specs.Io.KnownBytes.{Consumes, IsAtEnd}
use Rattle.ud_model.specs.text.Bytes.{skip_white}
use Rattle.ud_model.specs.declared.limits.TheConstants.{MAX_LINE_BYTES}

-- `ReadsAll old new size text`: `text` was read, to the reader's end or to the size of the file.
pub record ReadsAll (old new : Option (List ℕ)) (size : ℕ) (text : List ℕ) : Type 0 where
  pub consumed : Consumes old new text
  pub whole : IsAtEnd new ⊎ (length text ≡ size)

-- `ReadsBlock old new before after count`: `count` bytes were read after those in `before`, none
-- only at the reader's end.
pub record ReadsBlock (old new : Option (List ℕ)) (before after : List ℕ) (count : ℕ) : Type 0 where
  pub bytes : List ℕ
  pub appended : after ≡ before ++ bytes
  pub counted : length bytes ≡ count
  pub consumed : Consumes old new bytes
  pub ended : count ≡ 0 → IsAtEnd new

-- `ends_in_long_line text`: the last `MAX_LINE_BYTES + 1` bytes have no newline.
abbrev pub ends_in_long_line : List ℕ → Bool
ends_in_long_line text = nat_lt MAX_LINE_BYTES (length text) &&
    not (list_any (λ byte. nat_eq byte 10) (drop (length text - (MAX_LINE_BYTES + 1)) text))

-- `begins_section text`: `text` begins with `#` and `if`, perhaps with white space before each.
abbrev pub begins_section : List ℕ → Bool
begins_section text = starts_with nat_eq (skip_white text) (35 ∷ []) &&
    starts_with nat_eq (skip_white (drop 1 (skip_white text))) (105 ∷ 102 ∷ [])

-- `is_utf16 text`: `text` begins with a byte order mark of UTF-16.
abbrev pub is_utf16 : List ℕ → Bool
is_utf16 text = starts_with nat_eq text (255 ∷ 254 ∷ []) ||
    starts_with nat_eq text (254 ∷ 255 ∷ [])

-- `has_bad_mark text`: `text` begins with a byte order mark of UTF-16, or with the one of UTF-8
-- before a section.
abbrev pub has_bad_mark : List ℕ → Bool
has_bad_mark text = is_utf16 text ||
    (starts_with nat_eq text (239 ∷ 187 ∷ 191 ∷ []) && begins_section (drop 3 text))
