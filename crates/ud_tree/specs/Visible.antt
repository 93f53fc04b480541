-- Visible: text in messages, without control characters.
--
--   hex_digit d       the hexadecimal digit of a number below 16
--   shown_byte b      the visible form of a byte
--   begins_upper text   a text begins with the second byte of a control character of two bytes
--   is_control before b rest   a byte is a control character, or a part of one
--   visible_after before text   the visible text after a byte
--   visible text      the text with each control character shown
--   pending held      a byte that waits to be written
--   Shows held bytes held' old new   bytes were shown, up to one that waits
--
-- Control characters are those of ASCII, and U+0080 to U+009F, which terminals may obey, too. In
-- UTF-8 these are the byte 194 and one from 128 to 159.
--
-- Example: a newline is shown as `\x0a`, and U+0085 as `\xc2\x85`.
use Rattle.std.specs.Prelude.{◌≡◌, ℕ, ◌+◌, ◌/◌, ◌%◌, ◌==◌, ◌&&◌, ◌||◌, List, [], ◌∷◌, ◌++◌, Bool}
use Rattle.std.specs.Prelude.{false, nat_le, nat_lt, if◌then◌else◌}
use Rattle.ud_io.specs.Streams.{Stream, Sends}

-- `hex_digit d`: the hexadecimal digit of `d`, which is below 16.
unfoldable pub hex_digit : ℕ → ℕ
hex_digit d = if nat_lt d 10 then 48 + d else 87 + d

-- `shown_byte b`: `\x` and the two hexadecimal digits of `b`.
abbrev pub shown_byte : ℕ → List ℕ
shown_byte b = 92 ∷ 120 ∷ hex_digit (b / 16) ∷ hex_digit (b % 16) ∷ []

-- `begins_upper text`: the text begins with the second byte of a character from U+0080 to U+009F.
abbrev pub begins_upper : List ℕ → Bool
begins_upper [] = false
begins_upper (b ∷ rest) = nat_le 128 b && nat_lt b 160

-- `is_control before b rest`: between the byte `before` and the text `rest`, the byte `b` is a
-- control character of ASCII, or a byte of a control character from U+0080 to U+009F.
abbrev pub is_control : ℕ → ℕ → List ℕ → Bool
is_control before b rest = nat_lt b 32 || b == 127 || (b == 194 && begins_upper rest)
    || (before == 194 && begins_upper (b ∷ []))

-- `visible_after before text`: the text after the byte `before`, with each control character shown.
unfoldable pub visible_after : ℕ → List ℕ → List ℕ
visible_after before [] = []
visible_after before (b ∷ rest) =
    (if is_control before b rest then shown_byte b else b ∷ []) ++ visible_after b rest

-- `visible text`: the text with each byte of a control character as `\x` and its two hexadecimal
-- digits.
unfoldable pub visible : List ℕ → List ℕ
visible text = visible_after 0 text

-- `pending held`: the byte 194, if it waits until it is known whether it is shown.
abbrev pub pending : Bool → List ℕ
pending held = if held then 194 ∷ [] else []

-- `Shows held bytes held' old new`: what is visible of the byte that was waiting and of `bytes` was
-- written, but for a byte that waits then, whatever follows.
pub record Shows (held : Bool) (bytes : List ℕ) (held' : Bool) (old new : Stream) : Type 0 where
  pub shown : List ℕ
  pub sent : Sends old new shown
  pub is : (rest : List ℕ) →
      visible (pending held ++ (bytes ++ rest)) ≡ shown ++ visible (pending held' ++ rest)
