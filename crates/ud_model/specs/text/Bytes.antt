-- Bytes: the classes of bytes, and the words that they form. A byte is a number below 256, a text a
-- list of bytes.
-- C11 5.2.1 and 6.4.2.1, in ASCII.
--
--   is_white b        white space within a line
--   is_quote b        a quote
--   is_mark b         a byte at which a comment, a literal or a splice may begin or end
--   is_word_byte b    a letter, a digit or an underscore
--   is_identifier t   a nonempty text of word bytes that doesn't start with a digit
--   skip_white t      the rest of `t` after its leading white space
--   leading_word t    the longest prefix of `t` that has only word bytes; `skip_word t` is the rest
--
-- Bytes from 128 on and NUL are ordinary bytes that belong to no word.
use Rattle.std.specs.Prelude.{ℕ, List, [], ◌∷◌, ◌==◌, nat_le, Bool, true, false, not, ◌&&◌, ◌||◌}
use Rattle.std.specs.Prelude.{if◌then◌else◌}

-- The newline `\n`, which ends a line.
abbrev pub newline : ℕ
newline = 10

-- The carriage return `\r`, which belongs to a line's ending if a newline follows.
abbrev pub carriage_return : ℕ
carriage_return = 13

-- The number sign `#`, which begins a directive.
abbrev pub number_sign : ℕ
number_sign = 35

-- The backslash `\`, which begins a splice at a line's end, and an escape in a literal.
abbrev pub backslash : ℕ
backslash = 92

-- The slash `/`, which may begin or end a comment.
abbrev pub slash : ℕ
slash = 47

-- The star `*`, which may begin or end a block comment together with a slash.
abbrev pub star : ℕ
star = 42

-- The space, which is shown in place of each byte of a comment.
abbrev pub space : ℕ
space = 32

-- The hyphen `-`, which begins an argument that has options.
abbrev pub hyphen : ℕ
hyphen = 45

-- The equals sign `=`, which separates a symbol's name from its value.
abbrev pub equals_sign : ℕ
equals_sign = 61

-- `is_white b`: `b` is a space, a tab, a vertical tab, a form feed or a carriage return.
abbrev pub is_white : ℕ → Bool
is_white b = (b == 32) || (b == 9) || (b == 11) || (b == 12) || (b == 13)

-- `is_quote b`: `b` is a double or a single quote.
abbrev pub is_quote : ℕ → Bool
is_quote b = (b == 34) || (b == 39)

-- `is_mark b`: `b` is a slash, a star, a quote or a backslash. A comment, a literal or a splice may
-- begin or end there.
abbrev pub is_mark : ℕ → Bool
is_mark b = (b == slash) || (b == star) || is_quote b || (b == backslash)

-- `is_digit b`: `b` is a decimal digit.
abbrev pub is_digit : ℕ → Bool
is_digit b = nat_le 48 b && nat_le b 57

-- `is_letter b`: `b` is a letter of ASCII.
abbrev pub is_letter : ℕ → Bool
is_letter b = (nat_le 65 b && nat_le b 90) || (nat_le 97 b && nat_le b 122)

-- `is_word_byte b`: `b` is a letter, a digit or an underscore.
abbrev pub is_word_byte : ℕ → Bool
is_word_byte b = is_letter b || is_digit b || (b == 95)

-- `are_word_bytes t`: each byte of `t` is a word byte.
abbrev pub are_word_bytes : List ℕ → Bool
are_word_bytes [] = true
are_word_bytes (b ∷ bs) = is_word_byte b && are_word_bytes bs

-- `are_white t`: each byte of `t` is white space. An empty text is white.
abbrev pub are_white : List ℕ → Bool
are_white [] = true
are_white (b ∷ bs) = is_white b && are_white bs

-- `starts_with_byte b t`: `t` begins with `b`.
abbrev pub starts_with_byte : ℕ → List ℕ → Bool
starts_with_byte b [] = false
starts_with_byte b (x ∷ xs) = x == b

-- `is_identifier t`: `t` is a nonempty text of word bytes that doesn't start with a digit.
abbrev pub is_identifier : List ℕ → Bool
is_identifier [] = false
is_identifier (b ∷ bs) = not (is_digit b) && are_word_bytes (b ∷ bs)

-- `skip_white t`: the rest of `t` after its leading white space.
abbrev pub skip_white : List ℕ → List ℕ
skip_white [] = []
skip_white (b ∷ bs) = if is_white b then skip_white bs else b ∷ bs

-- `leading_word t`: the longest prefix of `t` that has only word bytes.
abbrev pub leading_word : List ℕ → List ℕ
leading_word [] = []
leading_word (b ∷ bs) = if is_word_byte b then b ∷ leading_word bs else []

-- `skip_word t`: the rest of `t` after its leading word.
abbrev pub skip_word : List ℕ → List ℕ
skip_word [] = []
skip_word (b ∷ bs) = if is_word_byte b then skip_word bs else b ∷ bs
