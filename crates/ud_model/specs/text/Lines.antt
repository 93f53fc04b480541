-- Lines: a text as its lines. A line ends with its newline (POSIX XBD 3.206); a carriage return
-- before the newline belongs to the line's ending.
--
--   AreLines text ls           `ls` are the lines of `text`: `texts_of text` and no others
--   AreSplitLines text parts   `parts` are its whole lines and the rest: `split_lines text`, and no
--                              others
--   whole_lines text           the lines of a text that hasn't ended: those that have their newline
--   partial_line text          the bytes after the last newline
--   lines_of text              the lines of a text that has ended, numbered from 1
--
-- Example: "a\r\nb" has the lines "a" with the ending "\r\n" and the number 1, and "b" without an
-- ending and with the number 2.
use Rattle.std.specs.Prelude.{◌≡◌, ◌≢◌, ℕ, suc, ◌-◌, ◌==◌, nat_eq, List, [], ◌∷◌, ◌++◌, length}
use Rattle.std.specs.Prelude.{take, if◌then◌else◌, ◌⊎◌, Bool, true, ◌||◌, bytes_eq}
use Rattle.std.specs.List.{concat, ends_with}
use Rattle.ud_model.specs.text.Bytes.{newline, carriage_return}

-- `NoNewline bytes`: `bytes` has no newline.
abbrev pub NoNewline : List ℕ → Type 0
NoNewline [] = Unit {0}
NoNewline (b ∷ bs) = (b ≢ newline) × NoNewline bs

-- `IsWhole line`: `line` ends with a newline, and has no other one.
abbrev pub IsWhole : List ℕ → Type 0
IsWhole line = (prefix : List ℕ) × NoNewline prefix × (line ≡ prefix ++ newline ∷ [])

-- `IsUnterminated line`: `line` has no newline and is nonempty, as the last line of a text may be.
abbrev pub IsUnterminated : List ℕ → Type 0
IsUnterminated line = (line ≢ []) × NoNewline line

-- `AreFormed ls`: each line is whole, except that the last one may be unterminated.
abbrev pub AreFormed : List (List ℕ) → Type 0
AreFormed [] = Unit {0}
AreFormed (l ∷ []) = IsWhole l ⊎ IsUnterminated l
AreFormed (l ∷ m ∷ ls) = IsWhole l × AreFormed (m ∷ ls)

-- `AreLines text ls`: `ls` are the lines of `text`, with their endings. Joined they are the text.
pub record AreLines (text : List ℕ) (ls : List (List ℕ)) : Type 0 where
  pub joined : text ≡ concat ls
  pub formed : AreFormed ls

-- `AreWhole ls`: each line of `ls` is whole.
abbrev pub AreWhole : List (List ℕ) → Type 0
AreWhole [] = Unit {0}
AreWhole (l ∷ ls) = IsWhole l × AreWhole ls

-- The whole lines of a text, and the rest after its last newline.
pub record SplitLines : Type 0 where
  pub whole : List (List ℕ)
  pub rest : List ℕ

-- `AreSplitLines text parts`: `parts` are the whole lines of `text` and the rest. Joined they are
-- the text, and no newline is in the rest.
pub record AreSplitLines (text : List ℕ) (parts : SplitLines) : Type 0 where
  pub joined : text ≡ concat parts.whole ++ parts.rest
  pub whole : AreWhole parts.whole
  pub no_newline : NoNewline parts.rest

-- `prepend_to_first b ls rest`: the lines `ls` and `rest` with `b` before them, which is no
-- newline.
abbrev pub prepend_to_first : ℕ → List (List ℕ) → List ℕ → SplitLines
prepend_to_first b [] rest = record { whole = []; rest = b ∷ rest }
prepend_to_first b (l ∷ ls) rest = record { whole = (b ∷ l) ∷ ls; rest = rest }

-- `prepend_byte b parts`: `parts` with the byte `b` before them.
abbrev pub prepend_byte : ℕ → SplitLines → SplitLines
prepend_byte b parts =
    if b == newline then record { whole = (newline ∷ []) ∷ parts.whole; rest = parts.rest }
    else prepend_to_first b parts.whole parts.rest

-- `split_lines text`: the whole lines of `text` and the rest, computed.
unfoldable pub split_lines : List ℕ → SplitLines
split_lines [] = record { whole = []; rest = [] }
split_lines (b ∷ bs) = prepend_byte b (split_lines bs)

-- `whole_lines text`: the whole lines of `text`, with their newlines.
abbrev pub whole_lines : List ℕ → List (List ℕ)
whole_lines text = (split_lines text).whole

-- `partial_line text`: the bytes of `text` after its last newline.
abbrev pub partial_line : List ℕ → List ℕ
partial_line text = (split_lines text).rest

-- `last_line rest`: `rest` as a line of its own, or no line if `rest` is empty.
abbrev pub last_line : List ℕ → List (List ℕ)
last_line [] = []
last_line (b ∷ bs) = (b ∷ bs) ∷ []

-- `texts_of text`: the lines of `text`, with their endings.
abbrev pub texts_of : List ℕ → List (List ℕ)
texts_of text = whole_lines text ++ last_line (partial_line text)

-- `ending_of line`: `\r\n` if `line` ends with it, else `\n` if `line` ends with it, else nothing.
abbrev pub ending_of : List ℕ → List ℕ
ending_of line =
    if ends_with nat_eq line (carriage_return ∷ newline ∷ []) then carriage_return ∷ newline ∷ []
    else if ends_with nat_eq line (newline ∷ []) then newline ∷ []
    else []

-- `is_ending bytes`: `bytes` is `\r\n`, `\n` or nothing, one of which ends each line.
abbrev pub is_ending : List ℕ → Bool
is_ending [] = true
is_ending (b ∷ bs) = bytes_eq (b ∷ bs) (newline ∷ []) ||
    bytes_eq (b ∷ bs) (carriage_return ∷ newline ∷ [])

-- A line of a text: its body, its ending, and its number, counted from 1.
pub record Line : Type 0 where
  pub body : List ℕ
  pub ending : List ℕ
  pub number : ℕ

-- `text_of line`: the bytes of `line`, with its ending.
abbrev pub text_of : Line → List ℕ
text_of line = line.body ++ line.ending

-- `line_at number text`: the line with this number and these bytes. Its body is `text` without the
-- ending.
abbrev pub line_at : ℕ → List ℕ → Line
line_at number text = record {
  body = take (length text - length (ending_of text)) text;
  ending =
      ending_of text;
  number = number;
}

-- `numbered_from n ls`: the lines `ls`, numbered from `n`.
abbrev pub numbered_from : ℕ → List (List ℕ) → List Line
numbered_from n [] = []
numbered_from n (l ∷ ls) = line_at n l ∷ numbered_from (suc n) ls

-- `lines_of text`: the lines of `text`, which has ended, numbered from 1.
abbrev pub lines_of : List ℕ → List Line
lines_of text = numbered_from 1 (texts_of text)
