-- LinesState: what is buffered of a text whose bytes come in chunks.
-- POSIX XBD 3.206: a line ends with its newline. The lines are those of ud_model, `text.Lines`.
--
-- Example: after "a\nb" with the first line consumed, "b" is buffered and 1 line comes before it.
use Rattle.std.specs.Prelude.{◌≡◌, ℕ, ◌+◌, ◌<◌, ◌≤◌, List, [], ◌∷◌, ◌++◌, length, take, Bool, true}
use Rattle.std.specs.Prelude.{false, Option, Some, None, if◌then◌else◌, ◌⊎◌, ◌↔◌, IsTrue, Result}
use Rattle.std.specs.Prelude.{MatchResult}
use Rattle.ud_model.specs.text.Lines.{NoNewline, split_lines, Line, lines_of}
use Rattle.ud_model.specs.declared.limits.TheConstants.{MAX_LINE_BYTES}
use Rattle.ud_text.specs.declared.lines.fault.TextFault.{TextFault}
use Rattle.ud_text.specs.declared.lines.fault.TextFault.TheVariants.{TooManyLines, LineTooLong}

-- `LinesState`: the bytes of the line so far; whether it has its newline; how many lines were
-- consumed before it; whether the text has ended; the error after which the lines are fused; and
-- the number of the last line that the text may have.
pub record LinesState : Type 0 where
  pub held : List ℕ
  pub whole : Bool
  pub before : ℕ
  pub closed : Bool
  pub fault : Option TextFault
  pub last_line : ℕ

-- `untaken last`: the lines before the first byte of a text that may have `last` lines.
abbrev pub untaken : ℕ → LinesState
untaken last = record {
  held = [];
  whole = false;
  before = 0;
  closed = false;
  fault = None;
  last_line = last;
}

-- `LinesRepresent lines text`: `text` was taken so far: it is the consumed lines, and the buffered
-- bytes.
pub record LinesRepresent (lines : LinesState) (text : List ℕ) : Type 0 where
  pub consumed : List (List ℕ)
  pub cut : split_lines text ≡ (if lines.whole
      then record { whole = consumed ++ lines.held ∷ []; rest = [] }
      else record { whole = consumed; rest = lines.held })
  pub count : lines.before ≡ length consumed

-- `UpToNewline chunk used whole`: the first `used` bytes of `chunk` end with its first newline if
-- `whole`; otherwise they are all of `chunk`, which has no newline.
pub record UpToNewline (chunk : List ℕ) (used : ℕ) (whole : Bool) : Type 0 where
  pub within : used ≤ length chunk
  pub all : whole ≡ false → (used ≡ length chunk) × NoNewline chunk
  pub line : whole ≡ true → (prefix : List ℕ) × NoNewline prefix ×
      (take used chunk ≡ prefix ++ 10 ∷ [])

-- `with_fault lines fault`: the lines after an error: the buffered bytes stay, and the lines are
-- fused.
abbrev pub with_fault : LinesState → TextFault → LinesState
with_fault lines fault = record lines { fault = Some fault }

-- `BreaksLimit lines chunk fault`: the chunk exceeds a limit: it has a byte for a line after the
-- last one, or else more bytes of the line than fit.
abbrev pub BreaksLimit : LinesState → List ℕ → TextFault → Type 0
BreaksLimit lines chunk (TooManyLines line) =
    (line ≡ lines.before + 1) × (lines.last_line ≤ lines.before) ×
    ((used : ℕ) × (whole : Bool) × UpToNewline chunk used whole × (0 < used))
BreaksLimit lines chunk (LineTooLong line) =
    (line ≡ lines.before + 1) × (lines.before < lines.last_line)
    × ((used : ℕ) × (whole : Bool) × UpToNewline chunk used whole ×
    (MAX_LINE_BYTES < length lines.held + used))

-- `HasCapacity room lines left`: `left` more bytes fit after the buffered ones, in a buffer of
-- `room` bytes. If the buffer takes a line of any length, any number that the line may have fits.
abbrev pub HasCapacity : ℕ → LinesState → ℕ → Type 0
HasCapacity room lines left = room < MAX_LINE_BYTES → length lines.held + left ≤ room

-- `IsComplete lines`: a line can be read: it has its newline, or the text has ended and has bytes
-- after its last newline.
abbrev pub IsComplete : LinesState → Type 0
IsComplete lines = (lines.whole ≡ true) ⊎ ((lines.closed ≡ true) × (0 < length lines.held))

-- `IsLineOf body ending number line`: the line has this body, this ending and this number.
abbrev pub IsLineOf : List ℕ → List ℕ → ℕ → Line → Type 0
IsLineOf body ending number line = record { body = body; ending = ending; number = number } ≡ line

-- `IsLastLine text line`: the line is the last one of the text.
abbrev pub IsLastLine : List ℕ → Line → Type 0
IsLastLine text line = (earlier : List Line) × (lines_of text ≡ earlier ++ line ∷ [])

-- `Closes old new result`: the text has ended, and `result` is whether bytes of its last line are
-- buffered. Or `result` is the error after which the lines are fused, and nothing changes.
abbrev pub Closes : LinesState → LinesState → Result Bool TextFault → Type 0
Closes old new result = MatchResult result
    (λ last. (old.fault ≡ None) × (new ≡ record old { closed = true })
    × (IsTrue last ↔ (0 < length old.held)))
    (λ fault. (old.fault ≡ Some fault) × (new ≡ old))
