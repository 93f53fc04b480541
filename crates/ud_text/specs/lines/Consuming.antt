-- Consuming: many whole lines, consumed at once without a buffer.
-- POSIX XBD 3.206: a line ends with its newline.
--
-- Example: if nothing is buffered, `a` newline `b` newline can be consumed, if two more lines may
-- come.
use Rattle.std.specs.Prelude.{◌≡◌, ℕ, ◌+◌, ◌<◌, ◌≤◌, ◌==◌, List, [], length, Bool, true, false}
use Rattle.std.specs.Prelude.{None}
use Rattle.std.specs.List.{AllByRecursion}
use Rattle.ud_model.specs.text.Bytes.{newline}
use Rattle.ud_model.specs.text.Lines.{whole_lines}
use Rattle.ud_model.specs.declared.limits.TheConstants.{MAX_LINE_BYTES}
use Rattle.ud_text.specs.lines.LinesState.{LinesState, UpToNewline}
use Rattle.ud_text.specs.bulk.BulkScanning.{AreWholeLines}

-- `is_newline b`: the byte ends a line.
abbrev pub is_newline : ℕ → Bool
is_newline b = b == newline

-- `EachFits texts`: no line has more bytes than a line may have.
abbrev pub EachFits : List (List ℕ) → Type 0
EachFits texts = AllByRecursion (λ text. length text ≤ MAX_LINE_BYTES) texts

-- `FirstIsLong bytes`: the first line of the bytes, if they have a whole one, has more bytes than a
-- line may have.
abbrev pub FirstIsLong : List ℕ → Type 0
FirstIsLong bytes = (used : ℕ) → UpToNewline bytes used true → MAX_LINE_BYTES < used

-- `CanConsume lines bytes`: the bytes are whole lines that come next in the text. No byte of the
-- first one is buffered, no call failed, and neither length nor number of any line exceeds a limit.
pub record CanConsume (lines : LinesState) (bytes : List ℕ) : Type 0 where
  pub unheld : lines.held ≡ []
  pub part : lines.whole ≡ false
  pub no_fault : lines.fault ≡ None
  pub ends : AreWholeLines bytes
  pub fits : EachFits (whole_lines bytes)
  pub numbered : lines.before + length (whole_lines bytes) ≤ lines.last_line
