-- Borrowing: a whole line at the beginning of a chunk, which needn't be buffered.
-- POSIX XBD 3.206: a line ends with its newline.
--
-- Example: if nothing is buffered, the first two bytes of the chunk "a\nb" can be borrowed.
use Rattle.std.specs.Prelude.{◌≡◌, ℕ, ◌<◌, ◌≤◌, List, [], length, take, true, None}
use Rattle.ud_model.specs.declared.limits.TheConstants.{MAX_LINE_BYTES}
use Rattle.ud_text.specs.lines.LinesState.{LinesState, UpToNewline}

-- `IsFirstLine chunk line`: `line` is the first line of `chunk`, whole, and no longer than a line
-- may be.
pub record IsFirstLine (chunk line : List ℕ) : Type 0 where
  pub prefix : UpToNewline chunk (length line) true
  pub bytes : line ≡ take (length line) chunk
  pub fits : length line ≤ MAX_LINE_BYTES

-- `CanBorrow lines chunk used`: the first `used` bytes of `chunk` are the next line of the text,
-- whole. No byte of it is buffered, no call failed, and neither its length nor its number exceeds a
-- limit.
pub record CanBorrow (lines : LinesState) (chunk : List ℕ) (used : ℕ) : Type 0 where
  pub unheld : lines.held ≡ []
  pub no_fault : lines.fault ≡ None
  pub prefix : UpToNewline chunk used true
  pub fits : used ≤ MAX_LINE_BYTES
  pub numbered : lines.before < lines.last_line
