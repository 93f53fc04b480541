-- Scans: the result of scanning a line.
-- C11 5.1.1.2, phases 2 and 3, and 6.4.9; unifdef(1), `-t`.
--
-- In plain mode strings, comments and continuations are ignored, and each line is scanned as it is.
-- The scan of a line in C mode is defined in Scanning.
--
-- Example: in plain mode the masked line of `x /* c` is the line itself. It is fresh, and joined to
-- no other line.
use Rattle.std.specs.Prelude.{ℕ, List, Bool, true, false, ◌||◌}
use Rattle.ud_model.specs.text.Lines.{Line}
use Rattle.ud_model.specs.declared.kind.Mode.{Mode}
use Rattle.ud_model.specs.declared.kind.CommentAt.{CommentAt}
use Rattle.ud_model.specs.declared.kind.CommentAt.TheVariants.{Outside}

-- The scan of a line: the masked line, and how the line is joined to its neighbours.
pub record Scan : Type 0 where
  -- The body without a splice's backslash, each byte of a comment shown as a space.
  pub masked : List ℕ
  -- Only white space precedes the line on its logical line: its masked bytes on earlier lines are
  -- white.
  pub fresh : Bool
  -- The line before joins this one, by a splice or a comment.
  pub joins_before : Bool
  -- This line joins the next one, by a splice or a comment.
  pub joins_after : Bool
  -- The line ends in a backslash that deletes its ending.
  pub spliced : Bool
  -- The comment left open at the line's end, if any.
  pub comment : CommentAt

-- A line, the mode in which it is read, and its scan.
pub record Reading : Type 0 where
  pub line : Line
  pub mode : Mode
  pub scan : Scan

-- `plain_scan line`: the scan of `line` in plain mode. The masked line is the body; the line is
-- fresh and joins no other.
abbrev pub plain_scan : Line → Scan
plain_scan line = record {
  masked = line.body;
  fresh = true;
  joins_before = false;
  joins_after =
      false;
  spliced = false;
  comment = Outside;
}

-- `is_spanning scan`: the line is joined to a neighbour, so a directive on it spans several lines.
abbrev pub is_spanning : Scan → Bool
is_spanning scan = scan.joins_before || scan.joins_after
