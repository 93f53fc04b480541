-- BulkScanning: many whole lines that are skipped at once, in one mode, and are all text.
--
-- Only a line's bytes count, never its number, so the relations hold whatever the numbers are.
--
-- Example: a scanner that skips `a` newline `/* b` newline in C mode represents two more readings,
-- and the next line begins in a block comment.
use Rattle.std.specs.Prelude.{◌≡◌, ℕ, List, [], ◌∷◌, ◌++◌, map}
use Rattle.ud_model.specs.text.Lines.{whole_lines, partial_line, numbered_from, Line}
use Rattle.ud_model.specs.text.Scans.{Reading}
use Rattle.ud_model.specs.text.Scanning.{scan_after, next_reading, readings_after}
use Rattle.ud_model.specs.sections.Directives.{content_of, text}
use Rattle.ud_model.specs.declared.kind.Mode.{Mode}
use Rattle.ud_model.specs.declared.kind.Mode.TheVariants.{Plain}
use Rattle.ud_text.specs.scan.ScannerState.{ScannerState, ScannerRepresents}

-- `line_in_mode mode line`: the line in this mode.
abbrev pub line_in_mode : Mode → Line → (Mode × Line)
line_in_mode mode line = (mode, line)

-- `lines_in_mode mode n lines`: the lines, numbered from `n` on, each in this mode.
abbrev pub lines_in_mode : Mode → ℕ → List (List ℕ) → List (Mode × Line)
lines_in_mode mode n lines = map (line_in_mode mode) (numbered_from n lines)

-- `HaveNoDirective mode before lines`: read in this mode after the readings `before`, no line has a
-- directive or a split keyword.
abbrev pub HaveNoDirective : Mode → List Reading → List Line → Type 0
HaveNoDirective mode before [] = Unit {0}
HaveNoDirective mode before (line ∷ lines) =
    (content_of (scan_after before mode line) ≡ text) ×
    HaveNoDirective mode (before ++ next_reading before mode line ∷ []) lines

-- `AreWholeLines bytes`: the bytes end with a newline, or are empty.
abbrev pub AreWholeLines : List ℕ → Type 0
AreWholeLines bytes = partial_line bytes ≡ []

-- `ArePlainText bytes`: the bytes are whole lines, and read in plain mode none has a directive.
pub record ArePlainText (bytes : List ℕ) : Type 0 where
  pub ends : AreWholeLines bytes
  pub texts : (n : ℕ) (before : List Reading) →
      HaveNoDirective Plain before (numbered_from n (whole_lines bytes))

-- `SkipsText mode old new bytes`: if `old` represents some readings, `new` represents them and
-- those of the lines of `bytes`. All of these lines are text.
pub record SkipsText (mode : Mode) (old new : ScannerState) (bytes : List ℕ) : Type 0 where
  pub represents : (n : ℕ) (before : List Reading) → ScannerRepresents old before →
      ScannerRepresents new (readings_after before (lines_in_mode mode n (whole_lines bytes)))
  pub texts : (n : ℕ) (before : List Reading) → ScannerRepresents old before →
      HaveNoDirective mode before (numbered_from n (whole_lines bytes))
