-- Walks: how far a walk over the lines of a text has come.
--
--   reading_at mode l scan n       the line `l` with this scan and the number `n`
--   read_after mode before l       the line `l`, read after the readings `before`
--   AreTexts rs                    none of the lines `rs` has a directive
--   HaveBytes bytes rs             the bytes split into the lines `rs`
--   Walked mode text read ..       the lines `read` of a text were read
--   len_of s                       how many bytes the stretch `s` has
--   is_one_line s                  the stretch `s` is one line
--   IsPrefixOf most rest s         the text lines of the stretch `s` are a prefix of `rest`
--   IsFitting s                    a line of the stretch `s` with a scan is within the limit
--   IsNext mode whole read next ..   the stretch `next` has the lines after the lines `read`
--
-- Example: a walk over `x;` newline `#if A` newline first reads a text line. Then comes a line with
-- its scan.
use Rattle.std.specs.Prelude.{◌≡◌, ℕ, ◌+◌, ◌<◌, ◌≤◌, List, [], ◌∷◌, ◌++◌, length, map, take, Bool}
use Rattle.std.specs.Prelude.{true, false}
use Rattle.std.specs.List.{concat}
use Rattle.ud_model.specs.text.Lines.{Line, NoNewline, text_of, texts_of, whole_lines}
use Rattle.ud_model.specs.text.Lines.{numbered_from}
use Rattle.ud_model.specs.text.Scans.{Scan, Reading}
use Rattle.ud_model.specs.text.Scanning.{scan_after}
use Rattle.ud_model.specs.aids.LineViews.{as_line, as_scan}
use Rattle.ud_model.specs.sections.Directives.{text, content_of}
use Rattle.ud_model.specs.aids.ReadAs.{read_as}
use Rattle.ud_model.specs.declared.kind.Mode.{Mode}
use Rattle.ud_model.specs.declared.limits.TheConstants.{MAX_LINE_BYTES}
use Rattle.ud_text.specs.scan.ScannerState.{ScannerState, ScannerRepresents}
use Rattle.ud_text.specs.bulk.BulkScanning.{AreWholeLines}
use Rattle.ud_passes.specs.Passes.{fits}
use Rattle.ud_passes.specs.declared.walk.Stretch.{Stretch}
use Rattle.ud_passes.specs.declared.walk.Stretch.TheVariants.{Texts, Fitting, TooLong}

-- `reading_at mode l scan n`: the line `l` with this scan, and with the number `n`.
abbrev pub reading_at : Mode → Line → Scan → ℕ → Reading
reading_at mode l scan n = record { line = record l { number = n }; mode = mode; scan = scan }

-- `read_after mode before l`: the line `l`, read after the readings `before`, with its number
-- there.
abbrev pub read_after : Mode → List Reading → Line → Reading
read_after mode before l = reading_at mode l (scan_after before mode l) (1 + length before)

-- `AreTexts rs`: none of the lines `rs` has a directive or a split keyword.
abbrev pub AreTexts : List Reading → Type 0
AreTexts [] = Unit {0}
AreTexts (r ∷ rs) = (content_of r.scan ≡ text) × AreTexts rs

-- `HaveBytes bytes rs`: the lines `rs` together are these bytes, split into whole lines.
pub record HaveBytes (bytes : List ℕ) (rs : List Reading) : Type 0 where
  pub ends : AreWholeLines bytes
  pub first : ℕ
  pub lines_are : map (λ r. r.line) rs ≡ numbered_from first (whole_lines bytes)
  pub bytes_are : concat (map (λ r. text_of r.line) rs) ≡ bytes
  pub count_is : length rs ≡ length (whole_lines bytes)

-- `Walked mode text read rest s`: the lines `read` of a text were read, and the scanner represents
-- them. The text after them is `rest`.
pub record Walked (mode : Mode) (text : List ℕ) (read : List Reading) (rest : List ℕ)
    (s : ScannerState) : Type 0 where
  pub done : List ℕ
  pub is : done ++ rest ≡ text
  pub ends : 0 < length rest → AreWholeLines done
  pub read_is : read ≡ read_as mode done
  pub count_is : length read ≡ length (texts_of done)
  pub represents : ScannerRepresents s read

-- `len_of s`: how many bytes the stretch `s` has.
abbrev pub len_of : Stretch → ℕ
len_of (Texts bytes) = length bytes.now
len_of (Fitting line scan) = length line.body.now + length line.ending.now
len_of (TooLong line) = length line.body.now + length line.ending.now

-- `is_one_line s`: the stretch `s` is one line.
abbrev pub is_one_line : Stretch → Bool
is_one_line (Texts bytes) = false
is_one_line (Fitting line scan) = true
is_one_line (TooLong line) = true

-- `IsPrefixOf maximum rest s`: if the stretch `s` has text lines, they are a prefix of the text
-- `rest` with at most `maximum` bytes.
abbrev pub IsPrefixOf : ℕ → List ℕ → Stretch → Type 0
IsPrefixOf maximum rest (Texts bytes) =
    (length bytes.now ≤ maximum) × (bytes.now ≡ take (length bytes.now) rest)
IsPrefixOf maximum rest (Fitting line scan) = Unit {0}
IsPrefixOf maximum rest (TooLong line) = Unit {0}

-- `IsFitting s`: a line of the stretch `s` with a scan has no newline in its body. Neither the line
-- nor the masked line is longer than a line may be.
abbrev pub IsFitting : Stretch → Type 0
IsFitting (Texts bytes) = Unit {0}
IsFitting (TooLong line) = Unit {0}
IsFitting (Fitting line scan) = NoNewline line.body.now ×
    (length (text_of (as_line line)) ≤ MAX_LINE_BYTES) × (length scan.masked.now ≤ MAX_LINE_BYTES)

-- `IsNext mode whole read next rest s`: after the lines `read`, the next lines are those of the
-- stretch, and the text after them is `rest`. A line that fits has its scan after the lines `read`.
abbrev pub IsNext : Mode → List ℕ → List Reading → Stretch → List ℕ → ScannerState → Type 0
IsNext mode whole read (Texts bytes) rest s =
    (rs : List Reading) × AreTexts rs × HaveBytes bytes.now rs ×
    Walked mode whole (read ++ rs) rest s
IsNext mode whole read (TooLong line) rest s =
    (fits (as_line line) ≡ false) ×
    Walked mode whole (read ++ read_after mode read (as_line line) ∷ []) rest s
IsNext mode whole read (Fitting line scan) rest s =
    (as_scan scan ≡ scan_after read mode (as_line line)) ×
    Walked mode whole (read ++ read_after mode read (as_line line) ∷ []) rest s
