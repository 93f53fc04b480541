-- ScannerState: what a scanner represents.
--
--   ScannerState                          the state that is carried from line to line
--   ScannerRepresents scan_state before   the state represents these readings: the lines so far,
--                                         each in its mode and with its scan
--   ends_in_block readings                a block comment is open at the end of the last
--                                         reading
--   ReadsNext mode old line new           the state `new` represents one more reading than `old`
--   IsNextScan mode old line scan         `scan` is the scan of the next line
--   StaysAfter state line                 the state represents one more reading, in each mode
--   IsScanOf state line scan              `scan` is the scan of the next line, in each mode
--
-- The scanner's contracts say all that a caller needs of `ScannerRepresents`. A new scanner
-- represents no readings. A scanner that reads a line represents one more reading, and returns the
-- scan of the line after the readings.
--
-- Example: a scanner has read the line `x /* c` in C mode. It carries that the text ends in a block
-- comment, and that the line joins the next one.
use Rattle.std.specs.Prelude.{◌≡◌, ℕ, List, [], ◌∷◌, ◌++◌, Bool, true, false}
use Rattle.ud_model.specs.text.Splicing.{spliced_text, c_run_of}
use Rattle.ud_model.specs.text.Scans.{Reading}
use Rattle.ud_model.specs.text.Scans.{Scan as LineScan}
use Rattle.ud_model.specs.text.Scanning.{is_block, joins, scan_after, next_reading}
use Rattle.ud_model.specs.text.Lines.{Line}
use Rattle.ud_model.specs.declared.kind.Mode.{Mode}
use Rattle.ud_model.specs.aids.LexStates.{LexesTo, in_text, kind_in_state}
use Rattle.ud_model.specs.aids.LexStates.{LexState as TextPlace}
use Rattle.ud_model.specs.sections.Faults.{is_in_block}
use Rattle.ud_text.specs.scan.LexerViews.{lex_state_of}
use Rattle.ud_text.specs.declared.scan.scanner.ScanState.{ScanState}
use Rattle.ud_text.specs.declared.scan.scanner.LineFlags.{LineFlags}

-- `ends_in_block readings`: a block comment is open at the end of the last of these readings.
abbrev pub ends_in_block : List Reading → Bool
ends_in_block [] = false
ends_in_block (r ∷ []) = is_in_block r.scan.comment
ends_in_block (r ∷ q ∷ readings) = ends_in_block (q ∷ readings)

-- `ScannerState`: the state that is carried from line to line.
pub record ScannerState : Type 0 where
  -- the lexer's state after the spliced text of the C run, and whether its last logical line is
  -- white except for a slash at the end.
  pub state : TextPlace
  pub white : Bool
  -- the last line of the C run joins the next one.
  pub joins : Bool

-- `initial_scanner_state`: the state of a C run without lines.
abbrev pub initial_scanner_state : ScannerState
initial_scanner_state = record { state = in_text; white = true; joins = false }

-- `ScannerRepresents scan_state before`: the carried state represents the readings `before`.
pub record ScannerRepresents (scan_state : ScannerState) (before : List Reading) : Type 0 where
  pub reads : LexesTo (spliced_text (c_run_of before)) scan_state.state scan_state.white
  pub joins_is : scan_state.joins ≡ joins (c_run_of before)
  pub block_is : is_block (kind_in_state scan_state.state) ≡ ends_in_block before

-- `scanner_state_of c`: the state that the program carries.
abbrev pub scanner_state_of : ScanState → ScannerState
scanner_state_of c = record {
  state = lex_state_of c.lexer.state;
  white = c.lexer.white;
  joins =
      c.joins;
}

-- `scan_with masked facts`: the scan with these masked bytes and these facts.
abbrev pub scan_with : List ℕ → LineFlags → LineScan
scan_with masked facts = record {
  masked = masked;
  fresh = facts.fresh;
  joins_before = facts.joins_before;
  joins_after = facts.joins_after;
  spliced = facts.spliced;
  comment = facts.comment;
}

-- `ReadsNext mode old line new`: if `old` represents some readings, `new` represents them and the
-- line's reading in this mode.
abbrev pub ReadsNext : Mode → ScanState → Line → ScanState → Type 0
ReadsNext mode old line new =
    (before : List Reading) → ScannerRepresents (scanner_state_of old) before →
    ScannerRepresents (scanner_state_of new) (before ++ next_reading before mode line ∷ [])

-- `IsNextScan mode old line scan`: after readings that `old` represents, `scan` is the scan of the
-- line in this mode.
abbrev pub IsNextScan : Mode → ScanState → Line → LineScan → Type 0
IsNextScan mode old line scan =
    (before : List Reading) → ScannerRepresents (scanner_state_of old) before →
    scan ≡ scan_after before mode line

-- `StaysAfter state line`: if `state` represents some readings, it also represents them and the
-- line's reading in any mode.
abbrev pub StaysAfter : ScannerState → Line → Type 0
StaysAfter state line =
    (mode : Mode) → (before : List Reading) → ScannerRepresents state before →
    ScannerRepresents state (before ++ next_reading before mode line ∷ [])

-- `IsScanOf state line scan`: after readings that `state` represents, `scan` is the scan of the
-- line in any mode.
abbrev pub IsScanOf : ScannerState → Line → LineScan → Type 0
IsScanOf state line scan =
    (mode : Mode) → (before : List Reading) → ScannerRepresents state before →
    scan ≡ scan_after before mode line
