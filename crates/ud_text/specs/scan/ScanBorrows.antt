-- ScanBorrows: what a scanner represents once the borrow of the scan that it returned has ended.
--
-- Example: a new scanner that has read a line represents that line's reading alone.
use Rattle.std.specs.Prelude.{List, [], ◌∷◌, ◌++◌}
use Rattle.std.specs.Borrow.{MutBor, Fml, RattleType}
use Rattle.std.specs.Io.BufRead.{Rests}
use Rattle.ud_model.specs.text.Lines.{Line as TextLine}
use Rattle.ud_model.specs.text.Scans.{Reading}
use Rattle.ud_model.specs.text.Scanning.{next_reading}
use Rattle.ud_model.specs.declared.kind.Mode.{Mode}
use Rattle.ud_text.specs.scan.ScannerState.{ScannerState, ScannerRepresents}
use Rattle.ud_text.specs.contracts.scan.scanner.Scanner.{the_row}

-- `ScansLine H scanner mode line`: if the scanner represents some readings, it then represents
-- these and the line's reading.
abbrev pub ScansLine : RattleType → MutBor ScannerState → Mode → TextLine → Fml
ScansLine H scanner mode line =
    Rests (the_row H) scanner (λ new. (before : List Reading) →
    ScannerRepresents scanner.now before →
    ScannerRepresents new (before ++ next_reading before mode line ∷ []))
