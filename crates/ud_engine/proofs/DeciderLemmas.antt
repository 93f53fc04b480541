-- The state of a line decider after a line.
use Rattle.std.proofs.Common.{arith, ◌≡◌, List, [], ◌∷◌, ◌++◌, map, Result, Ok, Err, None, IfOk, OnOk}
use Rattle.ud_model.specs.text.Lines.{Line}
use Rattle.ud_model.specs.text.Scans.{Scan, Reading}
use Rattle.ud_model.specs.text.Scanning.{next_reading, scan_after}
use Rattle.ud_model.specs.sections.Tree.{Item, Tree}
use Rattle.ud_model.specs.sections.Items.{Options, reading_of, mode_after, next_item}
use Rattle.ud_model.specs.declared.kind.Mode.{Mode}
use Rattle.ud_text.specs.scan.ScannerState.{ScannerRepresents}
use Rattle.ud_sections.specs.declared.sections.fault.SectionFault.{SectionFault}
use Rattle.ud_sections.specs.declared.sections.step.Step.{Step}
use Rattle.ud_sections.specs.sections.MachineState.{MachineRepresents, StepsLine, machine_fault}
use Rattle.ud_sections.proofs.lemmas.sections.NextLemmas.{readings_more}
use Rattle.ud_engine.specs.declared.line_decider.LineDecider.{LineDecider as TheReader}
use Rattle.ud_engine.specs.DecidedLines.{DecidesLine}

-- `HasScanned o r xs t l scan`: the machine of `r` has read the items `xs`, whose tree is `t`. Its
-- scanner has also read the line `l`, which has this scan.
pub record HasScanned (o : Options) (r : TheReader) (xs : List (Item Reading)) (t : Tree Reading)
    (l : Line) (scan : Scan) : Type 0 where
  pub read : MachineRepresents r.machine o xs t
  pub no_fault : machine_fault r.machine ≡ None
  pub scanned : scan ≡ scan_after (map reading_of xs) (mode_after o t) l
  pub carries : ScannerRepresents r.scanner (map reading_of (xs ++ next_item o xs t l ∷ []))

module _ (o : Options) (new : TheReader) (xs : List (Item Reading)) (t : Tree Reading) (l : Line) where
  -- The scanner has read the line.
  pub scans_one : (scan : Scan) (mode : Mode) → mode ≡ mode_after o t → MachineRepresents new.machine o xs t → machine_fault new.machine ≡ None →
      scan ≡ scan_after (map reading_of xs) mode l → ScannerRepresents new.scanner (map reading_of xs ++ next_reading (map reading_of xs) mode l ∷ []) →
      HasScanned o new xs t l scan
  scans_one scan mode m read no_fault scanned carries = grind (arith, readings_more)

  -- The machine has read it too.
  pub reads_one : (answer : Result Step SectionFault) → IfOk answer (StepsLine new.machine o xs t l) → OnOk answer (machine_fault new.machine ≡ None) →
      ScannerRepresents new.scanner (map reading_of (xs ++ next_item o xs t l ∷ [])) → IfOk answer (DecidesLine o new xs t l)
  reads_one (Err f) a b c = tt
  reads_one (Ok s) a b c = grind arith

pub second : (P Q : Type 0) (answer : Result Step SectionFault) → OnOk answer (P × Q) → OnOk answer Q
second P Q answer h = grind arith
