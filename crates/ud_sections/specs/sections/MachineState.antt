-- MachineState: what a machine represents.
--
--   MachineRepresents m o xs t      the machine has read the items `xs` under these options
--   ComesNext o xs t scan l table   the line `l` with this scan comes next
--   StepsLine m o xs t l step       the machine has read `l` too, with this step
--   StepsNext m new scan l table result    so it has, whatever it had read
--   FindsFault m scan l table result       an error is the fault of `l`
--   IsMachineStep m new scan line table result   what callers may know of a step
--   AreTextLines o mode xs rs       the lines `rs` after the items `xs` are text
--   StepsText m o xs t rs verdict   the machine has read these text lines too
--   StepsOverText m new last verdict       so it has, whatever it had read
--   HasEndFault m in_comment fault         the fault if the text ends here
--   machine_fault m                 the machine's fault, if any
--   machine_with_fault m f          the machine with this fault
--   end_fault_of result             the fault at the end of a text, if any
--
-- `MachineRepresents` implies that no line is faulty, so the items are as the definitions have
-- them. If a line is faulty, the machine still represents the lines before it.
--
-- Example: a machine that has read only `#if X` has one open section, and that line wasn't text.
use Rattle.std.specs.Prelude.{◌≡◌, ℕ, List, [], ◌∷◌, ◌++◌, map, Bool, true, Option, Some, None}
use Rattle.std.specs.Prelude.{Result, Ok, Err, IfOk, IfErr, OnOk, OnErr}
use Rattle.ud_model.specs.text.Lines.{Line}
use Rattle.ud_model.specs.text.Scans.{Scan, Reading}
use Rattle.ud_model.specs.text.Scanning.{scan_after}
use Rattle.ud_model.specs.sections.Directives.{text, content_of}
use Rattle.ud_model.specs.conditions.Table.{Argument}
use Rattle.ud_model.specs.sections.Tree.{Item, Tree, text_line}
use Rattle.ud_model.specs.sections.Pruning.{Mark, marks}
use Rattle.ud_model.specs.sections.Items.{Options, reading_of, mode_after, read_after, next_item}
use Rattle.ud_model.specs.sections.Faults.{Fault, AreFaultless, FaultOf, last_number, ends_removed}
use Rattle.ud_model.specs.sections.Faults.{ends_in_comment, end_fault}
use Rattle.ud_model.specs.answer.Printing.{judged_line}
use Rattle.ud_model.specs.aids.LineViews.{as_line}
use Rattle.ud_model.specs.declared.line.Line.{Line as TheLine}
use Rattle.ud_model.specs.declared.kind.Mode.{Mode}
use Rattle.ud_model.specs.declared.verdict.Verdict.{Verdict}
use Rattle.ud_cond.specs.symbols.SymbolTable.{TableRepresents}
use Rattle.ud_sections.specs.sections.SectionFaults.{fault_of}
use Rattle.ud_sections.specs.declared.sections.fault.SectionFault.{SectionFault}
use Rattle.ud_sections.specs.declared.sections.machine.Machine.{Machine}
use Rattle.ud_sections.specs.declared.sections.step.Step.{Step}
use Rattle.ud_sections.specs.sections.StepViews.{as_span, HoldsKeyword}
use Rattle.ud_sections.specs.sections.OpenSections.{open_sections_of}
use Rattle.ud_sections.specs.sections.Limits.{IsWithinLimits}

-- `MachineRepresents m o xs t`: the machine `m` has read the items `xs` under the options `o`. None
-- of their lines is faulty, and `t` is their tree.
pub record MachineRepresents (m : Machine) (o : Options) (xs : List (Item Reading))
    (t : Tree Reading) : Type 0 where
  pub settings : m.settings ≡ o.settings
  pub sound : AreFaultless o xs t
  pub sections : m.open_sections.items ≡ open_sections_of true o.settings.plain t
  pub removed : m.removed ≡ ends_removed (marks t)
  pub last : m.last ≡ last_number xs

-- `ComesNext o xs t scan l table`: `l` comes after `xs`, and `scan` is its scan in the mode that
-- they give. `table` gives every name the same entry as the options.
pub record ComesNext (o : Options) (xs : List (Item Reading)) (t : Tree Reading) (scan : Scan)
    (l : Line) (table : List Argument) : Type 0 where
  pub scanned : scan ≡ scan_after (map reading_of xs) (mode_after o t) l
  pub represents : TableRepresents table o.table

-- `StepsLine m o xs t l step`: the machine has read `l` after `xs`. The step has the verdict of the
-- last mark, and the span of its keyword.
pub record StepsLine (m : Machine) (o : Options) (xs : List (Item Reading)) (t : Tree Reading)
    (l : Line) (step : Step) : Type 0 where
  pub tree : Tree Reading
  pub read : MachineRepresents m o (xs ++ next_item o xs t l ∷ []) tree
  pub mark : Mark
  pub marks_are : marks tree ≡ marks t ++ mark ∷ []
  pub decided : record { line = l; verdict = step.verdict; keyword = as_span step.keyword } ≡
      judged_line (next_item o xs t l) mark

-- `AreTextLines o mode xs rs`: read in this mode in order after the items `xs`, the lines `rs` are
-- text within the limits.
abbrev pub AreTextLines : Options → Mode → List (Item Reading) → List Reading → Type 0
AreTextLines o mode xs [] = Unit {0}
AreTextLines o mode xs (r ∷ rs) =
    (r ≡ read_after xs mode r.line) × (content_of r.scan ≡ text) × IsWithinLimits r.line ×
    AreTextLines o mode (xs ++ text_line r ∷ []) rs

-- `StepsText m o xs t rs verdict`: the machine has read the text lines `rs` after `xs`, each with
-- this verdict.
pub record StepsText (m : Machine) (o : Options) (xs : List (Item Reading)) (t : Tree Reading)
    (rs : List Reading) (verdict : Verdict) : Type 0 where
  pub tree : Tree Reading
  pub read : MachineRepresents m o (xs ++ map text_line rs) tree
  pub mark : Mark
  pub marks_are : marks tree ≡ marks t ++ map (λ r. mark) rs
  pub verdict_is : verdict ≡ mark.verdict

-- `StepsOverText m new last verdict`: whatever items `m` has read, if text lines come next, at
-- least one and up to the number `last`, then `new` has read them too, each with this verdict.
abbrev pub StepsOverText : Machine → Machine → ℕ → Verdict → Type 0
StepsOverText m new last verdict =
    (o : Options) → (xs : List (Item Reading)) → (t : Tree Reading) →
    MachineRepresents m o xs t → (r : Reading) → (rs : List Reading) →
    AreTextLines o (mode_after o t) xs (r ∷ rs) →
    last ≡ last_number (xs ++ map text_line (r ∷ rs)) → StepsText new o xs t (r ∷ rs) verdict

-- `machine_fault m`: the fault after which the machine is fused, if any.
abbrev pub machine_fault : Machine → Option SectionFault
machine_fault m = m.fault

-- `machine_with_fault m f`: the machine after a line with this fault.
abbrev pub machine_with_fault : Machine → SectionFault → Machine
machine_with_fault m f = record m { fault = Some f }

-- `end_fault_of result`: the fault at the end of a text, if `result` is an error.
abbrev pub end_fault_of : Result (Unit {0}) SectionFault → Option Fault
end_fault_of (Ok _) = None
end_fault_of (Err f) = Some (fault_of f)

-- `StepsNext m new scan l table result`: whatever items `m` has read, if `l` with this scan comes
-- next, `new` has read it too, with this step.
abbrev pub StepsNext : Machine → Machine → Scan → Line → List Argument →
    Result Step SectionFault → Type 0
StepsNext m new scan l table result =
    (o : Options) → (xs : List (Item Reading)) → (t : Tree Reading) →
    MachineRepresents m o xs t → ComesNext o xs t scan l table →
    IfOk result (StepsLine new o xs t l)

-- `FindsFault m scan l table result`: whatever items `m` has read, if `l` with this scan comes
-- next, and `m` has no fault, then an error is the fault of `l`.
abbrev pub FindsFault : Machine → Scan → Line → List Argument → Result Step SectionFault → Type 0
FindsFault m scan l table result =
    (o : Options) → (xs : List (Item Reading)) → (t : Tree Reading) →
    MachineRepresents m o xs t → ComesNext o xs t scan l table → machine_fault m ≡ None →
    IfErr result (λ f. FaultOf xs (next_item o xs t l) (fault_of f))

-- `IsMachineStep m new scan line table result`: the machine `m` was given the next line, which has
-- this scan, and is now `new`. If it stepped, it had no fault and has none, and an edited
-- directive's keyword is in the line. Else it still represents the lines before, and it has a
-- fault: its old one, or the line's.
pub record IsMachineStep (m new : Machine) (scan : Scan) (line : TheLine) (table : List Argument)
    (result : Result Step SectionFault) : Type 0 where
  pub represents : StepsNext m new scan (as_line line) table result
  pub finds_fault : FindsFault m scan (as_line line) table result
  pub keyword_within : IfOk result (λ step. HoldsKeyword step line)
  pub no_fault : OnOk result ((machine_fault m ≡ None) × (machine_fault new ≡ None))
  pub records_fault : IfErr result (λ f. new ≡ machine_with_fault m f)
  pub unchanged : OnErr result ((o : Options) → (xs : List (Item Reading)) → (t : Tree Reading) →
      MachineRepresents m o xs t → MachineRepresents new o xs t)
  pub fused : (f : SectionFault) → machine_fault m ≡ Some f → result ≡ Err f

-- `HasEndFault m in_comment fault`: whatever items `m` has read, if it has no fault, and
-- `in_comment` says whether they end in a comment, then `fault` is the fault of the text's end.
abbrev pub HasEndFault : Machine → Bool → Option Fault → Type 0
HasEndFault m in_comment fault =
    (o : Options) → (xs : List (Item Reading)) → (t : Tree Reading) →
    MachineRepresents m o xs t → machine_fault m ≡ None → in_comment ≡ ends_in_comment xs →
    fault ≡ end_fault xs t
