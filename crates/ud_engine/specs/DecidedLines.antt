-- DecidedLines: the state of a line decider.
--
--   DeciderRepresents o r xs t        a decider has read these items
--   DecidesLine o r xs t l step       it has also read this line
--   DecidesNext symbols r new l result   the same for any items, or the line is faulty
--   CanBeDecided room l               a line within the limits, and with as many bytes
--   consumed lines bytes              a line buffer once these bytes are consumed
--   AreText xs                        these items are text lines
--   DecidesBulk o r xs t ls verdict   a decider has also read these text lines
--   DecidesText r new lines bytes     the same for any items
use Rattle.std.specs.Prelude.{◌≡◌, ℕ, suc, ◌+◌, ◌≤◌, List, [], ◌∷◌, ◌++◌, length, map}
use Rattle.std.specs.Prelude.{None, Result, MatchResult, IsTrue}
use Rattle.ud_model.specs.text.Lines.{Line, NoNewline, is_ending, whole_lines, numbered_from}
use Rattle.ud_model.specs.text.Scans.{Reading}
use Rattle.ud_model.specs.sections.Directives.{text, content_of}
use Rattle.ud_model.specs.sections.Faults.{FaultOf}
use Rattle.ud_model.specs.conditions.Table.{Argument}
use Rattle.ud_model.specs.sections.Tree.{Item, Tree}
use Rattle.ud_model.specs.sections.Pruning.{Mark, marks}
use Rattle.ud_model.specs.sections.Items.{Options, reading_of, line_of, next_item}
use Rattle.ud_model.specs.answer.Printing.{judged_line, judged_lines}
use Rattle.ud_model.specs.declared.verdict.Verdict.{Verdict}
use Rattle.ud_cond.specs.symbols.SymbolTable.{TableRepresents}
use Rattle.ud_sections.specs.sections.SectionFaults.{fault_of}
use Rattle.ud_sections.specs.declared.sections.fault.SectionFault.{SectionFault}
use Rattle.ud_text.specs.scan.ScannerState.{ScannerRepresents}
use Rattle.ud_text.specs.lines.LinesState.{LinesState}
use Rattle.ud_sections.specs.sections.MachineState.{MachineRepresents, machine_fault}
use Rattle.ud_sections.specs.sections.Transitions.{text_verdict}
use Rattle.ud_sections.specs.printing.PrinterOutputs.{judged_text}
use Rattle.ud_sections.specs.sections.Limits.{IsWithinLimits}
use Rattle.ud_sections.specs.sections.StepViews.{as_span}
use Rattle.ud_sections.specs.declared.sections.step.Step.{Step}
use Rattle.ud_engine.specs.declared.line_decider.LineDecider.{LineDecider}

-- `DeciderRepresents o r xs t`: the decider `r` has read the items `xs` under the options `o`. None
-- is faulty, and `t` is their tree.
pub record DeciderRepresents (o : Options) (r : LineDecider) (xs : List (Item Reading))
    (t : Tree Reading) : Type 0 where
  pub read : MachineRepresents r.machine o xs t
  pub no_fault : machine_fault r.machine ≡ None
  pub carries : ScannerRepresents r.scanner (map reading_of xs)

-- `DecidesLine o r xs t l step`: after the items `xs`, `r` has also read the line `l`. The step has
-- the verdict of the last mark, and the span of the line's keyword.
pub record DecidesLine (o : Options) (r : LineDecider) (xs : List (Item Reading)) (t : Tree Reading)
    (l : Line) (step : Step) : Type 0 where
  pub tree : Tree Reading
  pub has : DeciderRepresents o r (xs ++ next_item o xs t l ∷ []) tree
  pub mark : Mark
  pub marks_are : marks tree ≡ marks t ++ mark ∷ []
  pub decided : record { line = l; verdict = step.verdict; keyword = as_span step.keyword } ≡
      judged_line (next_item o xs t l) mark

-- `DecidesNext symbols r new l result`: whatever items `r` has read, under options with these
-- symbols, `new` has also read the line `l`, with this step; or `l` has this fault.
abbrev pub DecidesNext : List Argument → LineDecider → LineDecider → Line →
    Result Step SectionFault → Type 0
DecidesNext symbols r new l result =
    (o : Options) → (xs : List (Item Reading)) → (t : Tree Reading) →
    TableRepresents symbols o.table → DeciderRepresents o r xs t →
    MatchResult result (DecidesLine o new xs t l)
    (λ f. FaultOf xs (next_item o xs t l) (fault_of f))

-- `CanBeDecided room l`: the line `l` is within the limits, it is one line alone, and its body has
-- at most `room` bytes.
pub record CanBeDecided (room : ℕ) (l : Line) : Type 0 where
  pub fits : length l.body ≤ room
  pub within : IsWithinLimits l
  pub one_line : NoNewline l.body
  pub ended : IsTrue (is_ending l.ending)

-- `consumed lines bytes`: `lines` after also consuming the whole lines of `bytes`.
abbrev pub consumed : LinesState → List ℕ → LinesState
consumed lines bytes = record lines { before = lines.before + length (whole_lines bytes) }

-- `AreText xs`: each of the items `xs` is a text line.
abbrev pub AreText : List (Item Reading) → Type 0
AreText [] = Unit {0}
AreText (x ∷ xs) = (content_of (reading_of x).scan ≡ text) × AreText xs

-- `DecidesBulk o r xs t ls verdict`: after the items `xs`, `r` has also read the lines `ls`, if
-- any. Each of them is a text line with this verdict.
pub record DecidesBulk (o : Options) (r : LineDecider) (xs : List (Item Reading)) (t : Tree Reading)
    (ls : List Line) (verdict : Verdict) : Type 0 where
  pub items : List (Item Reading)
  pub tree : Tree Reading
  pub has : DeciderRepresents o r (xs ++ items) tree
  pub lines_are : map line_of items ≡ ls
  pub texts : AreText items
  pub own : List Mark
  pub marks_are : marks tree ≡ marks t ++ own
  pub decided : judged_lines items own ≡ map (judged_text verdict) ls

-- `DecidesText r new lines bytes`: whatever items `r` has read, `new` has also read the lines of
-- `bytes`, which come after those of `lines`. Each of them is a text line with the verdict of `r`.
abbrev pub DecidesText : LineDecider → LineDecider → LinesState → List ℕ → Type 0
DecidesText r new lines bytes =
    (o : Options) → (xs : List (Item Reading)) → (t : Tree Reading) →
    DeciderRepresents o r xs t →
    DecidesBulk o new xs t (numbered_from (suc lines.before) (whole_lines bytes))
    (text_verdict r.machine)
