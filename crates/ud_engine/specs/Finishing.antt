-- Finishing: the end of a text, and the result of a run.
--
--   without_fault symbols lines printer buffered   an engine that isn't fused
--   PrintsAll .. p o piece text printed old new    all lines of the text are printed
--   FinishOk .. differs                            the text has no fault, and is printed
--   FinishFault .. f                               the text has this fault
--   FinishTruncated .. old new                     a write failed
--   FinishErr .. f                                 either of these
--   Finishes s failed old new result               the text has ended, or ending it failed
--   PrintsLast .. p s failed old new result        the last line is printed, or printing failed
--   PrintsRest .. e p out out' result              the same, in each session
--   text_fault_of f                                the fault of the definitions
--   ResultIs result r                              the result of a run is this outcome
--   RunAnswers o input old new result              output and result are the outcome of an input
use Rattle.std.specs.Prelude.{◌≡◌, ℕ, List, ◌++◌, Bool, true, false, Option, Some, None, Result, Ok}
use Rattle.std.specs.Prelude.{Err}
use Rattle.std.specs.Io.KnownBytes.{Appends}
use Rattle.ud_model.specs.text.Lines.{lines_of}
use Rattle.ud_model.specs.text.Scans.{Reading}
use Rattle.ud_model.specs.conditions.Table.{Argument}
use Rattle.ud_model.specs.sections.Tree.{Item, Tree}
use Rattle.ud_model.specs.sections.Items.{Options}
use Rattle.ud_model.specs.sections.Faults.{Fault}
use Rattle.ud_model.specs.answer.Printing.{Judged}
use Rattle.ud_model.specs.answer.Outcomes.{HasNoFault, ReadsAs, Outcome, HasOutcome}
use Rattle.ud_text.specs.lines.LinesState.{LinesState}
use Rattle.ud_sections.specs.sections.SectionFaults.{fault_of}
use Rattle.ud_engine.specs.declared.fault.RunFault.{RunFault}
use Rattle.ud_engine.specs.declared.fault.RunFault.TheVariants.{Text, Section, Read, Write}
use Rattle.ud_engine.specs.declared.line_processor.LineProcessor.{LineProcessor}
use Rattle.ud_engine.specs.Feeding.{EngineState, Session, IsInSession}
use Rattle.ud_text.specs.lines.LimitFaults.{limit_of}
use Rattle.ud_engine.specs.ProcessedLines.{ProcessorRepresents, text_by, differs_in}
use Rattle.ud_io.specs.Watched.{WatchedState, AppendsPrefix}

-- `without_fault symbols lines printer buffered`: an engine with these parts that isn't fused.
abbrev pub without_fault : {S : Type 0} → List Argument → LinesState → LineProcessor S → List ℕ →
    EngineState S
without_fault symbols lines printer buffered =
    record {
      symbols = symbols;
      lines = lines;
      printer = printer;
      buffered = buffered;
      fault =
          None;
    }

-- `PrintsAll .. p o piece text printed old new`: `p` has read all lines of `text`, and none is
-- faulty. The output for them, after `printed`, was appended.
pub record PrintsAll {S : Type 0} (represents : S → List Judged → Type 0) (piece_of : S →
    List Judged →
    Judged → List ℕ) (p : LineProcessor S) (o : Options)
    (piece : List Judged → Judged →
    List ℕ) (text printed : List ℕ) (old new : Option (List ℕ)) : Type 0 where
  pub items : List (Item Reading)
  pub tree : Tree Reading
  pub goes : HasNoFault o (lines_of text) items tree
  pub has : ProcessorRepresents represents piece_of p o piece items tree
  pub more : List ℕ
  pub printed_is : printed ++ more ≡ text_by o.settings.listing piece items tree
  pub appended : Appends old new more

-- `FinishOk o piece text printed old new differs`: `text` has no fault. Its output after `printed`
-- was appended. `differs`: some line's output differs from the line.
pub record FinishOk (o : Options) (piece : List Judged → Judged →
    List ℕ) (text printed : List ℕ) (old new : Option (List ℕ)) (differs : Bool) : Type 0 where
  pub items : List (Item Reading)
  pub tree : Tree Reading
  pub reads : ReadsAs o text items tree None
  pub more : List ℕ
  pub printed_is : printed ++ more ≡ text_by o.settings.listing piece items tree
  pub appended : Appends old new more
  pub differs_is : differs ≡ differs_in o.settings.listing piece items tree

-- `FinishFault o piece text printed old new f`: `text` has the fault `f`. The output after
-- `printed` for the lines before it was appended.
pub record FinishFault (o : Options) (piece : List Judged → Judged →
    List ℕ) (text printed : List ℕ) (old new : Option (List ℕ)) (f : Fault) : Type 0 where
  pub items : List (Item Reading)
  pub tree : Tree Reading
  pub reads : ReadsAs o text items tree (Some f)
  pub more : List ℕ
  pub printed_is : printed ++ more ≡ text_by o.settings.listing piece items tree
  pub appended : Appends old new more

-- `FinishTruncated o piece text printed old new`: a write failed. A prefix of the output for all
-- lines of `text`, after `printed`, was appended.
pub record FinishTruncated (o : Options) (piece : List Judged → Judged →
    List ℕ) (text printed : List ℕ) (old new : Option (List ℕ)) : Type 0 where
  pub items : List (Item Reading)
  pub tree : Tree Reading
  pub goes : HasNoFault o (lines_of text) items tree
  pub more : List ℕ
  pub printed_is : printed ++ more ≡ text_by o.settings.listing piece items tree
  pub prefix : AppendsPrefix old new more

-- `FinishErr o piece failed old new text printed f`: finishing failed with `f`. The text has this
-- fault, or a write failed.
abbrev pub FinishErr : Options → (List Judged → Judged → List ℕ) → Bool → Option (List ℕ) →
    Option (List ℕ) → List ℕ → List ℕ → RunFault → Type 0
FinishErr o piece failed old new text printed (Text f) = (failed ≡ false) ×
    FinishFault o piece text printed old new (limit_of f)
FinishErr o piece failed old new text printed (Section f) = (failed ≡ false) ×
    FinishFault o piece text printed old new (fault_of f)
FinishErr o piece failed old new text printed Read = ⊥
FinishErr o piece failed old new text printed Write = (failed ≡ true) ×
    FinishTruncated o piece text printed old new

-- `Finishes s failed old new result`: the text of an engine in the session `s` has ended, or ending
-- it failed.
abbrev pub Finishes : Session → Bool → Option (List ℕ) → Option (List ℕ) → Result Bool RunFault →
    Type 0
Finishes s failed old new (Ok differs) =
    FinishOk s.options s.pieces s.text s.printed old new differs
Finishes s failed old new (Err f) =
    FinishErr s.options s.pieces failed old new s.text s.printed f

-- `PrintsLast .. p s failed old new result`: `p` printed all lines of the text of an engine in the
-- session `s`; or printing failed.
abbrev pub PrintsLast : {S T : Type 0} → (S → List Judged → Type 0) → (S → List Judged →
    Judged → List ℕ) → LineProcessor S → Session → Bool → Option (List ℕ) → Option (List ℕ) →
    Result T RunFault → Type 0
PrintsLast represents piece_of p s failed old new (Ok done) =
    PrintsAll represents piece_of p s.options s.pieces s.text s.printed old new
PrintsLast represents piece_of p s failed old new (Err f) =
    FinishErr s.options s.pieces failed old new s.text s.printed f

-- `PrintsRest .. contents e p out out' result`: in each session of the engine `e`, `p` printed all
-- lines of its text; or printing failed (`PrintsLast`).
abbrev pub PrintsRest : {S W T : Type 0} → (S → List Judged → Type 0) → (S → List Judged →
    Judged → List ℕ) → (W → Option (List ℕ)) → EngineState S → LineProcessor S →
    WatchedState W → WatchedState W → Result T RunFault → Type 0
PrintsRest represents piece_of contents e p out out' result =
    (s : Session) → IsInSession represents piece_of e s → PrintsLast represents piece_of p s
    out'.failed (contents out.inner) (contents out'.inner) result

-- `text_fault_of f`: the definitions' form of `f`, if it is a fault of the text.
abbrev pub text_fault_of : RunFault → Option Fault
text_fault_of (Text f) = Some (limit_of f)
text_fault_of (Section f) = Some (fault_of f)
text_fault_of Read = None
text_fault_of Write = None

-- `ResultIs result r`: `result` is the outcome `r`: its fault, or whether some line's output
-- differs.
abbrev pub ResultIs : Result Bool RunFault → Outcome → Type 0
ResultIs (Ok differs) r = (r.fault ≡ None) × (differs ≡ r.differs)
ResultIs (Err f) r = (r.fault ≡ text_fault_of f) × (r.fault ≡ None → ⊥)

-- `RunAnswers o input old new result`: the appended bytes and `result` are the outcome of `input`.
pub record RunAnswers (o : Options) (input : List ℕ) (old new : Option (List ℕ))
    (result : Result Bool RunFault) : Type 0 where
  pub outcome : Outcome
  pub runs : HasOutcome o input outcome
  pub output : Appends old new outcome.output
  pub answered : ResultIs result outcome
