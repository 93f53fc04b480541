-- TextOutcomes: the outcome of a text: of the run over it and, if wanted, of the passes over its
-- output that remove decided operands and blank lines. A text has at most one.
--
--   TextOptions               the options of the run, and which passes go over its output
--   IsPlanned plan o          `o` has the options of a plan
--   TextOutcome               the output, the fault, whether it differs, and the edited conditions
--   unpruned a, pruned o a    the outcome of a run, without and with pruned conditions
--   printed o a               the one that the options want
--   HasMarks o text f ms      the marks of the lines of a text, if its run has no fault
--   may_fold s                a run with the settings `s` reads C, and counts no lines
--   goes_back lines text      the folded text `lines` isn't `text`, and is restored to it
--   comes_back bytes          the restored text is folded to `bytes`
--   IsFolded o text a         the output for `text` comes from the outcome `a` of the folded text
--   StaysUnfolded o text      the output for `text` doesn't come from the folded text
--   folded o a                the outcome `a` of a folded text, restored and with pruned conditions
--   HasPrinted o text r ms    the outcome and the marks of the run over `text` as it is
--   HasUnsqueezed o text r ms   the outcome and the marks of `text`, with all blank lines
--   squeezed ms r             the outcome `r` without the blank lines that go
--   HasMarkedOutcome o text r ms   the outcome and the marks of `text`
--   HasTextOutcome o text r   `r` is the outcome of `text`
--   RunsOver o text output differs edited   `text` has no fault, and this is its outcome
--   error_of f                the error of a file, by the fault of a run over its text
--   FailsBy has e             an outcome has the fault of `e`, or memory couldn't be allocated
--   FailsOver o text e        the run over a text failed
--   IsOutputOf o text output edited   the output of the outcome of a text
--
-- Example: under `-UA`, the output for the line `#if A || X` is that line. If conditions are
-- pruned, it is `#if X`. The lines `#if A || \` and `X` are read as one, with the same output.
use Rattle.std.specs.Prelude.{◌≡◌, ℕ, List, [], Bool, true, false, ◌||◌, Option, Some, None, nat_lt}
use Rattle.std.specs.Prelude.{not, ◌&&◌, bytes_eq, is_none, if◌then◌else◌}
use Rattle.ud_model.specs.text.Lines.{texts_of}
use Rattle.ud_model.specs.sections.Faults.{Fault}
use Rattle.ud_model.specs.sections.Items.{Options, rules_of}
use Rattle.ud_model.specs.declared.settings.Settings.{Settings}
use Rattle.ud_model.specs.declared.settings.Listing.{Listing}
use Rattle.ud_model.specs.declared.settings.Listing.TheVariants.{Off, Names, Depths}
use Rattle.ud_simplified.specs.FoldedTexts.{folded_text, restored_text}
use Rattle.ud_model.specs.answer.Outcomes.{Outcome, HasOutcome}
use Rattle.ud_cond.specs.symbols.SymbolTable.{TableRepresents}
use Rattle.ud_engine.specs.declared.fault.RunFault.{RunFault}
use Rattle.ud_engine.specs.declared.fault.RunFault.TheVariants.{Text as TextFault, Section}
use Rattle.ud_engine.specs.declared.fault.RunFault.TheVariants.{Read as ReadFault, Write}
use Rattle.ud_engine.specs.Finishing.{text_fault_of}
use Rattle.ud_passes.specs.pruning.PrunedTexts.{pruned_text, edited_count}
use Rattle.ud_passes.specs.squeezing.SqueezedTexts.{squeezed_text, squeezed_marks}
use Rattle.ud_replace.specs.Marks.{AreMarks}
use Rattle.ud_replace.specs.FoldedMarks.{unfolded}
use Rattle.ud_replace.specs.declared.error.ReplaceError.{ReplaceError}
use Rattle.ud_replace.specs.declared.error.ReplaceError.TheVariants.{Text, OutOfMemory}
use Rattle.ud_replace.specs.declared.text_plan.TextPlan.{TextPlan}

-- `TextOptions`: the options of the run over a text, whether the conditions of its output are
-- pruned, and whether its blank lines are squeezed.
pub record TextOptions : Type 0 where
  pub run : Options
  pub prunes : Bool
  pub squeezes : Bool

-- `IsPlanned plan o`: `o` has the settings and the symbols of `plan`, and prunes and squeezes as it
-- does.
pub record IsPlanned (plan : TextPlan) (o : TextOptions) : Type 0 where
  pub settings : o.run.settings ≡ plan.run.settings
  pub table : TableRepresents plan.run.symbols o.run.table
  pub prunes : o.prunes ≡ plan.prunes
  pub squeezes : o.squeezes ≡ plan.squeezes

-- `TextOutcome`: the output for a text, its fault if any, whether the output differs, and how many
-- of its conditions were edited. The comment of an `#else` or `#endif` counts as one.
pub record TextOutcome : Type 0 where
  pub output : List ℕ
  pub fault : Option Fault
  pub differs : Bool
  pub edited : ℕ

-- `unpruned a`: the outcome `a` of a run, unpruned.
abbrev pub unpruned : Outcome → TextOutcome
unpruned a = record { output = a.output; fault = a.fault; differs = a.differs; edited = 0 }

-- `pruned o a`: the outcome `a` of a run without the operands that the options `o` decide. It
-- differs if `a` does, or if a condition was edited.
abbrev pub pruned : Options → Outcome → TextOutcome
pruned o a = record {
  output = pruned_text o.table (rules_of o.settings) a.output;
  fault = a.fault;
  differs = a.differs || nat_lt 0 (edited_count o.table (rules_of o.settings) a.output);
  edited = edited_count o.table (rules_of o.settings) a.output;
}

-- `printed o a`: the outcome `a` of a run as the options `o` want it: with pruned conditions if
-- they prune, unless the text has a fault.
abbrev pub printed : TextOptions → Outcome → TextOutcome
printed o a = if o.prunes && is_none a.fault then pruned o.run a else unpruned a

-- `HasMarks o text f ms`: `ms` are the marks of the lines of `text`, whose run has the fault `f`;
-- none if it has one.
abbrev pub HasMarks : Options → List ℕ → Option Fault → List ℕ → Type 0
HasMarks o text None ms = AreMarks o text ms
HasMarks o text (Some f) ms = ms ≡ []

-- `may_fold s`: a run with the settings `s` reads C, and neither blanks nor numbers lines.
abbrev pub may_fold : Settings → Bool
may_fold s = not s.plain && not s.blank && not s.renumber

-- `goes_back lines text`: the folded text `lines` isn't `text`, and is restored to it.
abbrev pub goes_back : List ℕ → List ℕ → Bool
goes_back lines text = not (bytes_eq lines text) && bytes_eq (restored_text lines) text

-- `comes_back bytes`: the text restored from `bytes` is folded to `bytes`.
abbrev pub comes_back : List ℕ → Bool
comes_back bytes = bytes_eq (folded_text (restored_text bytes)) bytes

-- `IsFolded o text a`: conditions are pruned, and `text` may be folded and goes back. `a` is the
-- outcome of the run over the folded text. It has no fault, and its output comes back.
pub record IsFolded (o : TextOptions) (text : List ℕ) (a : Outcome) : Type 0 where
  pub prunes : o.prunes ≡ true
  pub may : may_fold o.run.settings ≡ true
  pub goes : goes_back (folded_text text) text ≡ true
  pub runs : HasOutcome o.run (folded_text text) a
  pub faultless : a.fault ≡ None
  pub comes : comes_back (pruned o.run a).output ≡ true

-- `StaysUnfolded o text`: there is no such outcome of the folded text.
abbrev pub StaysUnfolded : TextOptions → List ℕ → Type 0
StaysUnfolded o text = (a : Outcome) → ¬ IsFolded o text a

-- `folded o a`: the outcome `a` of a folded text, restored and without the operands that the
-- options `o` decide.
abbrev pub folded : Options → Outcome → TextOutcome
folded o a = record (pruned o a) { output = restored_text (pruned o a).output }

-- `HasPrinted o text r ms`: `r` is the outcome of the run over `text` as it is, with pruned
-- conditions if the options want that, and `ms` are the marks of its lines.
pub data HasPrinted (o : TextOptions) (text : List ℕ) : TextOutcome → List ℕ → Type 0 where
  as_printed : {a : Outcome} {ms : List ℕ} → HasOutcome o.run text a →
      HasMarks o.run text a.fault ms → HasPrinted o text (printed o a) ms

-- `HasUnsqueezed o text r ms`: `r` is the outcome of `text`, with all blank lines, and `ms` are the
-- marks of its lines: those of the folded text, if the output comes from that.
pub data HasUnsqueezed (o : TextOptions) (text : List ℕ) : TextOutcome → List ℕ → Type 0 where
  as_read : {r : TextOutcome} {ms : List ℕ} → StaysUnfolded o text → HasPrinted o text r ms →
      HasUnsqueezed o text r ms
  as_folded : {a : Outcome} {ms : List ℕ} → IsFolded o text a →
      AreMarks o.run (folded_text text) ms → HasUnsqueezed o text (folded o.run a)
      (unfolded ms (texts_of (folded_text text)) (texts_of (pruned o.run a).output))

-- `is_off listing`: no names are listed.
abbrev pub is_off : Listing → Bool
is_off Off = true
is_off Names = false
is_off Depths = false

-- `goes_squeezed o r`: the outcome `r` is to be squeezed: it has no fault, differs, and lists no
-- names.
abbrev pub goes_squeezed : TextOptions → TextOutcome → Bool
goes_squeezed o r = o.squeezes && is_off o.run.settings.listing && r.differs && is_none r.fault

-- `squeezed ms r`: the outcome `r` without the blank lines that go. The lines of the text have the
-- marks `ms`.
abbrev pub squeezed : List ℕ → TextOutcome → TextOutcome
squeezed ms r = record r { output = squeezed_text ms r.output }

-- `HasMarkedOutcome o text r ms`: `r` is the outcome of `text`, and `ms` are the marks of its
-- lines: those with all blank lines or, if that outcome is to be squeezed, the squeezed ones.
pub data HasMarkedOutcome (o : TextOptions) (text : List ℕ) : TextOutcome → List ℕ → Type 0 where
  as_it_is : {r : TextOutcome} {ms : List ℕ} → HasUnsqueezed o text r ms →
      goes_squeezed o r ≡ false → HasMarkedOutcome o text r ms
  as_squeezed : {r : TextOutcome} {ms : List ℕ} → HasUnsqueezed o text r ms →
      goes_squeezed o r ≡ true →
      HasMarkedOutcome o text (squeezed ms r) (squeezed_marks ms r.output)

-- `HasTextOutcome o text r`: `r` is the outcome of `text`.
abbrev pub HasTextOutcome : TextOptions → List ℕ → TextOutcome → Type 0
HasTextOutcome o text r = (ms : List ℕ) × HasMarkedOutcome o text r ms

-- `RunsOver o text output differs edited`: `text` has no fault, and `output` is the output for it.
-- It differs from the text or doesn't, and so many of its conditions were edited.
pub record RunsOver (o : TextOptions) (text output : List ℕ) (differs : Bool) (edited : ℕ) :
    Type 0 where
  pub outcome : TextOutcome
  pub runs : HasTextOutcome o text outcome
  pub faultless : outcome.fault ≡ None
  pub output_is : output ≡ outcome.output
  pub differs_is : differs ≡ outcome.differs
  pub edited_is : edited ≡ outcome.edited

-- `error_of f`: the error of a file, by the fault of a run over its text. The text and the output
-- are in memory, so a fault other than the text's means that memory ran out.
abbrev pub error_of : RunFault → ReplaceError
error_of (TextFault f) = Text (TextFault f)
error_of (Section f) = Text (Section f)
error_of ReadFault = OutOfMemory
error_of Write = OutOfMemory

-- `FailsBy has e`: an outcome of those that `has` is true of has the fault of `e`. Or memory
-- couldn't be allocated.
pub data FailsBy (has : TextOutcome → List ℕ → Type 0) : ReplaceError → Type 0 where
  over_faulty : (r : TextOutcome) (ms : List ℕ) (f : RunFault) → has r ms →
      r.fault ≡ text_fault_of f → ¬ (r.fault ≡ None) → FailsBy has (Text f)
  over_memory : FailsBy has OutOfMemory

-- `FailsOver o text e`: the outcome of `text` has the fault of `e`, or memory couldn't be
-- allocated.
abbrev pub FailsOver : TextOptions → List ℕ → ReplaceError → Type 0
FailsOver o text = FailsBy (HasMarkedOutcome o text)

-- `IsOutputOf o text output edited`: `output` is the output of the outcome of `text`, and `edited`
-- is the number of its edited conditions.
pub data IsOutputOf (o : TextOptions) (text output : List ℕ) (edited : ℕ) : Type 0 where
  output_of : (r : TextOutcome) → HasTextOutcome o text r → output ≡ r.output →
      edited ≡ r.edited → IsOutputOf o text output edited
