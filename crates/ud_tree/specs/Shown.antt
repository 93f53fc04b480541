-- Shown: what is shown or listed for a file that isn't replaced.
--
--   WasRead name text stat old new   a file was read, and `text` are its bytes
--   IsUnread name calls calls' e     a file couldn't be read, or wasn't the one that was met
--   Fails fails name calls calls' e  so it is, or what is done with its text failed
--   RunsFile plan name calls calls' kept result   a run over the text of a file
--   HasDiff o name text diff edited  the diff of a text and its output
--   ShowsFile o into name calls calls' update shown edits outputs   a file was read, and its diff
--                                    shown
--   ShowsOne plan into name calls calls' result   the same for all options of a plan
--   listed_by mode folded lists name lines names   what is listed of a file by these lines
--   folds mode text   a text is listed by the folded text, if that has no fault
--   ListsFolded o mode text names, ListsAsRead o mode text   it is, or it isn't
--   ListsText o mode lists name text output listed   what is listed of a text without a fault
--   ListsFile o mode lists name calls calls' update listed   a file was read, and this is listed
--   ListsOne plan lists name calls calls' update listed   the same for all options of a plan
--
-- `calls` and `calls'` are the calls before and after, the newest first.
use Rattle.std.specs.Prelude.{◌≡◌, ◌⊎◌, ℕ, ◌<◌, ◌≤◌, List, [], ◌∷◌, Bool, true, false}
use Rattle.std.specs.Prelude.{Some, None, Result, Ok, Err, MatchResult, length}
use Rattle.std.specs.Prelude.{if◌then◌else◌}
use Rattle.ud_model.specs.sections.Items.{mode_by}
use Rattle.ud_model.specs.declared.kind.Mode.{Mode}
use Rattle.ud_model.specs.declared.kind.Mode.TheVariants.{C, Plain}
use Rattle.ud_simplified.specs.FoldedTexts.{folded_text}
use Rattle.ud_engine.specs.declared.fault.RunFault.{RunFault}
use Rattle.ud_passes.specs.diff.Patching.{IsDiff}
use Rattle.ud_replace.specs.declared.error.Update.{Update}
use Rattle.ud_replace.specs.declared.error.Update.TheVariants.{Unchanged, Replaced}
use Rattle.ud_replace.specs.declared.error.ReplaceError.{ReplaceError}
use Rattle.ud_replace.specs.declared.error.ReplaceError.TheVariants.{Read, Text}
use Rattle.ud_replace.specs.declared.error.ReplaceError.TheVariants.{ChangedMeanwhile, SeveralLinks}
use Rattle.ud_replace.specs.declared.stat.FileStat.{FileStat}
use Rattle.ud_replace.specs.declared.text_plan.TextPlan.{TextPlan}
use Rattle.ud_replace.specs.declared.kept.Kept.{Kept}
use Rattle.ud_replace.specs.MadeOutcomes.{RunsKept}
use Rattle.ud_replace.specs.UnprunedRuns.{RunsUnpruned, FailsUnpruned}
use Rattle.ud_replace.specs.Calls.{Call, was_read}
use Rattle.ud_replace.specs.TextOutcomes.{TextOptions, IsPlanned, TextOutcome, HasTextOutcome}
use Rattle.ud_replace.specs.TextOutcomes.{RunsOver, FailsOver, goes_back}
use Rattle.ud_passes.specs.names.UnlistedConditions.{unlisted_in, unlisted_text}
use Rattle.ud_tree.specs.declared.counts.Edits.{Edits}
use Rattle.ud_tree.specs.declared.run_file.Ran.{Ran}
use Rattle.ud_tree.specs.Fates.{no_edits, removed_by}
use Rattle.ud_tree.specs.Runs.{FileResult, ReadsOne, Listed, Output, made}

-- `WasRead name text stat old new`: the file `name` was read, and no other call was made. Its bytes
-- are `text`, and its facts before were `stat`.
abbrev pub WasRead : List ℕ → List ℕ → FileStat → List Call → List Call → Type 0
WasRead name text stat old new = new ≡ was_read name text (Some stat) ∷ old

-- `IsUnread name calls calls' e`: the file `name` couldn't be read. Or it was read, but it wasn't
-- the file that the walk met.
pub data IsUnread (name : List ℕ) (calls calls' : List Call) : ReplaceError → Type 0 where
  unread : (text : List ℕ) → calls' ≡ was_read name text None ∷ calls →
      IsUnread name calls calls' Read
  other_file : (text : List ℕ) (stat : FileStat) → WasRead name text stat calls calls' →
      IsUnread name calls calls' ChangedMeanwhile

-- `Fails fails name calls calls' e`: the file `name` couldn't be read, or wasn't the one that was
-- met. Or it was read, and `fails` is true of its text and the error `e`.
pub data Fails (fails : List ℕ → ReplaceError → Type 0) (name : List ℕ) (calls calls' : List Call) :
    ReplaceError → Type 0 where
  not_read : {e : ReplaceError} → IsUnread name calls calls' e → Fails fails name calls calls' e
  fails_over : {e : ReplaceError} (text : List ℕ) (stat : FileStat) →
      WasRead name text stat calls calls' → fails text e → Fails fails name calls calls' e

-- `RunsFile plan name calls calls' kept result`: the file `name` was read, and the output for its
-- text was kept. Or `Fails` is true of the error.
abbrev pub RunsFile : TextPlan → List ℕ → List Call → List Call → Kept → Result Ran ReplaceError →
    Type 0
RunsFile plan name calls calls' kept result =
    (o : TextOptions) → IsPlanned plan o →
    MatchResult result (λ ran. RunsKept o plan kept ran.differs)
    (Fails (FailsOver o) name calls calls')

-- `HasDiff o name text diff edited`: `text` has no fault, and its output differs, with `edited`
-- edited conditions. `diff` turns the text into the output, and back.
pub record HasDiff (o : TextOptions) (name text diff : List ℕ) (edited : ℕ) : Type 0 where
  pub outcome : TextOutcome
  pub runs : HasTextOutcome o text outcome
  pub faultless : outcome.fault ≡ None
  pub differs : outcome.differs ≡ true
  pub is_diff : IsDiff name text outcome.output diff
  pub edited_is : edited ≡ outcome.edited

-- `ShowsFile o into name calls calls' update shown edits outputs`: the file `name` was read. If its
-- output differs, its diff is shown, and the result is `Replaced`. If it doesn't, nothing is shown,
-- and the result is `Unchanged`. Nothing is shown and there is no output for a file with several
-- links, which a run leaves alone unless `into`, or if `Fails` is true of the error.
pub data ShowsFile (o : TextOptions) (into : Bool) (name : List ℕ) (calls calls' : List Call) :
    Result Update ReplaceError → List ℕ → Edits → List Output → Type 0 where
  faulty : {e : ReplaceError} → Fails (FailsOver o) name calls calls' e →
      ShowsFile o into name calls calls' (Err e) [] no_edits []
  several : (text output : List ℕ) (stat : FileStat) (edited : ℕ) →
      WasRead name text stat calls calls' → RunsOver o text output true edited →
      1 < stat.links → into ≡ false →
      ShowsFile o into name calls calls' (Err SeveralLinks) [] no_edits []
  same : (text output : List ℕ) (stat : FileStat) (edited : ℕ) →
      WasRead name text stat calls calls' → RunsOver o text output false edited →
      ShowsFile o into name calls calls' (Ok Unchanged) [] no_edits (made name output)
  changed : (text output diff : List ℕ) (edits : Edits) (stat : FileStat) →
      WasRead name text stat calls calls' → (stat.links ≤ 1) ⊎ (into ≡ true) →
      (h : HasDiff o name text diff edits.conditions) → output ≡ h.outcome.output →
      edits.lines ≡ removed_by Replaced text output →
      ShowsFile o into name calls calls' (Ok Replaced) diff edits (made name output)

-- `ShowsOne plan into name calls calls' result`: the file `name` was read once. Its result, what is
-- shown for it, and its output come from the text read, by the options of the plan.
pub record ShowsOne (plan : TextPlan) (into : Bool) (name : List ℕ) (calls calls' : List Call)
    (result : FileResult) : Type 0 where
  pub text : List ℕ
  pub is_text : result.texts ≡ text ∷ []
  pub reads : ReadsOne name text calls calls'
  pub shows : (o : TextOptions) → IsPlanned plan o →
      ShowsFile o into name calls calls' result.update result.shown result.edits result.outputs

-- `listed_by mode folded lists name lines names`: what is listed for the file `name` if it is
-- listed by the text `lines`, which is folded or not: these names, and the conditions of `lines`
-- whose names can't all be listed, which are counted and, if `lists`, listed.
abbrev pub listed_by : Mode → Bool → Bool → List ℕ → List ℕ → List ℕ → Listed
listed_by mode folded lists name lines names = record {
  names = names;
  hidden = length (unlisted_in mode lines);
  hidden_list = if lists then unlisted_text name mode folded lines else [];
}

-- `folds mode text`: in C mode, folding changes the text, and restoring it gives the text back.
abbrev pub folds : Mode → List ℕ → Bool
folds C text = goes_back (folded_text text) text
folds Plain text = false

-- `ListsFolded o mode text names`: the text is folded, the folded text has no fault, and the run
-- over it lists `names`.
pub record ListsFolded (o : TextOptions) (mode : Mode) (text names : List ℕ) : Type 0 where
  pub is_folded : folds mode text ≡ true
  pub differs : Bool
  pub runs : RunsUnpruned o.run (folded_text text) [] names differs

-- `ListsAsRead o mode text`: the text isn't folded, or the folded text has a fault.
pub data ListsAsRead (o : TextOptions) (mode : Mode) (text : List ℕ) : Type 0 where
  not_folded : folds mode text ≡ false → ListsAsRead o mode text
  fold_faulty : {f : RunFault} → FailsUnpruned o.run (folded_text text) (Text f) →
      ListsAsRead o mode text

-- `ListsText o mode lists name text output listed`: what is listed for the file `name` with this
-- text: by the folded text, if that has no fault; else by the text itself, for which the run lists
-- `output`.
pub data ListsText (o : TextOptions) (mode : Mode) (lists : Bool) (name text output : List ℕ) :
    Listed → Type 0 where
  by_folded : (names : List ℕ) → ListsFolded o mode text names →
      ListsText o mode lists name text output
      (listed_by mode true lists name (folded_text text) names)
  by_itself : ListsAsRead o mode text →
      ListsText o mode lists name text output (listed_by mode false lists name text output)

-- `ListsFile o mode lists name calls calls' update listed`: the file `name` was read, its text has
-- no fault, the result is `Unchanged`, and this is listed. Or `Fails` is true of the error. Then
-- no condition is listed, and the names up to the fault may be any bytes.
pub data ListsFile (o : TextOptions) (mode : Mode) (lists : Bool) (name : List ℕ)
    (calls calls' : List Call) : Result Update ReplaceError → Listed → Type 0 where
  unlisted : {e : ReplaceError} (names : List ℕ) → Fails (FailsUnpruned o.run) name calls calls' e →
      ListsFile o mode lists name calls calls' (Err e)
      (record { names = names; hidden = 0; hidden_list = [] })
  names_listed : (text output : List ℕ) (differs : Bool) (stat : FileStat) {listed : Listed} →
      WasRead name text stat calls calls' → RunsUnpruned o.run text [] output differs →
      ListsText o mode lists name text output listed →
      ListsFile o mode lists name calls calls' (Ok Unchanged) listed

-- `ListsOne plan lists name calls calls' update listed`: the file `name` was read once. Its result,
-- and what is listed for it, come from the text read, by the options of the plan. The lines are
-- read in the mode of the plan.
pub record ListsOne (plan : TextPlan) (lists : Bool) (name : List ℕ) (calls calls' : List Call)
    (update : Result Update ReplaceError) (listed : Listed) : Type 0 where
  pub text : List ℕ
  pub reads : ReadsOne name text calls calls'
  pub lists_file : (o : TextOptions) → IsPlanned plan o →
      ListsFile o (mode_by plan.run.settings.plain) lists name calls calls' update listed
