-- Changes: what is shown of a replaced file.
--
--   KeepsOne o into name old new r text output edited   a file was replaced, with this output
--   KeepsAs plan into name old new r text output edited   the same for all options of a plan
--   ShowsChange shows name update text output lost shown   the diff of a changed file
--   ShowsUpdate plan into shows name old new lost r shown edits outputs   the same, by the result
--   ReplacesShowing plan into shows name old new result   both: the file was replaced, and is shown
--
-- `old` and `new` are the calls before and after, the newest first.
use Rattle.std.specs.Prelude.{◌≡◌, ℕ, List, [], ◌∷◌, Bool, true, false, Result, Ok, Err}
use Rattle.ud_passes.specs.diff.Patching.{IsDiff}
use Rattle.ud_replace.specs.declared.error.Update.{Update}
use Rattle.ud_replace.specs.declared.error.ReplaceError.{ReplaceError}
use Rattle.ud_replace.specs.declared.node.FileId.{FileId}
use Rattle.ud_replace.specs.declared.text_plan.TextPlan.{TextPlan}
use Rattle.ud_replace.specs.Calls.{Call}
use Rattle.ud_replace.specs.Replacing.{Keeps}
use Rattle.ud_replace.specs.TextOutcomes.{TextOptions, IsPlanned}
use Rattle.ud_tree.specs.declared.counts.Edits.{Edits}
use Rattle.ud_tree.specs.Fates.{fate_of, is_changed, no_edits, removed_by}
use Rattle.ud_tree.specs.Paths.{fresh_name}
use Rattle.ud_tree.specs.Runs.{FileResult, ReplacesOne, Output, made}

-- `KeepsOne o into name old new r text output edited`: the file `name` was read as `text`, and was
-- replaced with the help of a new one, with the result `r`. `output` is the output for `text`, with
-- `edited` edited conditions.
abbrev pub KeepsOne : TextOptions → Bool → List ℕ → List Call → List Call →
    Result Update ReplaceError → List ℕ → List ℕ → ℕ → Type 0
KeepsOne o into name old new r text output edited =
    (id : FileId) × Keeps o into id name (fresh_name name) old new r text output edited

-- `KeepsAs plan into name old new r text output edited`: the same for all options of the plan.
abbrev pub KeepsAs : TextPlan → Bool → List ℕ → List Call → List Call →
    Result Update ReplaceError → List ℕ → List ℕ → ℕ → Type 0
KeepsAs plan into name old new r text output edited =
    (o : TextOptions) → IsPlanned plan o → KeepsOne o into name old new r text output edited

-- `ShowsChange shows name update text output lost shown`: the diff of the file `name`, which turns
-- `text` into `output`, is shown, since it is wanted and the file was changed. Nothing is shown if
-- it isn't wanted, if the file wasn't changed, or if memory ran out (`lost`).
pub data ShowsChange (shows : Bool) (name : List ℕ) (update : Update) (text output : List ℕ)
    (lost : Bool) (shown : List ℕ) : Type 0 where
  unwanted : shown ≡ [] → shows ≡ false → ShowsChange shows name update text output lost shown
  unchanged : shown ≡ [] → is_changed (fate_of (Ok update)) ≡ false →
      ShowsChange shows name update text output lost shown
  no_memory : shown ≡ [] → lost ≡ true → ShowsChange shows name update text output lost shown
  change_shown : shows ≡ true → is_changed (fate_of (Ok update)) ≡ true →
      IsDiff name text output shown → ShowsChange shows name update text output lost shown

-- `ShowsUpdate plan into shows name old new lost r shown edits outputs`: after an error, nothing is
-- shown of the file `name`, and there is no output. Else its diff is shown as `ShowsChange` says,
-- with the text that was read and its output, which give `edits`.
pub data ShowsUpdate (plan : TextPlan) (into shows : Bool) (name : List ℕ) (old new : List Call)
    (lost : Bool) : Result Update ReplaceError → List ℕ → Edits → List Output → Type 0 where
  after_error : {e : ReplaceError} →
      ShowsUpdate plan into shows name old new lost (Err e) [] no_edits []
  after_update : {update : Update} {shown : List ℕ} (text output : List ℕ) (edits : Edits) →
      KeepsAs plan into name old new (Ok update) text output edits.conditions →
      edits.lines ≡ removed_by update text output →
      ShowsChange shows name update text output lost shown →
      ShowsUpdate plan into shows name old new lost (Ok update) shown edits (made name output)

-- `ReplacesShowing plan into shows name old new result`: the file `name` was read and replaced, and
-- its diff is shown if `shows`.
pub record ReplacesShowing (plan : TextPlan) (into shows : Bool) (name : List ℕ)
    (old new : List Call) (result : FileResult) : Type 0 where
  pub text : List ℕ
  pub is_text : result.texts ≡ text ∷ []
  pub does : ReplacesOne plan into name text old new result.update
  pub change : ShowsUpdate plan into shows name old new result.lost result.update result.shown
      result.edits result.outputs
