-- TreeDiffs: the output of a run that only shows what would change.
--
--   ShowsAs o into name old new result   a file was read, and its diff is shown
--   ShowsDiffs o run                     the diffs of the files of a run, in order
use Rattle.std.specs.Prelude.{◌≡◌, ℕ, List, [], ◌++◌, Bool, false}
use Rattle.ud_replace.specs.Calls.{Call}
use Rattle.ud_replace.specs.Moments.{EachCall}
use Rattle.ud_replace.specs.TextOutcomes.{TextOptions}
use Rattle.ud_tree.specs.declared.walk.Found.{Found}
use Rattle.ud_tree.specs.Runs.{FileResult, EachFile, shown_of, names_of}
use Rattle.ud_tree.specs.Shown.{ShowsFile}
use Rattle.ud_tree.specs.TreeMoments.{TouchesNothing}
use Rattle.ud_tree.specs.TreeRuns.{Run, IsDone}
use Rattle.ud_tree.specs.Walks.{WalksOnly, IsWalk}

-- `ShowsAs o into name old new result`: the file `name` was read, and its diff is shown if a run
-- would change it.
abbrev pub ShowsAs : TextOptions → Bool → List ℕ → List Call → List Call → FileResult → Type 0
ShowsAs o into name old new result =
    ShowsFile o into name old new result.update result.shown result.edits result.outputs

-- `ShowsDiffs o run`: no file was read, and nothing is shown. Or a walk found some files, each was
-- read once, and their diffs are shown in the same order. If the output has failed, that may be
-- only the first ones (`IsDone`). Lists follow, if they are wanted. No later call touches a file.
pub data ShowsDiffs (o : TextOptions) (run : Run) : Type 0 where
  no_diff : WalksOnly run.old run.new → run.ending.shown ≡ [] → ShowsDiffs o run
  diffs : (mid last : List Call) (files done : List Found) (results : List FileResult)
      (listed : List ℕ) → IsWalk run.old mid files →
      IsDone run.args run.ending.streams.failed files done →
      EachFile (ShowsAs o run.args.write_into) mid (names_of done) last results →
      EachCall TouchesNothing last run.new →
      run.ending.shown ≡ shown_of results ++ listed →
      (run.args.list_remaining ≡ false → listed ≡ []) → ShowsDiffs o run
