-- Statuses: the exit status of a run over a tree.
--
--   tree_status task mode unheard faults changed   the status by the task, the exit mode and the
--       counts
--
-- unifdef-tree(1): 2 after any fault, or if a message couldn't be written. Otherwise 0 if names are
-- listed, else the status by the exit mode, as for a single text, by whether some file changed.
use Rattle.std.specs.Prelude.{ℕ, Bool, ◌==◌, ◌&&◌, not, if◌then◌else◌, nat_lt}
use Rattle.ud_model.specs.declared.settings.ExitMode.{ExitMode}
use Rattle.ud_model.specs.answer.Answer.{status_by}
use Rattle.ud_tree.specs.declared.arguments.Task.{Task}
use Rattle.ud_tree.specs.declared.arguments.Task.TheVariants.{Replace, Diff, Names}

-- `status_of task mode changed`: the status without a fault.
abbrev pub status_of : Task → ExitMode → ℕ → ℕ
status_of Replace mode changed = status_by mode (nat_lt 0 changed)
status_of Diff mode changed = status_by mode (nat_lt 0 changed)
status_of Names mode changed = 0

-- `tree_status task mode unheard faults changed`: the status after this number of faults.
-- `unheard`: the error stream has failed.
abbrev pub tree_status : Task → ExitMode → Bool → ℕ → ℕ → ℕ
tree_status task mode unheard faults changed =
    if faults == 0 && not unheard then status_of task mode changed else 2
