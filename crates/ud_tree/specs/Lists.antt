-- Lists: what the program keeps of the files' names.
--
--   Adds old new listed   what is listed of some files was added to `old`, which is then `new`
--   AddsListed listed old new update   this was added, or memory couldn't be allocated
--   FoldsToList args text listed result   a text is listed by the folded text, or by itself
--   ListsTextInto args name text output old new update   what is listed of a text was added
--   ListsInto plan lists name calls calls' old new update   a file was read, and this was added
--
-- `calls` and `calls'` are the calls before and after, the newest first.
use Rattle.std.specs.Prelude.{◌≡◌, ℕ, ◌+◌, ◌<◌, ◌^◌, List, [], ◌++◌, Bool, Result, OnOk}
use Rattle.std.specs.Prelude.{IfOk, MatchResult, MatchOption, Option}
use Rattle.std.specs.Global.{Vec}
use Rattle.std.specs.declared.alloc.AllocError.{AllocError}
use Rattle.ud_simplified.specs.FoldedTexts.{folded_text}
use Rattle.ud_passes.specs.declared.names.Names.{Names}
use Rattle.ud_replace.specs.declared.error.Update.{Update}
use Rattle.ud_replace.specs.declared.error.Update.TheVariants.{Unchanged}
use Rattle.ud_replace.specs.declared.error.ReplaceError.{ReplaceError}
use Rattle.ud_replace.specs.declared.error.ReplaceError.TheVariants.{OutOfMemory}
use Rattle.ud_replace.specs.declared.text_plan.TextPlan.{TextPlan}
use Rattle.ud_replace.specs.Calls.{Call}
use Rattle.ud_replace.specs.TextOutcomes.{TextOptions, IsPlanned}
use Rattle.ud_tree.specs.declared.arguments.Arguments.{Arguments}
use Rattle.ud_tree.specs.Remainders.{mode_of}
use Rattle.ud_tree.specs.Runs.{Listed}
use Rattle.ud_tree.specs.Shown.{ListsText, ListsOne, ListsAsRead, ListsFolded}

-- `Adds old new listed`: the names and the conditions were added. They are counted if a machine can
-- count them.
pub record Adds (old new : Names) (listed : Listed) : Type 0 where
  pub names : new.list.items ≡ old.list.items ++ listed.names
  pub hidden : old.hidden + listed.hidden < 2 ^ 64 → new.hidden ≡ old.hidden + listed.hidden
  pub hidden_list : new.hidden_list.items ≡ old.hidden_list.items ++ listed.hidden_list
  pub lists : new.lists_hidden ≡ old.lists_hidden

-- `AddsListed listed old new update`: what is listed was added. Or memory couldn't be allocated;
-- then no condition was added, and the names were or weren't.
abbrev pub AddsListed : Listed → Names → Names → Result Update ReplaceError → Type 0
AddsListed listed old new update =
    MatchResult update (λ u. (u ≡ Unchanged) × Adds old new listed)
    (λ e. (e ≡ OutOfMemory) × ((names : List ℕ) ×
    Adds old new (record { names = names; hidden = 0; hidden_list = [] })))

-- `FoldsToList args text listed result`: `text` is listed by the folded text, which is the
-- result, with the names `listed`; or it is listed by itself. Or memory couldn't be allocated.
abbrev pub FoldsToList : Arguments → List ℕ → List ℕ → Result (Option (Vec ℕ)) AllocError → Type 0
FoldsToList args text listed result =
    (o : TextOptions) → IsPlanned args.plan o → IfOk result (λ folded. MatchOption folded
    (ListsAsRead o (mode_of args) text)
    (λ lines. (lines.items ≡ folded_text text) × ListsFolded o (mode_of args) text listed))

-- `ListsTextInto args name text output old new update`: what is listed of the text of the file
-- `name`, for which the run lists `output`, was added to `old`.
pub record ListsTextInto (args : Arguments) (name text output : List ℕ) (old new : Names)
    (update : Result Update ReplaceError) : Type 0 where
  pub listed : Listed
  pub lists : (o : TextOptions) → IsPlanned args.plan o → OnOk update
      (ListsText o (mode_of args) args.list_hidden name text output listed)
  pub adds : AddsListed listed old new update

-- `ListsInto plan lists name calls calls' old new update`: what is listed of the file `name` was
-- added to `old`.
pub record ListsInto (plan : TextPlan) (lists : Bool) (name : List ℕ) (calls calls' : List Call)
    (old new : Names) (update : Result Update ReplaceError) : Type 0 where
  pub listed : Listed
  pub does : ListsOne plan lists name calls calls' update listed
  pub adds : Adds old new listed
