-- Runs: the calls for the files of a run, and the files' fates.
--
--   ReadsOne name text old new   a file was read, and no other call was made
--   ReplacesOne plan into name text old new update   a file was replaced
--   Listed, nothing_listed  what is listed of a file
--   Output, made name bytes   the output for a file
--   FileResult              the result of a file, and what is written and listed for it
--   Unshown P name old new result   `P` holds for a file with nothing written to the output
--   EachFile P old names new results   `P` holds for each file in turn, with no other call
--   changed_in results, same_in results, faulty_in results   the numbers of each fate
--   edited_in results, removed_in results   the numbers of edited conditions and removed lines
--   CountsAre counts results   these are the counts
--   shown_of results        what is written for the files to the output
--   told_of results         what is written for the files to the error stream
--   listed_of results       what is listed for the files
--   outputs_of results      the outputs for the files
--   texts_of results        the texts of the files
--   lost_in results         memory ran out for something to be shown or listed of a file
--   Counted P old names new counts shown told   each file in turn, with the numbers of each fate
--   names_of files          the paths of the files that the walk found
--
-- `old` and `new` are the calls before and after, the newest first.
use Rattle.std.specs.Prelude.{◌≡◌, ℕ, List, [], ◌∷◌, ◌++◌, Bool, Option, Result, Err, map}
use Rattle.std.specs.Prelude.{count_by, string_bytes, sum_by, ◌<◌, ◌^◌}
use Rattle.std.specs.List.{flat_map, list_any}
use Rattle.ud_replace.specs.declared.error.Update.{Update}
use Rattle.ud_replace.specs.declared.error.ReplaceError.{ReplaceError}
use Rattle.ud_replace.specs.declared.error.ReplaceError.TheVariants.{OutOfMemory}
use Rattle.ud_replace.specs.declared.node.FileId.{FileId}
use Rattle.ud_replace.specs.declared.stat.FileStat.{FileStat}
use Rattle.ud_replace.specs.declared.text_plan.TextPlan.{TextPlan}
use Rattle.ud_replace.specs.Calls.{Call, was_read}
use Rattle.ud_replace.specs.Replacing.{Replaces}
use Rattle.ud_replace.specs.TextOutcomes.{TextOptions, IsPlanned}
use Rattle.ud_tree.specs.declared.counts.Counts.{Counts}
use Rattle.ud_tree.specs.declared.counts.Edits.{Edits}
use Rattle.ud_tree.specs.declared.walk.Found.{Found}
use Rattle.ud_tree.specs.Fates.{fate_of, is_changed, is_same, is_faulty, no_edits}
use Rattle.ud_tree.specs.Messages.{IsTold}
use Rattle.ud_tree.specs.Paths.{fresh_name}

-- `ReadsOne name text old new`: the file `name` was read as `text`, and no other call was made. If
-- reading failed, `text` is what was read.
pub data ReadsOne (name text : List ℕ) (old new : List Call) : Type 0 where
  reads : (answer : Option FileStat) → new ≡ was_read name text answer ∷ old →
      ReadsOne name text old new

-- `ReplacesOne plan into name text old new update`: the calls read the file `name`, which the walk
-- met, as `text`, and replace it with the help of a new one. `update` is their result. Or memory
-- for the new name couldn't be allocated, no call was made, and the text is empty.
pub data ReplacesOne (plan : TextPlan) (into : Bool) (name text : List ℕ) (old new : List Call) :
    Result Update ReplaceError → Type 0 where
  replaces : (r : Result Update ReplaceError) (id : FileId) (fresh : List ℕ) →
      fresh ≡ fresh_name name →
      ((o : TextOptions) → IsPlanned plan o → Replaces o into id name fresh text old new r) →
      ReplacesOne plan into name text old new r
  no_name : text ≡ [] → new ≡ old → ReplacesOne plan into name text old new (Err OutOfMemory)

-- `Listed`: what is listed of a file: the list of its names, the number of its conditions whose
-- names can't all be listed, and the list of these conditions.
pub record Listed : Type 0 where
  pub names : List ℕ
  pub hidden : ℕ
  pub hidden_list : List ℕ

-- `nothing_listed`: nothing is listed of a file.
abbrev pub nothing_listed : Listed
nothing_listed = record { names = []; hidden = 0; hidden_list = [] }

-- `Output`: the name of a file, and the output for it.
pub record Output : Type 0 where
  pub name : List ℕ
  pub bytes : List ℕ

-- `made name bytes`: `bytes` is the output for the file `name`.
abbrev pub made : List ℕ → List ℕ → List Output
made name bytes = record { name = name; bytes = bytes } ∷ []

-- `FileResult`: the result of a file, the bytes written for it to the output and to the error
-- stream, the edits of its text, made or only shown, what is listed for it, the output for it (none
-- after an error), the text that was read (none if names are listed), and whether memory ran out by
-- then for something to be shown or listed.
pub record FileResult : Type 0 where
  pub update : Result Update ReplaceError
  pub shown : List ℕ
  pub told : List ℕ
  pub edits : Edits
  pub listed : Listed
  pub outputs : List Output
  pub texts : List (List ℕ)
  pub lost : Bool

-- `Unshown P name old new result`: `P` holds for the file, its result, and what is listed for it.
-- Nothing is written for it to the output. It has no output of its own, no edits, and no text.
pub record Unshown
    (P : List ℕ → List Call → List Call → Result Update ReplaceError → Listed → Type 0)
    (name : List ℕ) (old new : List Call) (result : FileResult) : Type 0 where
  pub does : P name old new result.update result.listed
  pub nothing : result.shown ≡ []
  pub unedited : result.edits ≡ no_edits
  pub no_output : result.outputs ≡ []
  pub no_text : result.texts ≡ []

-- `EachFile P old names new results`: `P name mid next result` holds for each file in turn, where
-- `mid` and `next` are the calls before and after it. No other call was made. Only the messages of
-- the files' errors go to the error stream.
pub data EachFile (P : List ℕ → List Call → List Call → FileResult → Type 0) (old : List Call) :
    List (List ℕ) → List Call → List FileResult → Type 0 where
  no_file : EachFile P old [] old []
  then_file : {names : List (List ℕ)} {mid next : List Call} {results : List FileResult}
      {name : List ℕ} {result : FileResult} → EachFile P old names mid results →
      P name mid next result → IsTold name result.update result.told →
      EachFile P old (names ++ name ∷ []) next (results ++ result ∷ [])

-- `changed_in results`: the number of files that were changed, or would be.
abbrev pub changed_in : List FileResult → ℕ
changed_in results = count_by (λ r. is_changed (fate_of r.update)) results

-- `same_in results`: the number of files whose output is their text.
abbrev pub same_in : List FileResult → ℕ
same_in results = count_by (λ r. is_same (fate_of r.update)) results

-- `faulty_in results`: the number of files that have a fault.
abbrev pub faulty_in : List FileResult → ℕ
faulty_in results = count_by (λ r. is_faulty (fate_of r.update)) results

-- `edited_in results`: the number of conditions that were edited, or would be.
abbrev pub edited_in : List FileResult → ℕ
edited_in results = sum_by (λ r. r.edits.conditions) results

-- `removed_in results`: the number of lines that were removed, or would be.
abbrev pub removed_in : List FileResult → ℕ
removed_in results = sum_by (λ r. r.edits.lines) results

-- `CountsAre counts results`: `counts` has the number of each fate, and of edited conditions and
-- removed lines if a machine can count these.
pub record CountsAre (counts : Counts) (results : List FileResult) : Type 0 where
  pub changed : counts.changed ≡ changed_in results
  pub unchanged : counts.unchanged ≡ same_in results
  pub faulty : counts.faulty ≡ faulty_in results
  pub edited : edited_in results < 2 ^ 64 → counts.edits.conditions ≡ edited_in results
  pub removed : removed_in results < 2 ^ 64 → counts.edits.lines ≡ removed_in results

-- `shown_of results`: what is written for the files to the output, in order.
abbrev pub shown_of : List FileResult → List ℕ
shown_of results = flat_map (λ r. r.shown) results

-- `told_of results`: what is written for the files to the error stream, in order.
abbrev pub told_of : List FileResult → List ℕ
told_of results = flat_map (λ r. r.told) results

-- `listed_of results`: what is listed for the files, in order.
abbrev pub listed_of : List FileResult → Listed
listed_of results = record {
  names = flat_map (λ r. r.listed.names) results;
  hidden = sum_by (λ r. r.listed.hidden) results;
  hidden_list = flat_map (λ r. r.listed.hidden_list) results;
}

-- `outputs_of results`: the outputs for the files, in order.
abbrev pub outputs_of : List FileResult → List Output
outputs_of results = flat_map (λ r. r.outputs) results

-- `texts_of results`: the texts of the files, in order.
abbrev pub texts_of : List FileResult → List (List ℕ)
texts_of results = flat_map (λ r. r.texts) results

-- `lost_in results`: memory ran out for something to be shown or listed of one of the files.
abbrev pub lost_in : List FileResult → Bool
lost_in results = list_any (λ r. r.lost) results

-- `Counted P old names new counts shown told`: `P` holds for each file in turn, and `counts` has
-- the numbers of their fates. `shown` and `told` are written for them.
pub record Counted (P : List ℕ → List Call → List Call → FileResult → Type 0) (old : List Call)
    (names : List (List ℕ)) (new : List Call) (counts : Counts) (shown told : List ℕ) :
    Type 0 where
  pub results : List FileResult
  pub each : EachFile P old names new results
  pub counts_are : CountsAre counts results
  pub shown_is : shown ≡ shown_of results
  pub told_is : told ≡ told_of results

-- `names_of files`: the paths of the files, in order.
abbrev pub names_of : List Found → List (List ℕ)
names_of files = map (λ f. string_bytes f.path) files
