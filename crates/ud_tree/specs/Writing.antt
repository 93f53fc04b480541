-- Writing: what is written for the files of a run.
--
--   Moment                                the calls so far, the output and the error stream
--   moment history contents reported tree out err   the moment of a tree and two writers
--   Stage                                 the calls so far, the output and the report
--   stage history contents tree out report   those of a tree and a writer
--   WritesOne args P name before after done listed   a file was processed, and shown
--   ProcessesOne args P name before after done lists lists'   what is listed was added, too
--   WritesAll args P before names after counts lists lists'   each file in turn was processed
--   WritesList args names rest lost out out'   what is listed after the files was written
--   end_of args processed report          the last lines
--   TellsEnd args processed old new       they were written last
use Rattle.std.specs.Prelude.{◌≡◌, ℕ, List, [], Option, Bool, true, false}
use Rattle.ud_io.specs.Watched.{WatchedState}
use Rattle.ud_passes.specs.declared.names.Names.{Names as NameLists}
use Rattle.ud_passes.specs.names.NameTables.{names_in, Tabulates}
use Rattle.ud_replace.specs.Calls.{Call}
use Rattle.ud_tree.specs.declared.arguments.Arguments.{Arguments}
use Rattle.ud_tree.specs.declared.arguments.Task.TheVariants.{Names}
use Rattle.ud_tree.specs.declared.counts.Counts.{Counts}
use Rattle.ud_tree.specs.declared.file_result.Done.{Done}
use Rattle.ud_tree.specs.declared.last_lines.Processed.{Processed}
use Rattle.ud_tree.specs.Reports.{ReportState, Writes}
use Rattle.ud_tree.specs.Lists.{Adds}
use Rattle.ud_tree.specs.Remainders.{FindsAll}
use Rattle.ud_tree.specs.Runs.{FileResult, Counted, Listed, listed_of, lost_in, Output, outputs_of}
use Rattle.ud_tree.specs.Runs.{names_of, texts_of}
use Rattle.ud_tree.specs.Summaries.{EndsWith, last_lines, still_unnamed}
use Rattle.ud_io.specs.Streams.{Stream, stream_of, Sends}

-- `Moment`: the calls so far, the newest first, the output and the error stream.
pub record Moment : Type 0 where
  pub calls : List Call
  pub out : Stream
  pub err : Stream

-- `moment history contents reported tree out err`: the calls made to a tree, the output and the
-- error stream.
abbrev pub moment : {T W E : Type 0} → (T → List Call) → (W → Option (List ℕ)) →
    (E → Option (List ℕ)) → T → WatchedState W → WatchedState E → Moment
moment history contents reported tree out err = record {
  calls = history tree;
  out = stream_of contents out;
  err = stream_of reported err;
}

-- `Stage`: the calls so far, the newest first, the output and the report.
pub record Stage : Type 0 where
  pub calls : List Call
  pub out : Stream
  pub report : ReportState

-- `stage history contents tree out report`: the calls that a tree was asked, the output and the
-- report.
abbrev pub stage : {T W : Type 0} → (T → List Call) → (W → Option (List ℕ)) → T → WatchedState W →
    ReportState → Stage
stage history contents tree out report =
    record { calls = history tree; out = stream_of contents out; report = report }

-- `WritesOne args P name before after done listed`: `P` holds of a file with this result, these
-- edits, and what is listed of it. What is shown of it was written. The conditions of its
-- output that still name a symbol were added to the report, and it looked for names in its text. If
-- memory ran out for some of that (`lost`), the report records it.
pub record WritesOne (args : Arguments)
    (P : List ℕ → List Call → List Call → FileResult → Type 0) (name : List ℕ)
    (before after : Stage) (done : Done) (listed : Listed) : Type 0 where
  pub shown : List ℕ
  pub outputs : List Output
  pub texts : List (List ℕ)
  pub lost : Bool
  pub does : (told : List ℕ) →
      P name before.calls after.calls (record {
        update = done.update;
        shown = shown;
        told = told;
        edits = done.edits;
        listed = listed;
        outputs = outputs;
        texts = texts;
        lost = lost;
      })
  pub sent : Sends before.out after.out shown
  pub finds : FindsAll args texts outputs before.report after.report
  pub loses : after.report.lacks_memory ≡ false → lost ≡ false

-- `ProcessesOne args P name before after done lists lists'`: the same, and what is listed of the
-- file was added to `lists`.
pub record ProcessesOne (args : Arguments)
    (P : List ℕ → List Call → List Call → FileResult → Type 0) (name : List ℕ)
    (before after : Stage) (done : Done) (lists lists' : NameLists) : Type 0 where
  pub listed : Listed
  pub writes : WritesOne args P name before after done listed
  pub adds : Adds lists lists' listed

-- `WritesAll args P before names after counts lists lists'`: `P` holds of each file in turn,
-- `counts` has the numbers of their fates, and what is shown and told of them was written in this
-- order. What is listed of them was added to `lists`, and the conditions of their outputs that
-- still name a symbol to the report, which looked for names in their texts.
pub record WritesAll (args : Arguments)
    (P : List ℕ → List Call → List Call → FileResult → Type 0) (before : Stage)
    (names : List (List ℕ)) (after : Stage) (counts : Counts) (lists lists' : NameLists) :
    Type 0 where
  pub shown : List ℕ
  pub told : List ℕ
  pub counted : Counted P before.calls names after.calls counts shown told
  pub sent : Sends before.out after.out shown
  pub writes : Writes before.report after.report told
  pub adds : Adds lists lists' (listed_of counted.results)
  pub finds : FindsAll args (texts_of counted.results) (outputs_of counted.results)
      before.report after.report
  pub loses : after.report.lacks_memory ≡ false → lost_in counted.results ≡ false

-- `WritesList args names rest lost out out'`: a list was written, empty unless names or the
-- conditions that still name a symbol are to be listed. Names are listed in a table, after the
-- conditions whose names can't all be listed, unless some of that was lost for lack of memory. The
-- list of the conditions that still name a symbol is `rest`.
pub record WritesList (args : Arguments) (names : NameLists) (rest : List ℕ) (lost : Bool)
    (out out' : Stream) : Type 0 where
  pub listed : List ℕ
  pub table : args.task ≡ Names → args.list_remaining ≡ false → lost ≡ false →
      Tabulates (names_in names.list.items) names.hidden_list.items listed
  pub is_wanted : ¬ (args.task ≡ Names) → args.list_remaining ≡ false → listed ≡ []
  pub remains : ¬ (args.task ≡ Names) → args.list_remaining ≡ true → listed ≡ rest
  pub sent : Sends out out' listed

-- `end_of args processed report`: the last lines, with the numbers of conditions and definitions of
-- the report, and the names that it has marked.
abbrev pub end_of : Arguments → Processed → ReportState → List ℕ
end_of args p r = last_lines args p.counts.changed p.counts.unchanged p.faults p.hidden
    p.counts.edits r.remaining.count r.remaining.defined (still_unnamed args r.unnamed)
    (names_of p.others.named.items) p.others.unsearched

-- `TellsEnd args processed old new`: the last lines were written. Nothing else was, unless a
-- terminal showed the number of files.
pub record TellsEnd (args : Arguments) (p : Processed) (old new : ReportState) : Type 0 where
  pub told : EndsWith new.err (end_of args p old)
  pub alone : old.is_shown ≡ false → Sends old.err new.err (end_of args p old)
