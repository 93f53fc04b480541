-- TreeRuns: the calls of a run over a tree, and its status.
--
--   DoesBy task args name old new result   what a task does with a file
--   DoesOne args name old new result       what the arguments ask for is done with a file
--   WritesBy task args name before after done   a file was processed by the task
--   DoesFile job name before after done lists lists'   what is asked for is done
--   DoesJob job files before after counts lists lists'   the same with each file
--   shows_changes args                      changes are shown, made or not
--   IsDone args failed files done           which files are processed before a run ends
--   DoesFiles job files before after counts lists lists'   the same for those
--   Ending, Tally                           how a run ends, and the numbers of its last lines
--   DoesAll args failed old files new       what is done with each file: the results
--   ShowsAll args results others is_lost shown   what is shown of the files, and what is listed
--   Totals args results is_lost tally       the numbers are the totals over all files
--   HasStatus args in_walk results is_lost faults ending   which faults there are, and which status
--   TellsAll args results is_lost tally ending   which messages there are, and which last lines
--   Ends args in_walk old files new ending  all of this: the files are processed
--   HasEnding is_terminal before after messages ending status   a run ends so at a moment
--   EndsWriting job walked before after status   the same, and all was written
--   Run                                     the arguments of a run, its calls, and its ending
--   StopsEarly run                          no file follows the walk
--   ProcessesFiles run                      the files that the walk found are processed
--   IsRun run                               either of these: a whole run
--   IsClean run                             a run in which nothing failed
--   TellsUnnamed run processes              it tells of the symbols that no condition names
--   RunsTree job given left before after status   a whole run, and all of it was written
--
-- `old` and `new` are the calls before and after, the newest first. `given` and `left` are what the
-- input has before and after. `messages` are the walk's messages, and `in_walk` is their number.
-- `is_lost`: memory ran out for something to be shown or listed.
use Rattle.std.specs.Prelude.{◌≡◌, ◌⊎◌, ℕ, ◌+◌, ◌≤◌, ◌<◌, ◌^◌, List, [], ◌++◌, length}
use Rattle.std.specs.Prelude.{Bool, true, false, filter, map, take}
use Rattle.ud_model.specs.conditions.Conditions.{is_listed}
use Rattle.ud_model.specs.conditions.Table.{Argument}
use Rattle.ud_cond.specs.symbols.SymbolTable.{TableRepresents}
use Rattle.ud_replace.specs.Calls.{Call}
use Rattle.ud_tree.specs.declared.arguments.Task.{Task}
use Rattle.ud_tree.specs.declared.arguments.Task.TheVariants.{Replace, Diff, Names}
use Rattle.ud_tree.specs.declared.arguments.Arguments.{Arguments}
use Rattle.ud_tree.specs.declared.counts.Counts.{Counts}
use Rattle.ud_tree.specs.declared.counts.Edits.{Edits}
use Rattle.ud_tree.specs.declared.file_result.Done.{Done}
use Rattle.ud_tree.specs.declared.find_files.Walked.{Walked}
use Rattle.ud_tree.specs.declared.job.Job.{Job}
use Rattle.ud_tree.specs.declared.other_files.Others.{Others}
use Rattle.ud_tree.specs.declared.walk.Found.{Found}
use Rattle.ud_tree.specs.Changes.{ReplacesShowing}
use Rattle.ud_passes.specs.declared.names.Names.{Names as NameLists}
use Rattle.ud_passes.specs.names.NameTables.{names_in, Tabulates}
use Rattle.ud_tree.specs.Remainders.{is_searched, listing_of, count_of}
use Rattle.ud_tree.specs.Remainders.{defined_of, list_of, unnamed_in}
use Rattle.ud_tree.specs.Runs.{FileResult, Unshown, EachFile, shown_of, told_of, listed_of}
use Rattle.ud_tree.specs.Runs.{lost_in, outputs_of, texts_of, nothing_listed}
use Rattle.ud_tree.specs.Runs.{changed_in, same_in, faulty_in, edited_in, removed_in, names_of}
use Rattle.ud_tree.specs.Shown.{ShowsOne, ListsOne}
use Rattle.ud_tree.specs.Messages.{output_messages}
use Rattle.ud_tree.specs.Streams.{StreamEnds, ends_of, Source, TakesInput}
use Rattle.ud_io.specs.Streams.{Sends}
use Rattle.ud_tree.specs.Summaries.{last_lines, EndsWith}
use Rattle.ud_tree.specs.Writing.{Moment, Stage, WritesOne, ProcessesOne, WritesAll}
use Rattle.ud_tree.specs.Covering.{StandsIn, MissesNone}
use Rattle.ud_tree.specs.Others.{SeeksOthers, others_list}
use Rattle.ud_tree.specs.Walks.{IsWalk}
use Rattle.ud_tree.specs.WalkMessages.{WalkTells, joined, Stops}
use Rattle.ud_tree.specs.Statuses.{tree_status}
use Rattle.ud_tree.specs.Unmatched.{LeavesRules, rule_lines}

-- `DoesBy task args name old new result`: the file `name` is replaced, shown or listed, by the
-- task.
abbrev pub DoesBy : Task → Arguments → List ℕ → List Call → List Call → FileResult → Type 0
DoesBy Replace args = ReplacesShowing args.plan args.write_into args.show_changes
DoesBy Diff args = ShowsOne args.plan args.write_into
DoesBy Names args = Unshown (ListsOne args.plan args.list_hidden)

-- `DoesOne args name old new result`: what the arguments ask for is done with the file `name`.
abbrev pub DoesOne : Arguments → List ℕ → List Call → List Call → FileResult → Type 0
DoesOne args = DoesBy args.task args

-- `DoesFile job name before after done lists lists'`: what the arguments ask for is done with the
-- file `name`, what is shown of it was written, and what is listed of it was added to `lists`.
abbrev pub DoesFile : Job → List ℕ → Stage → Stage → Done → NameLists → NameLists → Type 0
DoesFile job = ProcessesOne job.arguments.now (DoesOne job.arguments.now)

-- `WritesBy task args name before after done`: the file `name` is replaced or shown, by the task
-- (`WritesOne`). Nothing is listed of it.
abbrev pub WritesBy : Task → Arguments → List ℕ → Stage → Stage → Done → Type 0
WritesBy task args name before after done =
    WritesOne args (DoesBy task args) name before after done nothing_listed

-- `DoesJob job files before after counts lists lists'`: what the arguments ask for is done with
-- each file in turn, what is shown and told of them was written, and what is listed of them was
-- added to `lists`.
abbrev pub DoesJob : Job → List Found → Stage → Stage → Counts → NameLists → NameLists → Type 0
DoesJob job files before after counts lists lists' =
    WritesAll job.arguments.now (DoesOne job.arguments.now) before (names_of files) after counts
    lists lists'

-- `shows_by task shows`: diffs are printed by a run with this task, where `shows` says whether one
-- that replaces files prints them.
abbrev shows_by : Task → Bool → Bool
shows_by Replace shows = shows
shows_by Diff shows = true
shows_by Names shows = false

-- `shows_changes args`: diffs are printed, of what a run changes or of what it would change.
abbrev pub shows_changes : Arguments → Bool
shows_changes args = shows_by args.task args.show_changes

-- `IsDone args failed files done`: `done` is `files`; or only the first of them, if changes are to
-- be shown and the output has failed.
pub data IsDone (args : Arguments) (failed : Bool) (files : List Found) : List Found → Type 0 where
  all_done : IsDone args failed files files
  stopped : (count : ℕ) → shows_changes args ≡ true → failed ≡ true →
      IsDone args failed files (take count files)

-- `DoesFiles job files before after counts lists lists'`: `DoesJob` of the files that are
-- processed.
pub record DoesFiles (job : Job) (files : List Found) (before after : Stage) (counts : Counts)
    (lists lists' : NameLists) : Type 0 where
  pub done : List Found
  pub is_done : IsDone job.arguments.now after.out.failed files done
  pub does : DoesJob job done before after counts lists lists'

-- `Ending`: how a run ends after its walk: the ends of both streams, what is to be written to the
-- output, to the error stream, and last to that one, and the status.
pub record Ending : Type 0 where
  pub streams : StreamEnds
  pub shown : List ℕ
  pub told : List ℕ
  pub last : List ℕ
  pub status : ℕ

-- `Tally`: the numbers of faults, of conditions whose names can't all be listed, of edits, of
-- conditions that still name a symbol, and of lines that define one, the symbols that no condition
-- names, what was found among the files of other names, and the arguments of `-g` that matched
-- nothing.
pub record Tally : Type 0 where
  pub faults : ℕ
  pub hidden : ℕ
  pub edits : Edits
  pub remaining : ℕ
  pub defined : ℕ
  pub unnamed : List (List ℕ)
  pub others : Others
  pub rules : List (List ℕ)

-- `DoesAll args failed old files new`: what the arguments ask for is done with each file in turn,
-- and nothing else. If the output has `failed`, these may be only the first files (`IsDone`).
pub record DoesAll (args : Arguments) (failed : Bool) (old : List Call) (files : List Found)
    (new : List Call) : Type 0 where
  pub done : List Found
  pub is_done : IsDone args failed files done
  pub results : List FileResult
  pub each : EachFile (DoesOne args) old (names_of done) new results

-- `ShowsAll args results others is_lost shown`: what is shown for each file comes first, then a
-- list, and then the lines of the files `others` of other names. If names are listed, the list is
-- the table of the names of all files, after their conditions whose names can't all be listed.
-- Else, if mentions are listed, it is the list of the mentions in all outputs. This list is empty
-- if no option names a symbol. Unless `is_lost`, nothing is lost of any file.
pub record ShowsAll (args : Arguments) (results : List FileResult) (others : List Found)
    (is_lost : Bool) (shown : List ℕ) : Type 0 where
  pub listed : List ℕ
  pub shown_is : shown ≡ shown_of results ++ listed ++ others_list others
  pub is_wanted : ¬ (args.task ≡ Names) → args.list_remaining ≡ false → listed ≡ []
  pub table : args.task ≡ Names → args.list_remaining ≡ false → is_lost ≡ false →
      Tabulates (names_in (listed_of results).names) (listed_of results).hidden_list listed
  pub remains : ¬ (args.task ≡ Names) → args.list_remaining ≡ true → is_lost ≡ false →
      is_searched args ≡ true → (calls : List Argument) →
      TableRepresents args.plan.run.symbols calls →
      listed ≡ list_of calls (listing_of args) args (outputs_of results)
  pub unsearched : ¬ (args.task ≡ Names) → is_searched args ≡ false → listed ≡ []
  pub none_lost : is_lost ≡ false → lost_in results ≡ false

-- `Totals args results is_lost tally`: the tally has the totals over all files, if a machine can
-- count them: of conditions whose names can't all be listed, of edited conditions, of removed
-- lines, and (unless some were lost) of conditions in all outputs that still name a symbol and of
-- lines that define one. Unless some were lost, it has the symbols that no condition of all texts
-- names, those that have a row, as each symbol of a command line has (`TellsUnnamed`).
pub record Totals (args : Arguments) (results : List FileResult) (is_lost : Bool)
    (tally : Tally) : Type 0 where
  pub hidden : (listed_of results).hidden < 2 ^ 64 → tally.hidden ≡ (listed_of results).hidden
  pub edited : edited_in results < 2 ^ 64 → tally.edits.conditions ≡ edited_in results
  pub removed : removed_in results < 2 ^ 64 → tally.edits.lines ≡ removed_in results
  pub remaining : is_lost ≡ false → is_searched args ≡ true → (calls : List Argument) →
      TableRepresents args.plan.run.symbols calls →
      count_of calls args (outputs_of results) < 2 ^ 64 →
      tally.remaining ≡ count_of calls args (outputs_of results)
  pub none_remains : is_searched args ≡ false → tally.remaining ≡ 0
  pub defined : is_lost ≡ false → is_searched args ≡ true → (calls : List Argument) →
      TableRepresents args.plan.run.symbols calls →
      defined_of calls args (outputs_of results) < 2 ^ 64 →
      tally.defined ≡ defined_of calls args (outputs_of results)
  pub none_defined : is_searched args ≡ false → tally.defined ≡ 0
  pub unnamed : is_lost ≡ false → (calls : List Argument) →
      TableRepresents args.plan.run.symbols calls →
      tally.unnamed ≡
      filter (is_listed args.plan.run.symbols) (unnamed_in calls args (texts_of results))

-- `HasStatus args in_walk results is_lost faults ending`: there is one fault for each fault of the
-- walk, each message about the output and each faulty file, if a machine can count these, and at
-- least one for each faulty file. The status depends on this number and the number of changed
-- files. It is 2 if the error stream has failed. The output has failed or is flushed.
pub record HasStatus (args : Arguments) (in_walk : ℕ) (results : List FileResult)
    (is_lost : Bool) (faults : ℕ) (ending : Ending) : Type 0 where
  pub faults_are :
      in_walk + length (output_messages is_lost ending.streams.failed) + faulty_in results
      < 2 ^ 64 → faults ≡
      in_walk + length (output_messages is_lost ending.streams.failed) + faulty_in results
  pub reported : faulty_in results ≤ faults
  pub status_is : ending.status ≡ tree_status args.task args.plan.run.settings.exit_mode
      ending.streams.unheard faults (changed_in results)
  pub flushed : ending.streams.failed ≡ false → ending.streams.unflushed ≡ false

-- `TellsAll args results is_lost tally ending`: the messages of the faulty files come first, then
-- the messages about the output, which has one if it has failed. Then come the last lines, with the
-- numbers of changed and unchanged files, and the tally, and those of the arguments of `-g`.
pub record TellsAll (args : Arguments) (results : List FileResult) (is_lost : Bool)
    (tally : Tally) (ending : Ending) : Type 0 where
  pub told_is : ending.told ≡
      told_of results ++ joined (output_messages is_lost ending.streams.failed) ++ ending.last
  pub last_is : ending.last ≡ last_lines args (changed_in results) (same_in results)
      tally.faults tally.hidden tally.edits tally.remaining tally.defined tally.unnamed
      (names_of tally.others.named.items) tally.others.unsearched ++ rule_lines args tally.rules

-- `Ends args in_walk old files new ending`: the files are processed, and then those of other names
-- are sought, unless the output had `failed` by then. The output, the last lines, the status and
-- the messages come from their results.
pub record Ends (args : Arguments) (in_walk : ℕ) (old : List Call) (files : List Found)
    (new : List Call) (ending : Ending) : Type 0 where
  pub mid : List Call
  pub does : DoesAll args ending.streams.failed old files mid
  pub is_lost : Bool
  pub tally : Tally
  pub failed : Bool
  pub stays_failed : failed ≡ true → ending.streams.failed ≡ true
  pub seeks : SeeksOthers args failed files mid new is_lost tally.others
  pub shows : ShowsAll args does.results tally.others.named.items is_lost ending.shown
  pub totals : Totals args does.results is_lost tally
  pub has_status : HasStatus args in_walk does.results is_lost tally.faults ending
  pub tells : TellsAll args does.results is_lost tally ending

-- `HasEnding is_terminal before after messages ending status`: a run that ends so has this status.
-- What is shown was written to the output, and the last lines to the error stream. If that isn't a
-- terminal, the messages and all of `told` were written, and nothing else.
pub record HasEnding (is_terminal : Bool) (before after : Moment) (messages : List (List ℕ))
    (ending : Ending) (status : ℕ) : Type 0 where
  pub status_is : status ≡ ending.status
  pub streams_are : ending.streams ≡ ends_of after.out after.err
  pub sent : Sends before.out after.out ending.shown
  pub ended : EndsWith after.err ending.last
  pub tells : is_terminal ≡ false →
      Sends before.err after.err (joined messages ++ ending.told)

-- `EndsWriting job walked before after status`: the files of the walk are processed, and all that
-- is to be written for them was written, with the lines of its arguments of `-g`.
pub record EndsWriting (job : Job) (walked : Walked) (before after : Moment) (status : ℕ) :
    Type 0 where
  pub ending : Ending
  pub ends : Ends job.arguments.now walked.faults before.calls walked.files.items after.calls ending
  pub rules_are : ends.tally.rules ≡ map (λ r. r.items) walked.rules.items
  pub written : HasEnding job.is_terminal before after [] ending status

-- `Run`: the arguments of a run, what the input has before and after it, the calls before and after
-- it, the messages of the walk, and how it ends.
pub record Run : Type 0 where
  pub args : Arguments
  pub given : Source
  pub left : Source
  pub old : List Call
  pub new : List Call
  pub messages : List (List ℕ)
  pub ending : Ending

-- `StopsEarly run`: only calls of a walk were made, with these messages. There is a reason why no
-- file follows, nothing is shown, and the status is 2.
pub record StopsEarly (run : Run) : Type 0 where
  pub walk : WalkTells run.old run.new run.messages
  pub stops : Stops run.args.from_input run.left run.messages run.ending.told
  pub unshown : run.ending.shown ≡ []
  pub no_last : run.ending.last ≡ []
  pub status_is : run.ending.status ≡ 2

-- `ProcessesFiles run`: the input was read whole, if paths come from it. The walk missed none of
-- the paths, nor of the names below them. It found some files, at least one if the paths come from
-- the command line, and the run ends after them. Its last lines have the arguments of `-g` that
-- matched nothing.
pub record ProcessesFiles (run : Run) : Type 0 where
  pub text : List ℕ
  pub mid : List Call
  pub files : List Found
  pub takes : TakesInput run.args.from_input run.given run.left text
  pub misses : MissesNone run.args text run.old mid StandsIn files (0 < length run.messages)
  pub is_walk : IsWalk run.old mid files
  pub walk : WalkTells run.old mid run.messages
  pub some : run.args.from_input ≡ false → 0 < length files
  pub ends : Ends run.args (length run.messages) mid files run.new run.ending
  pub leaves : LeavesRules run.args run.old mid (length run.messages) ends.tally.rules

-- `IsRun run`: `run` is a whole run, with files or without.
abbrev pub IsRun : Run → Type 0
IsRun run = StopsEarly run ⊎ ProcessesFiles run

-- `IsClean run`: the walk has no message, so none of its calls failed. Each file that it found was
-- processed, and none has an error. The output hasn't failed and is flushed, and the error stream
-- hasn't failed.
pub record IsClean (run : Run) : Type 0 where
  pub processes : ProcessesFiles run
  pub no_message : run.messages ≡ []
  pub all_done : processes.ends.does.done ≡ processes.files
  pub faultless : faulty_in processes.ends.does.results ≡ 0
  pub unfailed : run.ending.streams.failed ≡ false
  pub flushed : run.ending.streams.unflushed ≡ false
  pub heard : run.ending.streams.unheard ≡ false

-- `TellsUnnamed run processes`: unless some were lost, the symbols of which the last lines say that
-- no condition names them are exactly those that no condition of all texts names; none if the run
-- is quiet. After a fault the lines are left out (`unnamed_lines`).
abbrev pub TellsUnnamed : (run : Run) → ProcessesFiles run → Type 0
TellsUnnamed run processes = processes.ends.is_lost ≡ false → (calls : List Argument) →
    TableRepresents run.args.plan.run.symbols calls → processes.ends.tally.unnamed ≡
    unnamed_in calls run.args (texts_of processes.ends.does.results)

-- `RunsTree job given left before after status`: a whole run, and all that is to be written was.
pub record RunsTree (job : Job) (given left : Source) (before after : Moment) (status : ℕ) :
    Type 0 where
  pub messages : List (List ℕ)
  pub ending : Ending
  pub is_run : IsRun (record {
    args = job.arguments.now;
    given = given;
    left = left;
    old = before.calls;
    new = after.calls;
    messages = messages;
    ending = ending;
  })
  pub written : HasEnding job.is_terminal before after messages ending status
