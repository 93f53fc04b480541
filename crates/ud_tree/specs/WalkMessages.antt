-- WalkMessages: what a walk writes to the error stream.
--
--   is_refused w                 a look found nothing, or a call failed
--   IsRefusal w message          the message of a call that failed
--   IsRemark calls message       the message about something else that can't be taken
--   WasListed calls path         a path leads to a name in a listed directory
--   AreTold calls messages       each call that failed has its message
--   WalkTells old new messages   only calls of a walk were made, and these are their messages
--   joined messages              all messages, one after another
--   ReportsWalk calls calls' old new   the messages of a part of a walk were written and counted
--   input_message                the message if the input couldn't be read
--   Stops from_input left messages told   why no file follows a walk, and its message
--   StopsWalk from_input left calls calls' old new   a walk that no file follows
--   TakesEach given left calls calls' found told   the input was read, and each path was given
--   TakesPaths args given left calls calls' has found told   all paths are taken
--   WalksAll args given left calls calls' found old new all   a walk over all paths, or not
--   FindsFiles args given left calls calls' old new walked   a walk that found files
--   EndsWalk args given left calls calls' old new found   a walk that found files, or none
--
-- `old` and `new` are the report before and after, or the calls, the newest first. `given` and
-- `left` are what the input has before and after.
use Rattle.std.specs.Prelude.{◌≡◌, ℕ, ◌+◌, ◌<◌, ◌^◌, List, [], ◌∷◌, ◌++◌, length, map, Bool, true}
use Rattle.std.specs.Prelude.{false, not, codes, nat_eq, Option, IfSome, IfNone}
use Rattle.std.specs.List.{flat_map, list_any, Contains}
use Rattle.ud_replace.specs.declared.node.Lookup.{Lookup}
use Rattle.ud_replace.specs.declared.node.Lookup.TheVariants.{Present, Absent, Unknown}
use Rattle.ud_replace.specs.declared.node.Node.{Node}
use Rattle.ud_replace.specs.declared.node.NodeKind.TheVariants.{File, Link}
use Rattle.ud_replace.specs.Calls.{Call, walked, WalkCall, met, followed, listed}
use Rattle.ud_tree.specs.Reports.{ReportState, Tells}
use Rattle.ud_tree.specs.declared.find_files.Walked.{Walked}
use Rattle.ud_tree.specs.declared.walk.Found.{Found}
use Rattle.ud_tree.specs.Messages.{fault_line, IsFailureOf}
use Rattle.ud_tree.specs.Streams.{Source, TakesInput, ReadsWhole}
use Rattle.ud_tree.specs.declared.arguments.Arguments.{Arguments}
use Rattle.ud_replace.specs.declared.node.FileId.{FileId}
use Rattle.ud_tree.specs.Covering.{CoversInput, paths_of, IsIn, StandsIn, MissesNone}
use Rattle.ud_tree.specs.Summaries.{line_of}
use Rattle.ud_tree.specs.Unmatched.{LeavesRules}
use Rattle.ud_tree.specs.Walks.{IsWalk}

-- `is_refused w`: nothing is at the path that was looked at, or a call failed.
abbrev pub is_refused : WalkCall → Bool
is_refused (met path Absent) = true
is_refused (met path Unknown) = true
is_refused (met path (Present node)) = false
is_refused (followed path answer) = false
is_refused (listed directory names answer) = not answer

-- `IsRefusal w message`: `w` found nothing or failed, and `message` is a line with its path and the
-- failure. Or its path has a newline, and the line says what `-0` wants.
pub data IsRefusal (w : WalkCall) (message : List ℕ) : Type 0 where
  is_missing : (path : List ℕ) → w ≡ met path Absent →
      message ≡ fault_line path (codes "No such file or directory") → IsRefusal w message
  is_unknown : (path : List ℕ) → w ≡ met path Unknown →
      IsFailureOf path (codes "Cannot be found") message → IsRefusal w message
  is_unread : (directory : List ℕ) (names : List (List ℕ)) → w ≡ listed directory names false →
      IsFailureOf directory (codes "Cannot be read") message → IsRefusal w message
  is_lines : (path : List ℕ) (answer : Lookup) → w ≡ met path answer → is_refused w ≡ true →
      list_any (λ byte. nat_eq byte 10) path ≡ true → message ≡ line_of (codes
      "Nothing is at a path of several lines; -0 wants a NUL after each path (git ls-files -z)") →
      IsRefusal w message

-- `input_message`: the message if the input couldn't be read.
abbrev pub input_message : List ℕ
input_message = fault_line (codes "stdin") (codes "Cannot be read")

-- `IsRemark calls message`: `message` is a line with a path that can't be taken, and why, though no
-- call failed. `calls` met a link there that doesn't lead to a directory, or something else that
-- isn't a regular file. Or the line says that a name isn't UTF-8, or that the input couldn't be
-- read.
pub data IsRemark (calls : List WalkCall) (message : List ℕ) : Type 0 where
  is_link : (path : List ℕ) (node : Node) → Contains calls (met path (Present node)) →
      node.kind ≡ Link → Contains calls (followed path false) →
      message ≡ fault_line path (codes "Is a symbolic link") → IsRemark calls message
  is_other : (path : List ℕ) (node : Node) → Contains calls (met path (Present node)) →
      ¬ (node.kind ≡ File) → message ≡ fault_line path (codes "Is no regular file") →
      IsRemark calls message
  is_no_text : (path : List ℕ) → message ≡ fault_line path (codes "Its name isn't UTF-8") →
      IsRemark calls message
  no_input : message ≡ input_message → IsRemark calls message

-- `WasListed calls path`: one of `calls` listed a directory, and `path` leads to one of the names.
pub record WasListed (calls : List WalkCall) (path : List ℕ) : Type 0 where
  pub directory : List ℕ
  pub name : List ℕ
  pub names : List (List ℕ)
  pub answer : Bool
  pub listing : Contains calls (listed directory names answer)
  pub has : Contains names name
  pub path_is : path ≡ directory ++ name

-- `AreTold calls messages`: `messages` are the messages of a walk with these calls, the newest
-- first. Each call that failed, or found nothing, has its message, in the order of the calls. A
-- name that vanished after its directory was listed needs none. Remarks may come in between.
pub data AreTold : List WalkCall → List (List ℕ) → Type 0 where
  none_told : AreTold [] []
  then_answered : {calls : List WalkCall} {messages : List (List ℕ)} (w : WalkCall) →
      AreTold calls messages → is_refused w ≡ false → AreTold (w ∷ calls) messages
  then_refused : {calls : List WalkCall} {messages : List (List ℕ)} (w : WalkCall)
      (message : List ℕ) → AreTold calls messages → IsRefusal w message →
      AreTold (w ∷ calls) (messages ++ message ∷ [])
  then_vanished : {calls : List WalkCall} {messages : List (List ℕ)} (path : List ℕ) →
      AreTold calls messages → WasListed calls path → AreTold (met path Absent ∷ calls) messages
  then_remark : {calls : List WalkCall} {messages : List (List ℕ)} (message : List ℕ) →
      AreTold calls messages → IsRemark calls message → AreTold calls (messages ++ message ∷ [])

-- `WalkTells old new messages`: since `old`, only calls of a walk were made, and `messages` are the
-- messages of this part of the walk.
pub record WalkTells (old new : List Call) (messages : List (List ℕ)) : Type 0 where
  pub calls : List WalkCall
  pub are : new ≡ map walked calls ++ old
  pub told : AreTold calls messages

-- `joined messages`: all messages, one after another.
abbrev pub joined : List (List ℕ) → List ℕ
joined messages = flat_map (λ m. m) messages

-- `ReportsWalk calls calls' old new`: since `calls`, only calls of a walk were made, and their
-- messages were written and counted.
pub record ReportsWalk (calls calls' : List Call) (old new : ReportState) : Type 0 where
  pub messages : List (List ℕ)
  pub walk : WalkTells calls calls' messages
  pub tells : Tells old new (joined messages)
  pub counted : old.faulty + length messages < 2 ^ 64 → new.faulty ≡ old.faulty + length messages

-- `Stops from_input left messages told`: no file follows a walk with these messages. Memory ran
-- out, and a line says so. Or paths come from the input, which has failed, and the one message says
-- so. Or a path of the command line, or one below it, has a fault, reported in the messages. Or no
-- file below the paths matches, and a line says so.
pub data Stops (from_input : Bool) (left : Source) (messages : List (List ℕ))
    (told : List ℕ) : Type 0 where
  no_memory : told ≡ line_of (codes "Out of memory") → Stops from_input left messages told
  bad_input : from_input ≡ true → left.failed ≡ true → messages ≡ input_message ∷ [] →
      told ≡ [] → Stops from_input left messages told
  bad_path : from_input ≡ false → 0 < length messages → told ≡ [] →
      Stops from_input left messages told
  no_match : from_input ≡ false → told ≡ line_of (codes "No file matches") →
      Stops from_input left messages told

-- `StopsWalk from_input left calls calls' old new`: since `calls`, only calls of a walk were made.
-- Their messages were written, and why no file follows.
pub record StopsWalk (from_input : Bool) (left : Source) (calls calls' : List Call)
    (old new : ReportState) : Type 0 where
  pub messages : List (List ℕ)
  pub told : List ℕ
  pub walk : WalkTells calls calls' messages
  pub stops : Stops from_input left messages told
  pub tells : Tells old new (joined messages ++ told)

-- `TakesEach given left calls calls' found told`: the input was read whole, and each of its paths
-- was given.
pub record TakesEach (given left : Source) (calls calls' : List Call) (found : List Found)
    (told : Type 0) : Type 0 where
  pub text : List ℕ
  pub reads : ReadsWhole given left text
  pub covers : CoversInput (paths_of text) calls calls' IsIn found told

-- `TakesPaths args given left calls calls' has found told`: the input was read whole, if paths come
-- from it. Since `calls`, a whole walk missed none of the paths.
pub record TakesPaths (args : Arguments) (given left : Source) (calls calls' : List Call)
    (has : List Found → List ℕ → FileId → Type 0) (found : List Found) (told : Type 0) :
    Type 0 where
  pub text : List ℕ
  pub takes : TakesInput args.from_input given left text
  pub misses : MissesNone args text calls calls' has found told

-- `WalksAll args given left calls calls' found old new all`: if `all`, the paths are taken, and the
-- walk has found `found`. Else no file follows it.
pub record WalksAll (args : Arguments) (given left : Source) (calls calls' : List Call)
    (found : List Found) (old new : ReportState) (all : Bool) : Type 0 where
  pub takes : all ≡ true → TakesPaths args given left calls calls' IsIn found (0 < new.faulty)
  pub stops : all ≡ false → old.faulty ≡ 0 → StopsWalk args.from_input left calls calls' old new

-- `FindsFiles args given left calls calls' old new walked`: the paths are taken. Since `calls`, a
-- whole walk found the files, at least one if the paths are those of the command line. Its messages
-- were written and counted. The rules are the arguments of `-g` that the last lines have.
pub record FindsFiles (args : Arguments) (given left : Source) (calls calls' : List Call)
    (old new : ReportState) (walked : Walked) : Type 0 where
  pub is_walk : IsWalk calls calls' walked.files.items
  pub some : args.from_input ≡ false → 0 < length walked.files.items
  pub reports : ReportsWalk calls calls' old new
  pub paths : TakesPaths args given left calls calls' StandsIn walked.files.items
      (0 < length reports.messages)
  pub leaves : LeavesRules args calls calls' (length reports.messages)
      (map (λ r. r.items) walked.rules.items)
  pub faults_are : walked.faults ≡ new.faulty

-- `EndsWalk args given left calls calls' old new found`: the walk found these files, or no file
-- follows it.
pub record EndsWalk (args : Arguments) (given left : Source) (calls calls' : List Call)
    (old new : ReportState) (found : Option Walked) : Type 0 where
  pub files : IfSome found (FindsFiles args given left calls calls' old new)
  pub stops : IfNone found (StopsWalk args.from_input left calls calls' old new)
