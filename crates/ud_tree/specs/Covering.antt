-- Covering: what happens to each path and each name that a walk meets, so that it misses none.
--
--   WasEntered calls directory       a directory was listed
--   IsDue calls directories path      a directory was listed, or is waiting
--   Begins calls due has path     a path of the command line can be taken
--   Visits scope calls due told directory name   what happened to a name in a directory
--   VisitsAll scope calls due told   `Visits` for each name in each listed directory
--   IsIn found path id            a file was found
--   StandsIn files path id        a list has this file, or the same one at another path
--   Gives calls has told path     what happened to a path of the input
--   own_path path                 a path, unless it is empty
--   paths_after path text, paths_of text   the paths of the input
--   IsAllowed scope paths f    a walk from these paths may take a file
--   CoversPaths scope old new has found told   a whole walk from the command line's paths
--   CoversInput paths old new has found told   a whole walk from the input's paths
--   MissesNone args text old new has found told   a whole walk from the arguments' paths
--
-- `calls` are the calls of a walk, the newest first. `due path` says that a directory was listed or
-- is waiting, `has path id` (`has found path id`) that a file was found, and `told` that the walk
-- has a message.
use Rattle.std.specs.Prelude.{◌≡◌, ◌⊎◌, ℕ, List, [], ◌∷◌, ◌++◌, Bool, true, false, IsUtf8}
use Rattle.std.specs.Prelude.{string_bytes, map, length, ◌+◌, ◌<◌, ◌^◌, ◌==◌, if◌then◌else◌}
use Rattle.std.specs.List.{All, Contains}
use Rattle.ud_replace.specs.declared.node.FileId.{FileId}
use Rattle.ud_replace.specs.declared.node.Lookup.{Lookup}
use Rattle.ud_replace.specs.declared.node.Lookup.TheVariants.{Present}
use Rattle.ud_replace.specs.declared.node.Node.{Node}
use Rattle.ud_replace.specs.declared.node.NodeKind.TheVariants.{File, Directory, Link}
use Rattle.ud_replace.specs.declared.node.NodeKind.TheVariants.{Other}
use Rattle.ud_replace.specs.Calls.{Call, walked, WalkCall, met, followed, listed}
use Rattle.ud_tree.specs.declared.arguments.Arguments.{Arguments}
use Rattle.ud_tree.specs.declared.walk.Found.{Found}
use Rattle.ud_tree.specs.Scopes.{Scope, scope_in, IsChosen, IsLeft, IsOpen, IsSkipped}
pub use Rattle.ud_tree.specs.Scopes.{IsDirectoryPath}

-- `WasEntered calls directory`: one of `calls` listed the directory.
abbrev pub WasEntered : List WalkCall → List ℕ → Type 0
WasEntered calls directory =
    (names : List (List ℕ)) × (answer : Bool) × Contains calls (listed directory names answer)

-- `IsDue calls directories path`: the directory `path` was listed, or is one of `directories`,
-- which wait.
abbrev pub IsDue : List WalkCall → List (List ℕ) → List ℕ → Type 0
IsDue calls directories path = (directory : List ℕ) × IsDirectoryPath path directory ×
    (WasEntered calls directory ⊎ Contains directories directory)

-- `Begins calls due has path`: `path` was met as a regular file, and was found, whatever its name.
-- Or it was met as a directory, or as a link that leads to one, and that is due.
pub data Begins (calls : List WalkCall) (due : List ℕ → Type 0) (has : List ℕ → FileId → Type 0)
    (path : List ℕ) : Type 0 where
  at_file : (node : Node) → Contains calls (met path (Present node)) → node.kind ≡ File →
      has path node.id → Begins calls due has path
  at_directory : (node : Node) → Contains calls (met path (Present node)) → node.kind ≡ Directory →
      due path → Begins calls due has path
  at_link : (node : Node) → Contains calls (met path (Present node)) → node.kind ≡ Link →
      Contains calls (followed path true) → due path → Begins calls due has path

-- `Visits scope calls due told directory name`: `name` isn't UTF-8, and a message says so. Or it
-- was looked at. If it is a directory, it is left out, or it isn't and is due.
pub data Visits (scope : Scope) (calls : List WalkCall) (due : List ℕ → Type 0)
    (told : Type 0) (directory name : List ℕ) : Type 0 where
  no_text : ¬ (IsUtf8 name) → told → Visits scope calls due told directory name
  was_met : (answer : Lookup) → Contains calls (met (directory ++ name) answer) →
      ((node : Node) → answer ≡ Present node → node.kind ≡ Directory →
      IsSkipped scope (directory ++ name) name ⊎
      (IsOpen scope (directory ++ name) name × due (directory ++ name))) →
      Visits scope calls due told directory name

-- `VisitsAll scope calls due told`: each name in each listed directory was visited.
abbrev pub VisitsAll : Scope → List WalkCall → (List ℕ → Type 0) → Type 0 → Type 0
VisitsAll scope calls due told =
    (directory : List ℕ) (names : List (List ℕ)) (answer : Bool) →
    Contains calls (listed directory names answer) →
    All (Visits scope calls due told directory) names

-- `IsIn found path id`: `found` has a file with this path and identity.
abbrev pub IsIn : List Found → List ℕ → FileId → Type 0
IsIn found path id = (f : Found) × Contains found f × (string_bytes f.path ≡ path) × (f.id ≡ id)

-- `StandsIn files path id`: `files` has a file with this path, or one that is the same file.
abbrev pub StandsIn : List Found → List ℕ → FileId → Type 0
StandsIn files path id =
    (g : Found) × Contains files g × ((string_bytes g.path ≡ path) ⊎ (g.id ≡ id))

-- `Gives calls has told path`: `path` isn't UTF-8, and a message says so. Or it was looked at, and
-- was found if it is a regular file. If it is neither a file nor a directory nor a link, a message
-- says so.
pub data Gives (calls : List WalkCall) (has : List ℕ → FileId → Type 0) (told : Type 0)
    (path : List ℕ) : Type 0 where
  no_path_text : ¬ (IsUtf8 path) → told → Gives calls has told path
  was_given : (answer : Lookup) → Contains calls (met path answer) →
      ((node : Node) → answer ≡ Present node → node.kind ≡ File → has path node.id) →
      ((node : Node) → answer ≡ Present node → node.kind ≡ Other → told) →
      Gives calls has told path

-- `own_path path`: `path`, unless it is empty.
abbrev pub own_path : List ℕ → List (List ℕ)
own_path [] = []
own_path (b ∷ path) = (b ∷ path) ∷ []

-- `paths_after path text`: the paths of the rest `text` of the input, after the bytes `path` of
-- one. Each path ends before a null byte, or at the end.
abbrev pub paths_after : List ℕ → List ℕ → List (List ℕ)
paths_after path [] = own_path path
paths_after path (b ∷ text) = if b == 0 then own_path path ++ paths_after [] text
    else paths_after (path ++ b ∷ []) text

-- `paths_of text`: the paths of the input `text`.
abbrev pub paths_of : List ℕ → List (List ℕ)
paths_of text = paths_after [] text

-- `IsAllowed scope paths f`: the path of `f` is one of `paths`, or the rules choose it.
abbrev pub IsAllowed : Scope → List (List ℕ) → Found → Type 0
IsAllowed scope paths f =
    Contains paths (string_bytes f.path) ⊎ IsChosen scope (string_bytes f.path)

-- `CoversPaths scope old new has found told`: since `old`, only calls of a walk were made. Each
-- path of the command line can be taken, and was found if it is a regular file. Each name in each
-- listed directory was visited. Each directory that is due was listed, unless there were more calls
-- than a machine counts. Each regular file met was found, or the rules don't choose it. Each file
-- of `found` is at a path of the command line, or the rules choose it.
pub record CoversPaths (scope : Scope) (old new : List Call)
    (has : List Found → List ℕ → FileId → Type 0) (found : List Found) (told : Type 0) :
    Type 0 where
  pub calls : List WalkCall
  pub are : new ≡ map walked calls ++ old
  pub waiting : List (List ℕ)
  pub all_listed : length calls + 1 < 2 ^ 64 → waiting ≡ []
  pub begins : All (Begins calls (IsDue calls waiting) (has found)) scope.paths
  pub visits : VisitsAll scope calls (IsDue calls waiting) told
  pub taken : (path : List ℕ) (node : Node) → Contains calls (met path (Present node)) →
      node.kind ≡ File → has found path node.id ⊎ IsLeft scope path
  pub allowed : All (IsAllowed scope scope.paths) found

-- `CoversInput paths old new has found told`: since `old`, only calls of a walk were made, and each
-- of `paths` was given. Each file of `found` is at one of them.
pub record CoversInput (paths : List (List ℕ)) (old new : List Call)
    (has : List Found → List ℕ → FileId → Type 0) (found : List Found) (told : Type 0) :
    Type 0 where
  pub calls : List WalkCall
  pub are : new ≡ map walked calls ++ old
  pub gives : All (Gives calls (has found) told) paths
  pub allowed : All (λ f. Contains paths (string_bytes f.path)) found

-- `MissesNone args text old new has found told`: the paths come from the command line, and are
-- covered. Or they come from the input `text`, and each was given.
pub data MissesNone (args : Arguments) (text : List ℕ) (old new : List Call)
    (has : List Found → List ℕ → FileId → Type 0) (found : List Found) (told : Type 0) :
    Type 0 where
  misses_no_path : args.from_input ≡ false →
      CoversPaths (scope_in args) old new has found told →
      MissesNone args text old new has found told
  misses_no_input : args.from_input ≡ true →
      CoversInput (paths_of text) old new has found told →
      MissesNone args text old new has found told
