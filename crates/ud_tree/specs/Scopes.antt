-- Scopes: what a walk from the paths of the command line takes, by the rules of `-g`.
--
--   Scope                    the paths of the command line, and the arguments of `-g`
--   scope_in args            those of a run
--   IsDirectoryPath path directory   `directory` is `path`, with a slash at its end
--   IsRooted paths path root   a path begins with one of the command line
--   IsBelow paths path below   the part of a path below one of the command line
--   IsChosen scope path      the file at this path is chosen
--   IsLeft scope path        the file at this path isn't chosen
--   IsSkipped scope path name   the directory at this path is left out
--   IsOpen scope path name   the directory at this path isn't left out
--
-- Example: if the command line names `src`, the path `src/lib/a.c` is `lib/a.c` below it, which the
-- pattern `lib/*.c` matches.
use Rattle.std.specs.Prelude.{◌≡◌, ℕ, ◌≤◌, List, ◌++◌, length, map, take, true, false}
use Rattle.std.specs.Prelude.{string_bytes}
use Rattle.std.specs.List.{Contains}
use Rattle.ud_tree.specs.Choices.{Chooses, LeavesOut}
use Rattle.ud_tree.specs.Paths.{slashed}
use Rattle.ud_tree.specs.declared.arguments.Arguments.{Arguments}

-- `Scope`: the paths of the command line, and the arguments of `-g`.
pub record Scope : Type 0 where
  pub paths : List (List ℕ)
  pub patterns : List (List ℕ)

-- `scope_in args`: the paths and the patterns of the arguments.
abbrev pub scope_in : Arguments → Scope
scope_in args = record {
  paths = map string_bytes args.paths.items;
  patterns = map string_bytes args.patterns.items;
}

-- `IsDirectoryPath path directory`: `directory` is `path`, with a slash at its end.
abbrev pub IsDirectoryPath : List ℕ → List ℕ → Type 0
IsDirectoryPath path directory = directory ≡ slashed path

-- `IsRooted paths path root`: the first `root` bytes of the path are one of `paths`, as a
-- directory.
pub record IsRooted (paths : List (List ℕ)) (path : List ℕ) (root : ℕ) : Type 0 where
  pub named : List ℕ
  pub given : Contains paths named
  pub is_root : IsDirectoryPath named (take root path)
  pub within : root ≤ length path

-- `IsBelow paths path below`: `below` is the part of the path below one of `paths`.
pub record IsBelow (paths : List (List ℕ)) (path below : List ℕ) : Type 0 where
  pub named : List ℕ
  pub given : Contains paths named
  pub directory : List ℕ
  pub is_directory : IsDirectoryPath named directory
  pub whole : path ≡ directory ++ below

-- `IsChosen scope path`: the rules choose the file, by its path below one of the command line.
abbrev pub IsChosen : Scope → List ℕ → Type 0
IsChosen scope path =
    (below : List ℕ) × IsBelow scope.paths path below × Chooses scope.patterns below true

-- `IsLeft scope path`: the rules don't choose the file, by its path below one of the command line.
abbrev pub IsLeft : Scope → List ℕ → Type 0
IsLeft scope path =
    (below : List ℕ) × IsBelow scope.paths path below × Chooses scope.patterns below false

-- `IsSkipped scope path name`: the directory has earlier texts, or a rule leaves it out, by its
-- path below one of the command line.
abbrev pub IsSkipped : Scope → List ℕ → List ℕ → Type 0
IsSkipped scope path name =
    (below : List ℕ) × IsBelow scope.paths path below × LeavesOut scope.patterns below name

-- `IsOpen scope path name`: the directory has none, and no rule leaves it out.
abbrev pub IsOpen : Scope → List ℕ → List ℕ → Type 0
IsOpen scope path name =
    (below : List ℕ) × IsBelow scope.paths path below × ¬ (LeavesOut scope.patterns below name)
