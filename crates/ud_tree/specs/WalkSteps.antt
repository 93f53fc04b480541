-- WalkSteps: what a walk does, one step after another.
--
--   scope_of w               the paths of a walk, and its patterns
--   AreRooted w              the directories that wait are below these paths
--   Place                    what a walk looks at
--   path_of p, name_of p     its path, and what has to be UTF-8
--   IsInside p, IsNamed p    a name in a directory; a path of the command line
--   May scope p              a file there is taken
--   Opens scope p            a directory there is listed
--   Leaves scope p kind      what is there is left out
--   Marks scope p kind marks marks'   the rules that apply to what is there were marked
--   Misses p answer          a message says that nothing is there, or that this isn't known
--   Deed, deed calls files directories messages   what a part of a walk does
--   Looks scope p marks marks' d   what a look at a place does
--   Reports messages old new   at most one message was written and counted
--   State, at scope calls w report   how far a walk is
--   Gains files directories w v   files were found, and directories wait
--   FindsFile path id w v    a file was found
--   Awaits path w v          a directory waits
--   AddsFile path id w v     a file was found, or isn't chosen
--   Meets scope p node messages w v   a walk met a node
--   MeetsGiven path node w v old new   a node of the input was met
--   Look p s t               the same, with what it called and wrote
--   Reads directory answer messages   whether a listing failed, and its message
--   Listing directory names calls calls' old new   a directory was listed
--   topped d s               the state before a directory was taken from those that wait
--   Lists d names s t        this directory was listed
--   Steps todo s rest t      what a walk did from `s` to `t`
--   Loses calls calls' old new   calls were made, and memory ran out
--   Stops todo s calls new   the same, after some steps
--
-- `s` and `t` are states before and after, `w` and `v` the walk, `old` and `new` the report, and
-- `calls` and `calls'` the calls, the newest first. `todo` and `rest` are the places that the walk
-- is to look at.
use Rattle.std.specs.Prelude.{◌≡◌, ℕ, List, ◌++◌, ◌∷◌, [], map, string_bytes, Bool, true}
use Rattle.std.specs.Prelude.{false, codes, IsUtf8}
use Rattle.std.specs.List.{All, AllByRecursion}
use Rattle.ud_replace.specs.declared.node.FileId.{FileId}
use Rattle.ud_replace.specs.declared.node.Lookup.{Lookup}
use Rattle.ud_replace.specs.declared.node.Lookup.TheVariants.{Present, Absent, Unknown}
use Rattle.ud_replace.specs.declared.node.Node.{Node}
use Rattle.ud_replace.specs.declared.node.NodeKind.{NodeKind}
use Rattle.ud_replace.specs.declared.node.NodeKind.TheVariants.{File, Directory, Link, Other}
use Rattle.ud_replace.specs.Calls.{Call, walked, WalkCall, met, followed, listed}
use Rattle.ud_tree.specs.declared.walk.Found.{Found}
use Rattle.ud_tree.specs.declared.walk.Waiting.{Waiting}
use Rattle.ud_tree.specs.declared.walk.Walk.{Walk}
use Rattle.ud_tree.specs.Messages.{fault_line, IsFailureOf}
use Rattle.ud_tree.specs.Reports.{ReportState, ReportsOne}
use Rattle.ud_tree.specs.Scopes.{IsChosen, IsDirectoryPath, IsLeft, IsOpen, IsRooted, IsSkipped}
use Rattle.ud_tree.specs.Scopes.{Scope}
use Rattle.ud_tree.specs.Unmatched.{MarksNode}
use Rattle.ud_tree.specs.WalkMessages.{is_refused, IsRefusal}

-- `scope_of w`: the paths that the walk begins at, and its patterns.
abbrev pub scope_of : Walk → Scope
scope_of w = record {
  paths = map string_bytes w.paths.now;
  patterns = map string_bytes w.patterns.now;
}

-- `nowhere`: the scope of paths of the input, which has no path of the command line.
abbrev pub nowhere : Scope
nowhere = record { paths = []; patterns = [] }

-- `AreRooted w`: each directory that waits is one of the paths, or below one.
abbrev pub AreRooted : Walk → Type 0
AreRooted w = All (λ d. IsRooted (scope_of w).paths (string_bytes d.path) d.root)
    w.directories.items

-- `Place`: what a walk looks at.
pub data Place : Type 0 where
  -- `named path`: a path of the command line.
  named : List ℕ → Place
  -- `given path`: a path of the input.
  given : List ℕ → Place
  -- `inside path name`: the path of a name in a directory.
  inside : List ℕ → List ℕ → Place

-- `path_of p`: the path of the place.
abbrev pub path_of : Place → List ℕ
path_of (named path) = path
path_of (given path) = path
path_of (inside path name) = path

-- `name_of p`: the bytes at the place that have to be UTF-8.
abbrev pub name_of : Place → List ℕ
name_of (named path) = path
name_of (given path) = path
name_of (inside path name) = name

-- `IsInside p`: the place is a name in a directory.
abbrev pub IsInside : Place → Type 0
IsInside (inside path name) = Unit
IsInside p = ⊥

-- `IsNamed p`: the place is a path of the command line.
abbrev pub IsNamed : Place → Type 0
IsNamed (named path) = Unit
IsNamed p = ⊥

-- `May scope p`: a file at the place is taken: one in a directory if it is chosen.
abbrev pub May : Scope → Place → Type 0
May scope (inside path name) = IsChosen scope path
May scope p = Unit

-- `Opens scope p`: a directory at the place is listed: one in a directory if it isn't left out, and
-- none of the input.
abbrev pub Opens : Scope → Place → Type 0
Opens scope (named path) = Unit
Opens scope (given path) = ⊥
Opens scope (inside path name) = IsOpen scope path name

-- `Leaves scope p kind`: what is at the place is left out: in a directory all but what is taken
-- or listed; of the input, directories and links.
abbrev pub Leaves : Scope → Place → NodeKind → Type 0
Leaves scope (named path) kind = ⊥
Leaves scope (given path) Directory = Unit
Leaves scope (given path) Link = Unit
Leaves scope (given path) kind = ⊥
Leaves scope (inside path name) File = IsLeft scope path
Leaves scope (inside path name) Directory = IsSkipped scope path name
Leaves scope (inside path name) kind = Unit

-- `Marks scope p kind marks marks'`: in a directory, the rules were marked that apply to what is
-- at the place. Elsewhere none was.
abbrev pub Marks : Scope → Place → NodeKind → List Bool → List Bool → Type 0
Marks scope (inside path name) kind marks marks' = MarksNode scope path kind marks marks'
Marks scope p kind marks marks' = marks' ≡ marks

-- `Misses p answer`: nothing is at the place, or that isn't known, and a message says so. A name
-- that vanished from its directory has none.
abbrev pub Misses : Place → Lookup → Type 0
Misses p Unknown = Unit
Misses (inside path name) Absent = ⊥
Misses p Absent = Unit
Misses p (Present node) = ⊥

-- `Deed`: what a part of a walk does: its calls, the newest first, the files that it finds, the
-- directories that wait from then on, and its messages.
pub record Deed : Type 0 where
  pub calls : List WalkCall
  pub files : List Found
  pub directories : List Waiting
  pub messages : List (List ℕ)

-- `deed calls files directories messages`: these.
abbrev pub deed : List WalkCall → List Found → List Waiting → List (List ℕ) → Deed
deed calls files directories messages = record {
  calls = calls;
  files = files;
  directories = directories;
  messages = messages;
}

-- `Looks scope p marks marks' d`: a look at the place does `d`.
pub data Looks (scope : Scope) (p : Place) (marks marks' : List Bool) : Deed → Type 0 where
  is_unmet : (answer : Lookup) (message : List ℕ) → Misses p answer →
      IsRefusal (met (path_of p) answer) message → marks' ≡ marks →
      Looks scope p marks marks' (deed (met (path_of p) answer ∷ []) [] [] (message ∷ []))
  is_vanished : IsInside p → marks' ≡ marks →
      Looks scope p marks marks' (deed (met (path_of p) Absent ∷ []) [] [] [])
  is_bytes : (shown : List ℕ) → ¬ (IsUtf8 (name_of p)) → marks' ≡ marks →
      Looks scope p marks marks'
      (deed [] [] [] (fault_line shown (codes "Its name isn't UTF-8") ∷ []))
  is_file : (node : Node) (f : Found) → node.kind ≡ File → string_bytes f.path ≡ path_of p →
      f.id ≡ node.id → May scope p → Marks scope p node.kind marks marks' →
      Looks scope p marks marks' (deed (met (path_of p) (Present node) ∷ []) (f ∷ []) [] [])
  is_directory : (node : Node) (d : Waiting) → node.kind ≡ Directory →
      IsDirectoryPath (path_of p) (string_bytes d.path) →
      IsRooted scope.paths (string_bytes d.path) d.root → Opens scope p →
      Marks scope p node.kind marks marks' →
      Looks scope p marks marks' (deed (met (path_of p) (Present node) ∷ []) [] (d ∷ []) [])
  is_left : (node : Node) → Leaves scope p node.kind → Marks scope p node.kind marks marks' →
      Looks scope p marks marks' (deed (met (path_of p) (Present node) ∷ []) [] [] [])
  leads_in : (node : Node) (d : Waiting) → IsNamed p → node.kind ≡ Link →
      IsDirectoryPath (path_of p) (string_bytes d.path) →
      IsRooted scope.paths (string_bytes d.path) d.root → marks' ≡ marks →
      Looks scope p marks marks' (deed
      (followed (path_of p) true ∷ met (path_of p) (Present node) ∷ []) [] (d ∷ []) [])
  leads_nowhere : (node : Node) → IsNamed p → node.kind ≡ Link → marks' ≡ marks →
      Looks scope p marks marks' (deed
      (followed (path_of p) false ∷ met (path_of p) (Present node) ∷ []) [] []
      (fault_line (path_of p) (codes "Is a symbolic link") ∷ []))
  is_no_file : (node : Node) → ¬ (IsInside p) → node.kind ≡ Other → marks' ≡ marks →
      Looks scope p marks marks' (deed (met (path_of p) (Present node) ∷ []) [] []
      (fault_line (path_of p) (codes "Is no regular file") ∷ []))

-- `Reports messages old new`: nothing was written, or the one message was written and counted.
pub data Reports (old new : ReportState) : List (List ℕ) → Type 0 where
  is_silent : new ≡ old → Reports old new []
  is_told : (message : List ℕ) → ReportsOne message old new → Reports old new (message ∷ [])

-- `State`: how far a walk is: the calls so far, the files found, the directories that wait, the
-- marks of the rules, and the report.
pub record State : Type 0 where
  pub scope : Scope
  pub calls : List Call
  pub found : List Found
  pub waiting : List Waiting
  pub marks : List Bool
  pub report : ReportState

-- `at scope calls w report`: the state of a walk in this scope.
abbrev pub at : Scope → List Call → Walk → ReportState → State
at scope calls w report = record {
  scope = scope;
  calls = calls;
  found = w.found.items;
  waiting = w.directories.items;
  marks = w.marks.items;
  report = report;
}

-- `Gains files directories w v`: the walk found these files, and these directories wait.
pub record Gains (files : List Found) (directories : List Waiting) (w v : Walk) : Type 0 where
  pub scope : scope_of v ≡ scope_of w
  pub found : v.found.items ≡ w.found.items ++ files
  pub waits : v.directories.items ≡ w.directories.items ++ directories

-- `FindsFile path id w v`: the walk found the file with this path and identity.
pub record FindsFile (path : List ℕ) (id : FileId) (w v : Walk) : Type 0 where
  pub file : Found
  pub has_path : string_bytes file.path ≡ path
  pub has_id : file.id ≡ id
  pub gains : Gains (file ∷ []) [] w v
  pub marks : v.marks.items ≡ w.marks.items

-- `Awaits path w v`: the directory at the path waits to be listed.
pub record Awaits (path : List ℕ) (w v : Walk) : Type 0 where
  pub directory : Waiting
  pub has_path : IsDirectoryPath path (string_bytes directory.path)
  pub rooted : IsRooted (scope_of w).paths (string_bytes directory.path) directory.root
  pub gains : Gains [] (directory ∷ []) w v
  pub marks : v.marks.items ≡ w.marks.items

-- `AddsFile path id w v`: the file is chosen, and was found. Or it isn't chosen.
pub data AddsFile (path : List ℕ) (id : FileId) (w v : Walk) : Type 0 where
  adds_file : IsChosen (scope_of w) path → FindsFile path id w v → AddsFile path id w v
  adds_none : IsLeft (scope_of w) path → v ≡ w → AddsFile path id w v

-- `Meets scope p node messages w v`: a look at the place met the node, with these messages, and
-- makes the walk `v` of `w`.
pub record Meets (scope : Scope) (p : Place) (node : Node) (messages : List (List ℕ))
    (w v : Walk) : Type 0 where
  pub files : List Found
  pub directories : List Waiting
  pub gains : Gains files directories w v
  pub looks : Looks scope p w.marks.items v.marks.items
      (deed (met (path_of p) (Present node) ∷ []) files directories messages)

-- `MeetsGiven path node w v old new`: so it does of `w`, where the node is at a path of the input,
-- and its message was written.
pub record MeetsGiven (path : List ℕ) (node : Node) (w v : Walk) (old new : ReportState) :
    Type 0 where
  pub messages : List (List ℕ)
  pub meets : Meets nowhere (given path) node messages w v
  pub told : Reports old new messages

-- `Look p s t`: the walk looked at the place.
pub record Look (p : Place) (s t : State) : Type 0 where
  pub does : Deed
  pub called : t.calls ≡ map walked does.calls ++ s.calls
  pub told : Reports s.report t.report does.messages
  pub scope : t.scope ≡ s.scope
  pub found : t.found ≡ s.found ++ does.files
  pub waits : t.waiting ≡ s.waiting ++ does.directories
  pub looks : Looks s.scope p s.marks t.marks does

-- `Reads directory answer messages`: the directory was read whole. Or a call failed, and the
-- message says so.
pub data Reads (directory : List ℕ) : Bool → List (List ℕ) → Type 0 where
  is_whole : Reads directory true []
  is_cut : (message : List ℕ) → IsFailureOf directory (codes "Cannot be read") message →
      Reads directory false (message ∷ [])

-- `Listing directory names calls calls' old new`: the directory was listed, and these are the
-- names, or some of them.
pub record Listing (directory : List ℕ) (names : List (List ℕ)) (calls calls' : List Call)
    (old new : ReportState) : Type 0 where
  pub answer : Bool
  pub messages : List (List ℕ)
  pub called : calls' ≡ walked (listed directory names answer) ∷ calls
  pub told : Reports old new messages
  pub reads : Reads directory answer messages

-- `topped d s`: the state `s`, before the directory was taken from those that wait.
abbrev pub topped : Waiting → State → State
topped d s = record s { waiting = s.waiting ++ d ∷ [] }

-- `Lists d names s t`: the directory that waited last was listed.
pub record Lists (d : Waiting) (names : List (List ℕ)) (s t : State) : Type 0 where
  pub listing : Listing (string_bytes d.path) names s.calls t.calls s.report t.report
  pub scope : t.scope ≡ s.scope
  pub found : t.found ≡ s.found
  pub marks : t.marks ≡ s.marks
  pub waits : s.waiting ≡ t.waiting ++ d ∷ []

-- `places_in d names`: the places of these names in the directory.
abbrev pub places_in : Waiting → List (List ℕ) → List Place
places_in d names = map (λ name. inside (string_bytes d.path ++ name) name) names

-- `Steps todo s rest t`: from `s` to `t`, the walk looked at the places of `todo` in turn, up to
-- `rest`. When it lists a directory, its names come first.
pub data Steps (todo : List Place) (s : State) : List Place → State → Type 0 where
  no_step : Steps todo s todo s
  then_look : {p : Place} {rest : List Place} {t u : State} → Steps todo s (p ∷ rest) t →
      Look p t u → Steps todo s rest u
  then_list : {d : Waiting} {names : List (List ℕ)} {rest : List Place} {t u : State} →
      Steps todo s rest t → Lists d names t u → Steps todo s (places_in d names ++ rest) u

-- `Loses calls calls' old new`: calls of a walk were made and didn't fail, and memory ran out.
pub record Loses (calls calls' : List Call) (old new : ReportState) : Type 0 where
  pub lost : List WalkCall
  pub fine : AllByRecursion (λ w. is_refused w ≡ false) lost
  pub called : calls' ≡ map walked lost ++ calls
  pub same : new ≡ old

-- `Stops todo s calls new`: the walk went on from `s`, and memory ran out.
pub record Stops (todo : List Place) (s : State) (calls : List Call) (new : ReportState) :
    Type 0 where
  pub rest : List Place
  pub last : State
  pub steps : Steps todo s rest last
  pub loses : Loses last.calls calls last.report new
