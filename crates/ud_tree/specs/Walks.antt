-- Walks: the calls of a walk over directories, and the files that it finds.
--
--   WasMet calls f               a file was met as a regular file
--   Finds old new before found   a part of a walk, with the files found before and after
--   IsBefore f g                 the path of `f` comes before that of `g`
--   IsOtherFile f g              `f` and `g` are different files
--   IsKept files f               a found file is kept
--   IsFileList found files       the files, each once and in order
--   Key, key_of id               a file's device, number on it and time
--   key_cmp a b                  the order of keys
--   IsMarked seen f              a set has a file's key
--   HasKey files key             a file has a key
--   ArePicked seen files         the files so far, each once and in order
--   WalksOnly old new            only calls of a walk were made
--   IsWalk old new files         a whole walk, and its files
--
-- `old` and `new` are the calls before and after, the newest first.
use Rattle.std.specs.Prelude.{◌≡◌, ◌⊎◌, ℕ, List, ◌++◌, map, string_bytes}
use Rattle.std.specs.Prelude.{true}
use Rattle.std.specs.List.{All, AllPairs, Contains}
use Rattle.std.specs.Cmp.Lexicographic.{slice_cmp}
use Rattle.std.specs.BTreeSet.{BTreeSet, contains}
use Rattle.std.specs.Ordering.{nat_cmp, ordering_then}
use Rattle.std.specs.declared.cmp.Ordering.{Ordering}
use Rattle.std.specs.declared.cmp.Ordering.TheVariants.{Less}
use Rattle.ud_replace.specs.declared.node.Node.{Node}
use Rattle.ud_replace.specs.declared.node.NodeKind.TheVariants.{File}
use Rattle.ud_replace.specs.declared.node.FileId.{FileId}
use Rattle.ud_replace.specs.declared.node.Lookup.TheVariants.{Present}
use Rattle.ud_replace.specs.Calls.{Call, walked, WalkCall, met}
use Rattle.ud_tree.specs.declared.walk.Found.{Found}

-- `WasMet calls f`: one of these calls found a regular file at the path of `f`, with its identity.
pub record WasMet (calls : List WalkCall) (f : Found) : Type 0 where
  pub node : Node
  pub seen : Contains calls (met (string_bytes f.path) (Present node))
  pub is_file : node.kind ≡ File
  pub same_id : node.id ≡ f.id

-- `Finds old new before found`: since `old`, only calls of a walk were made. Each file of `found`
-- is one of `before`, or was met by one of these calls.
pub record Finds (old new : List Call) (before found : List Found) : Type 0 where
  pub calls : List WalkCall
  pub are : new ≡ map walked calls ++ old
  pub each : All (λ f. Contains before f ⊎ WasMet calls f) found

-- `IsBefore f g`: the path of `f` comes before the path of `g`, byte by byte.
abbrev pub IsBefore : Found → Found → Type 0
IsBefore f g = slice_cmp nat_cmp (string_bytes f.path) (string_bytes g.path) ≡ Less

-- `IsOtherFile f g`: `f` and `g` are different files.
abbrev pub IsOtherFile : Found → Found → Type 0
IsOtherFile f g = ¬ (f.id ≡ g.id)

-- `IsKept files f`: `files` has the file `f`, or one that has its path or is the same file.
abbrev pub IsKept : List Found → Found → Type 0
IsKept files f = (g : Found) × Contains files g ×
    ((string_bytes g.path ≡ string_bytes f.path) ⊎ (g.id ≡ f.id))

-- `IsFileList found files`: each of `files` was found, and each file found is kept. Their paths
-- ascend, and no two are the same file.
pub record IsFileList (found files : List Found) : Type 0 where
  pub from : All (Contains found) files
  pub kept : All (IsKept files) found
  pub ascend : AllPairs IsBefore files
  pub once : AllPairs IsOtherFile files

-- A device, the number of a file on it, and the time when it was created.
abbrev pub Key : Type 0
Key = ℕ × ℕ × ℕ

-- `key_of id`: the key of the file `id`.
abbrev pub key_of : FileId → Key
key_of id = (id.device, id.inode, id.born)

-- `key_cmp a b`: the order of keys.
abbrev pub key_cmp : Key → Key → Ordering
key_cmp a b = ordering_then (ordering_then (nat_cmp a.0 b.0) (nat_cmp a.1 b.1)) (nat_cmp a.2 b.2)

-- `IsMarked seen f`: `seen` has the key of `f`.
abbrev pub IsMarked : BTreeSet Key → Found → Type 0
IsMarked seen f = contains key_cmp seen (key_of f.id) ≡ true

-- `HasKey files key`: one of `files` has this key.
abbrev pub HasKey : List Found → Key → Type 0
HasKey files key = (f : Found) × Contains files f × (key_of f.id ≡ key)

-- `ArePicked seen files`: the paths of the files ascend, no two are the same file, and `seen` has
-- the key of each, and no other.
pub record ArePicked (seen : BTreeSet Key) (files : List Found) : Type 0 where
  pub ascend : AllPairs IsBefore files
  pub once : AllPairs IsOtherFile files
  pub marked : All (IsMarked seen) files
  pub only : (key : Key) → contains key_cmp seen key ≡ true → HasKey files key

-- `WalksOnly old new`: since `old`, only calls of a walk were made.
pub record WalksOnly (old new : List Call) : Type 0 where
  pub calls : List WalkCall
  pub are : new ≡ map walked calls ++ old

-- `IsWalk old new files`: since `old`, only calls of a walk were made, and they met each of `files`
-- as a regular file. The paths of the files ascend, and no two are the same file.
pub record IsWalk (old new : List Call) (files : List Found) : Type 0 where
  pub calls : List WalkCall
  pub are : new ≡ map walked calls ++ old
  pub each : All (WasMet calls) files
  pub ascend : AllPairs IsBefore files
  pub once : AllPairs IsOtherFile files
