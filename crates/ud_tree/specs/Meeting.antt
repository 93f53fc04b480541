-- Meeting: directories as they were met, and the paths by which names in them are reached.
--
--   directory_of name            the name's directory
--   KeepsMet met met'            what was met at a path stays
--   MeetsFirst path id met met'  what was met at a path for the first time
--   IsCompared L directory met file   an open directory is the one that was met
--   Follows L path file          a look by way of a path found an open file
--   KnowsProc L finds            whether `/proc` leads to open directories
--   IsEntry L directory file entry    a path leads into an open directory
--   LeadsInto L directory file entry   a path leads into a directory
--   Enters L directory entry     the same, for some open directory
--   IsPlace L name place         a name is reached by a path
--   At L name holds              `holds` is true of such a path
--
-- `L` is the evidence (`Evidence`). `met` are the directories that were met, by their paths with a
-- slash at the end.
use Rattle.std.specs.Prelude.{◌≡◌, ℕ, List, [], ◌++◌, take, Bool, true, false}
use Rattle.std.specs.Prelude.{◌&&◌, ◌⊎◌, Option, None, Some, IsSome, IsNone, is_none}
use Rattle.std.specs.BTreeMap.{BTreeMap, get_by_text}
use Rattle.std.specs.IoError.{error_kind, raw_os_error}
use Rattle.std.specs.declared.io.Error.{Error}
use Rattle.std.specs.declared.io.ErrorKind.{ErrorKind}
use Rattle.std.specs.declared.io.ErrorKind.TheVariants.{ResourceBusy}
use Rattle.std.specs.declared.string.String.{String}
use Rattle.ud_replace.specs.declared.node.FileId.{FileId}
use Rattle.ud_tree.specs.declared.disk.facts.Facts.{Facts}
use Rattle.ud_tree.specs.Evidence.{Looking, is_same}
use Rattle.ud_tree.specs.Paths.{directory_len, last_name, slashed}

-- `directory_of name`: the name's directory, with its slash; nothing if it has none.
abbrev pub directory_of : List ℕ → List ℕ
directory_of name = take (directory_len name) name

-- `KeepsMet met met'`: what was met at a path stays what was met there.
abbrev pub KeepsMet : {Y : Type 0} → BTreeMap (String Y) FileId → BTreeMap (String Y) FileId →
    Type 0
KeepsMet met met' = (directory : List ℕ) → IsSome (get_by_text met directory) →
    get_by_text met' directory ≡ get_by_text met directory

-- `MeetsFirst path id met met'`: `id` was met at the directory `path`, unless one was met there
-- before.
abbrev pub MeetsFirst : {Y : Type 0} → List ℕ → FileId → BTreeMap (String Y) FileId →
    BTreeMap (String Y) FileId → Type 0
MeetsFirst path id met met' = IsNone (get_by_text met (slashed path)) →
    get_by_text met' (slashed path) ≡ Some id

-- `IsCompared L directory met file`: the facts about an open directory are about the one that was
-- met at its path.
pub record IsCompared {F N Y : Type 0} (L : Looking F N) (directory : List ℕ)
    (met : BTreeMap (String Y) FileId) (file : F) : Type 0 where
  pub shown : Facts
  pub id : FileId
  pub show : L.shows file shown
  pub known : get_by_text met directory ≡ Some id
  pub same : is_same id shown.node.id ≡ true

-- `Follows L path file`: what a look found by way of `path` is the open file.
pub record Follows {F N : Type 0} (L : Looking F N) (path : List ℕ) (file : F) : Type 0 where
  pub found : Facts
  pub shown : Facts
  pub follow : L.followed path found
  pub show : L.shows file shown
  pub same : is_same shown.node.id found.node.id ≡ true

-- `KnowsProc L finds`: whether `/proc` leads to open directories. A look by the number of an open
-- directory found it, or it failed or found another file.
pub data KnowsProc {F N : Type 0} (L : Looking F N) : Bool → Type 0 where
  found : (file : F) (path : List ℕ) → L.numbers file path → Follows L path file → KnowsProc L true
  failed : (file : F) (path : List ℕ) → L.numbers file path → L.unfollowed path →
      KnowsProc L false
  differs : (file : F) (path : List ℕ) (found shown : Facts) → L.numbers file path →
      L.followed path found → L.shows file shown →
      is_same shown.node.id found.node.id ≡ false → KnowsProc L false

-- `IsEntry L directory file entry`: `entry` leads into an open directory: by its number, or without
-- `/proc` as the directory's own path.
pub data IsEntry {F N : Type 0} (L : Looking F N) (directory : List ℕ) (file : F)
    (entry : List ℕ) : Type 0 where
  by_number : ∥ KnowsProc L true ∥₁ → L.numbers file entry → IsEntry L directory file entry
  by_path : ∥ KnowsProc L false ∥₁ → entry ≡ directory → IsEntry L directory file entry

-- `LeadsInto L directory file entry`: `entry` leads into the directory that was opened at the path
-- `directory`. If the user may not open it, `entry` is the path.
abbrev pub LeadsInto : {F N : Type 0} → Looking F N → List ℕ → Option F → List ℕ → Type 0
LeadsInto L directory None entry = L.closed directory × (entry ≡ directory)
LeadsInto L directory (Some file) entry = L.entered file directory × IsEntry L directory file entry

-- `Enters L directory entry`: names in `directory` are reached by `entry`.
abbrev pub Enters : {F N : Type 0} → Looking F N → List ℕ → List ℕ → Type 0
Enters {F = F} L directory entry = (file : Option F) × ∥ LeadsInto L directory file entry ∥₁

-- `IsPlace L name place`: the name is reached by `place`: in its directory, or as it is if it has
-- none.
pub data IsPlace {F N : Type 0} (L : Looking F N) (name place : List ℕ) : Type 0 where
  as_named : place ≡ name → (directory_of name ≡ []) ⊎ (last_name name ≡ []) →
      IsPlace L name place
  within : (entry : List ℕ) → Enters L (directory_of name) entry →
      place ≡ entry ++ last_name name → IsPlace L name place

-- `At L name holds`: `holds` is true of the path by which `name` is reached.
pub record At {F N : Type 0} (L : Looking F N) (name : List ℕ) (holds : List ℕ → Type 0) :
    Type 0 where
  pub place : List ℕ
  pub at : IsPlace L name place
  pub is : holds place

-- `is_busy kind`: a file is busy.
abbrev pub is_busy : ErrorKind → Bool
is_busy ResourceBusy = true
is_busy _ = false

-- `is_other_file e`: the error says that a file isn't the one expected under its name, and isn't
-- one of the system's.
abbrev pub is_other_file : Error → Bool
is_other_file e = is_busy (error_kind e) && is_none (raw_os_error e)
