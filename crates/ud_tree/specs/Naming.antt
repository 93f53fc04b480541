-- Naming: what is known of paths, names in directories and new names, by the evidence of the
-- system's calls.
use Rattle.std.specs.Prelude.{◌≡◌, ◌⊎◌, ℕ, List, Bool, true, false, filter, bytes_eq, codes, not}
use Rattle.std.specs.Prelude.{◌&&◌, IsSome}
use Rattle.std.specs.BTreeMap.{BTreeMap, get_by_text}
use Rattle.std.specs.Io.KnownBytes.{Consumes, IsAtEnd}
use Rattle.std.specs.declared.string.String.{String}
use Rattle.ud_replace.specs.declared.node.FileId.{FileId}
use Rattle.ud_replace.specs.declared.node.Lookup.{Lookup}
use Rattle.ud_replace.specs.declared.node.Lookup.TheVariants.{Present, Absent, Unknown}
use Rattle.ud_replace.specs.declared.node.Node.{Node}
use Rattle.ud_replace.specs.declared.node.NodeKind.{NodeKind}
use Rattle.ud_replace.specs.declared.node.NodeKind.TheVariants.{Directory}
use Rattle.ud_tree.specs.declared.disk.facts.Facts.{Facts}
use Rattle.ud_tree.specs.Covering.{paths_of}
use Rattle.ud_tree.specs.Evidence.{Looking, Changing}
use Rattle.ud_tree.specs.Meeting.{At, Enters, IsPlace, directory_of}
use Rattle.ud_tree.specs.Paths.{slashed}

-- `IsRenamed L C from to`: the file at the place of `from` was given the place of `to`.
pub record IsRenamed {F N O W : Type 0} (L : Looking F N) (C : Changing O W)
    (from to : List ℕ) : Type 0 where
  pub source : List ℕ
  pub target : List ℕ
  pub from_place : IsPlace L from source
  pub to_place : IsPlace L to target
  pub moved : C.renames source target

-- `Sees L node place`: a look at the path `place` found this.
pub record Sees {F N : Type 0} (L : Looking F N) (node : Node) (place : List ℕ) : Type 0 where
  pub found : Facts
  pub look : L.looked place found
  pub is : node ≡ found.node

-- `IsMet L path answer`: a look at the place of `path` found this, or nothing, or its directory
-- wasn't there.
abbrev pub IsMet : {F N : Type 0} → Looking F N → List ℕ → Lookup → Type 0
IsMet L path (Present node) = At L path (Sees L node)
IsMet L path Absent = At L path L.lacks ⊎ L.lacks (directory_of path)
IsMet L path Unknown = Unit {0}

-- `is_directory kind`: it is a directory.
abbrev pub is_directory : NodeKind → Bool
is_directory Directory = true
is_directory _ = false

-- `MeetsFound path answer met`: if a directory was found at the path, one was met there.
abbrev pub MeetsFound : {Y : Type 0} → List ℕ → Lookup → BTreeMap (String Y) FileId → Type 0
MeetsFound path (Present node) met =
    is_directory node.kind ≡ true → IsSome (get_by_text met (slashed path))
MeetsFound path Absent met = Unit {0}
MeetsFound path Unknown met = Unit {0}

-- `LeadsToDirectory L answer place`: `answer` says whether a look by way of the path `place` found
-- a directory.
pub record LeadsToDirectory {F N : Type 0} (L : Looking F N) (answer : Bool)
    (place : List ℕ) : Type 0 where
  pub found : Facts
  pub follow : L.followed place found
  pub is : answer ≡ is_directory found.node.kind

-- `is_proper name`: the name is neither that of a directory itself nor that of its parent.
abbrev pub is_proper : List ℕ → Bool
is_proper name = not (bytes_eq name (codes ".")) && not (bytes_eq name (codes ".."))

-- `proper_names packed`: the names that are each ended by a NUL, but for these two.
abbrev pub proper_names : List ℕ → List (List ℕ)
proper_names packed = filter is_proper (paths_of packed)

-- `IsListed L directory names`: these are all the names in the directory.
pub record IsListed {F N : Type 0} (L : Looking F N) (directory : List ℕ)
    (names : List (List ℕ)) : Type 0 where
  pub place : List ℕ
  pub reader : N
  pub after : N
  pub packed : List ℕ
  pub at : Enters L directory place
  pub list : L.lists reader place
  pub consumed : Consumes (L.unread reader) (L.unread after) packed
  pub ended : IsAtEnd (L.unread after)
  pub proper : names ≡ proper_names packed
