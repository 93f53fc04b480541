-- Opening: what is known of a file that was opened or read, by the evidence of the system's calls.
--
-- `L` and `C` are the evidence (`Evidence`). `rest file` is what is still to be read of a file that
-- is open for reading, and `again file` of one that is open for writing, too.
use Rattle.std.specs.Prelude.{◌≡◌, ◌⊎◌, ℕ, List, true, Option}
use Rattle.ud_replace.specs.declared.node.NodeKind.TheVariants.{File}
use Rattle.ud_replace.specs.declared.stat.FileStat.{FileStat}
use Rattle.ud_tree.specs.declared.disk.facts.Facts.{Facts}
use Rattle.ud_tree.specs.Evidence.{Looking, Changing, LeadsTo, is_same}
use Rattle.ud_tree.specs.Reading.{ReadsAll}

-- `IsFound L path stat`: a look at `path` found a regular file, with the facts `stat`.
pub record IsFound {F N : Type 0} (L : Looking F N) (path : List ℕ) (stat : FileStat) :
    Type 0 where
  pub found : Facts
  pub look : L.looked path found
  pub regular : found.node.kind ≡ File
  pub facts : stat ≡ found.stat

-- `Shows shows found file`: the facts about an open file are about the one that was found.
pub record Shows {X : Type 0} (shows : X → Facts → Type 0) (found : Facts) (file : X) :
    Type 0 where
  pub shown : Facts
  pub show : shows file shown
  pub same : is_same shown.node.id found.node.id ≡ true

-- `IsRead L rest path text stat`: a regular file was found at `path`, with the facts `stat`; this
-- file was opened there, and `text` is what it has.
pub record IsRead {F N : Type 0} (L : Looking F N) (rest : F → Option (List ℕ))
    (path text : List ℕ) (stat : FileStat) : Type 0 where
  pub file : F
  pub after : F
  pub found : Facts
  pub opens : L.opened file path found
  pub shown : Shows L.shows found file
  pub regular : found.node.kind ≡ File
  pub facts : stat ≡ found.stat
  pub reads : ReadsAll (rest file) (rest after) stat.version.size text

-- `IsReadAgain L C again path text stat`: a look at `path` found a regular file, with the facts
-- `stat`; this file is open, and `text` is what it has from its start on. This run has locked it,
-- unless its file system has no locks.
pub record IsReadAgain {F N O W : Type 0} (L : Looking F N) (C : Changing O W)
    (again : O → Option (List ℕ)) (path text : List ℕ) (stat : FileStat) : Type 0 where
  pub file : O
  pub start : O
  pub after : O
  pub found : Facts
  pub look : L.looked path found
  pub shown : Shows C.shows found file
  pub held : C.locks file ⊎ C.lacks_locks file
  pub regular : found.node.kind ≡ File
  pub facts : stat ≡ found.stat
  pub starts_at : C.starts start file
  pub reads : ReadsAll (again start) (again after) stat.version.size text

-- `HasRead L C rest again path text stat`: a regular file was opened at `path` and read (`IsRead`),
-- or the open one was read again (`IsReadAgain`).
abbrev pub HasRead : {F N O W : Type 0} → Looking F N → Changing O W → (F → Option (List ℕ)) →
    (O → Option (List ℕ)) → List ℕ → List ℕ → FileStat → Type 0
HasRead L C rest again path text stat =
    IsRead L rest path text stat ⊎ IsReadAgain L C again path text stat

-- `OpensToWrite L C path file`: `file` was opened for reading and writing after a look at `path`
-- found a regular file, and a look at `path` found this file.
pub record OpensToWrite {F N O W : Type 0} (L : Looking F N) (C : Changing O W) (path : List ℕ)
    (file : O) : Type 0 where
  pub found : Facts
  pub update : C.updates file path found
  pub regular : found.node.kind ≡ File
  pub leads : LeadsTo L C.shows path file
