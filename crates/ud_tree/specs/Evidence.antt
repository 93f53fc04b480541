-- Evidence: what the answers of the system show. A word of it stands for a call and its answer.
--
--   Shown M                evidence of the facts about a file
--   AreFacts S found facts   each of the facts is what the system said of it
--   Looking F N            evidence of the calls that look
--   Changing O W           evidence of the calls that change
--   is_same a b            both are the same file
--   Finds L path facts     a look at the path found the file with these facts
--   KindOf t kind          what has the system's type `t` is a `kind`
use Rattle.std.specs.Prelude.{◌≡◌, ℕ, List, Option, Result, Bool, true, ◌&&◌, ◌==◌}
use Rattle.std.specs.Fs.{IsDir, IsFile, IsSymlink}
use Rattle.std.specs.declared.fs.attrs.FileType.{FileType}
use Rattle.std.specs.declared.io.Error.{Error}
use Rattle.ud_replace.specs.declared.node.FileId.{FileId}
use Rattle.ud_replace.specs.declared.stat.FileTime.{FileTime}
use Rattle.ud_replace.specs.declared.node.NodeKind.{NodeKind}
use Rattle.ud_replace.specs.declared.node.NodeKind.TheVariants.{File, Directory, Link, Other}
use Rattle.ud_tree.specs.declared.disk.facts.Facts.{Facts}

-- `Shown M`: evidence of the facts about a file, which an answer of the system, an `M`, has.
pub record Shown (M : Type 0) : Type 1 where
  pub kind : M → NodeKind → Type 0
  pub device : M → ℕ → Type 0
  pub inode : M → ℕ → Type 0
  pub born : M → ℕ → Type 0
  pub size : M → ℕ → Type 0
  pub modified : M → FileTime → Type 0
  pub changed : M → FileTime → Type 0
  pub links : M → ℕ → Type 0
  pub mode : M → ℕ → Type 0
  pub owner : M → ℕ → Type 0
  pub group : M → ℕ → Type 0

-- `AreFacts S found facts`: each of the facts is what the answer `found` says of it.
pub record AreFacts {M : Type 0} (S : Shown M) (found : M) (facts : Facts) : Type 0 where
  pub kind : S.kind found facts.node.kind
  pub device : S.device found facts.node.id.device
  pub inode : S.inode found facts.node.id.inode
  pub born : S.born found facts.node.id.born
  pub size : S.size found facts.stat.version.size
  pub modified : S.modified found facts.stat.version.modified
  pub changed : S.changed found facts.stat.version.changed
  pub links : S.links found facts.stat.links
  pub mode : S.mode found facts.stat.mode
  pub owner : S.owner found facts.stat.owner
  pub group : S.group found facts.stat.group
  pub same_device : facts.stat.version.device ≡ facts.node.id.device
  pub same_inode : facts.stat.version.inode ≡ facts.node.id.inode

-- `Looking F N`: evidence of the calls that look. `F` are files and directories that are open for
-- reading, and `N` are the names in a directory.
pub record Looking (F N : Type 0) : Type 1 where
  -- `looked path facts`: a look at the path found these facts.
  pub looked : List ℕ → Facts → Type 0
  -- `lacks path`: a look at the path found nothing there.
  pub lacks : List ℕ → Type 0
  -- `followed path facts`: a look at what the path leads to found these facts.
  pub followed : List ℕ → Facts → Type 0
  -- `unfollowed path`: a look at what the path leads to failed.
  pub unfollowed : List ℕ → Type 0
  -- `opened file path facts`: the file was opened at the path after a look found these facts.
  pub opened : F → List ℕ → Facts → Type 0
  -- `entered file path`: a directory was opened at the path.
  pub entered : F → List ℕ → Type 0
  -- `closed path`: the user may not open the directory at the path.
  pub closed : List ℕ → Type 0
  -- `shows file facts`: these were the facts about the open file.
  pub shows : F → Facts → Type 0
  -- `numbers file path`: the path leads into the open directory by its number, if `/proc` is there.
  pub numbers : F → List ℕ → Type 0
  -- `lists names path`: these are the names in the directory at the path.
  pub lists : N → List ℕ → Type 0
  -- `unread names`: the bytes of the names that weren't read yet; `None` if unknown.
  pub unread : N → Option (List ℕ)

-- `Changing O W`: evidence of the calls that change. `O` are files that were there, open for
-- reading and writing, and `W` are new ones.
pub record Changing (O W : Type 0) : Type 1 where
  -- `updates file path facts`: the file was opened at the path after a look found these facts.
  pub updates : O → List ℕ → Facts → Type 0
  -- `shows file facts`: these were the facts about it.
  pub shows : O → Facts → Type 0
  -- `locks file`: this run has locked it.
  pub locks : O → Type 0
  -- `lacks_locks file`: its file system has no locks.
  pub lacks_locks : O → Type 0
  -- `looks_beside file path facts`: a look at the path found these facts while the file was so.
  pub looks_beside : O → List ℕ → Facts → Type 0
  -- `starts start file`: `start` is the file at its start.
  pub starts : O → O → Type 0
  -- `cuts before len file`: what followed the first `len` bytes was cut off.
  pub cuts : O → ℕ → O → Type 0
  -- `syncs file`: its bytes are on the disk.
  pub syncs : O → Type 0
  -- `creates file path`: the new file was created at the path, where there was nothing.
  pub creates : W → List ℕ → Type 0
  -- `shows_new file facts`: these were the facts about it.
  pub shows_new : W → Facts → Type 0
  -- `locks_new file`: this run has locked it.
  pub locks_new : W → Type 0
  -- `is_lockless file`: its file system has no locks.
  pub is_lockless : W → Type 0
  -- `appends before bytes count file`: so many first bytes of `bytes` were appended.
  pub appends : W → List ℕ → ℕ → W → Type 0
  -- `sets_owner file owner group answer`: setting this owner, if any, and the group was answered
  -- so.
  pub sets_owner : W → Option ℕ → ℕ → Result Unit Error → Type 0
  -- `sets_mode file mode`: this mode was set.
  pub sets_mode : W → ℕ → Type 0
  -- `syncs_new file`: its bytes are on the disk.
  pub syncs_new : W → Type 0
  -- `renames from to`: the new file at the first path was given the second one.
  pub renames : List ℕ → List ℕ → Type 0
  -- `removes path`: the file at the path was removed.
  pub removes : List ℕ → Type 0

-- `is_same a b`: both are the same file, by its device and its number there.
abbrev pub is_same : FileId → FileId → Bool
is_same a b = a.device == b.device && a.inode == b.inode

-- `Finds L path facts`: a look at the path found the file with these facts.
pub record Finds {F N : Type 0} (L : Looking F N) (path : List ℕ) (facts : Facts) : Type 0 where
  pub found : Facts
  pub look : L.looked path found
  pub same : is_same facts.node.id found.node.id ≡ true

-- `LeadsTo L shows path file`: a look at the path found the open file.
pub record LeadsTo {F N X : Type 0} (L : Looking F N) (shows : X → Facts → Type 0)
    (path : List ℕ) (file : X) : Type 0 where
  pub shown : Facts
  pub show : shows file shown
  pub finds : Finds L path shown

-- `KindOf t kind`: what has the system's type `t` is a `kind`.
abbrev pub KindOf : FileType → NodeKind → Type 0
KindOf t File = IsFile t
KindOf t Directory = IsDir t
KindOf t Link = IsSymlink t
KindOf t Other = ¬ IsFile t × ¬ IsDir t × ¬ IsSymlink t
