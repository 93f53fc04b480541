-- Creating: what is known of a new file, by the evidence of the system's calls.
use Rattle.std.specs.Prelude.{ℕ, List, ◌⊎◌}
use Rattle.std.specs.declared.io.ErrorKind.{ErrorKind}
use Rattle.std.specs.declared.io.ErrorKind.TheVariants.{PermissionDenied}
use Rattle.std.specs.declared.io.ErrorKind.TheVariants.{ReadOnlyFilesystem, AlreadyExists}
use Rattle.ud_replace.specs.declared.directory.CreateError.{CreateError}
use Rattle.ud_replace.specs.declared.directory.CreateError.TheVariants.{Denied, Taken, Failed}
use Rattle.ud_tree.specs.declared.disk.facts.Facts.{Facts}
use Rattle.ud_tree.specs.Evidence.{Changing}
use Rattle.ud_tree.specs.Opening.{Shows}

-- `IsNew C path file`: `file` was created at `path`, where there was nothing. This run has locked
-- it, unless its file system has no locks.
pub record IsNew {O W : Type 0} (C : Changing O W) (path : List ℕ) (file : W) : Type 0 where
  pub made : C.creates file path
  pub held : C.locks_new file ⊎ C.is_lockless file

-- `IsLeftOver C path file`: this run has locked `file`, and a look at `path` found it after that.
pub record IsLeftOver {O W : Type 0} (C : Changing O W) (path : List ℕ) (file : O) :
    Type 0 where
  pub held : C.locks file
  pub found : Facts
  pub look : C.looks_beside file path found
  pub shown : Shows C.shows found file

-- `create_error kind`: why no file was created, by the kind of the system's error.
abbrev pub create_error : ErrorKind → CreateError
create_error PermissionDenied = Denied
create_error ReadOnlyFilesystem = Denied
create_error AlreadyExists = Taken
create_error _ = Failed
