-- Changing: what is known of a file that was changed, by the evidence of the system's calls.
use Rattle.std.specs.Prelude.{◌≡◌, ℕ, List, length, Bool, true, false, ◌&&◌, ◌==◌, ◌⊎◌, bit_and}
use Rattle.std.specs.Prelude.{if◌then◌else◌, Option, None, Some, Result, Ok, Err, IsOk}
use Rattle.std.specs.Io.KnownBytes.{Appends}
use Rattle.std.specs.IoError.{error_kind}
use Rattle.std.specs.declared.io.Error.{Error}
use Rattle.std.specs.declared.io.ErrorKind.{ErrorKind}
use Rattle.std.specs.declared.io.ErrorKind.TheVariants.{PermissionDenied, InvalidInput}
use Rattle.std.specs.declared.io.ErrorKind.TheVariants.{Unsupported}
use Rattle.ud_replace.specs.declared.stat.FileStat.{FileStat}
use Rattle.ud_tree.specs.declared.disk.facts.Facts.{Facts}
use Rattle.ud_tree.specs.Evidence.{Changing}

-- `has_owner like now`: the facts `now` have the owner and the group of `like`.
abbrev pub has_owner : FileStat → Facts → Bool
has_owner like now = now.stat.owner == like.owner && now.stat.group == like.group

-- `mode_for like now`: the mode of `like`, without the bits above the nine of access if the owner
-- or the group differs.
abbrev pub mode_for : FileStat → Facts → ℕ
mode_for like now = if has_owner like now then like.mode else bit_and like.mode 0o777

-- `is_excused kind`: an owner or a group that can't be set for this reason isn't set: the user may
-- not set it, or the namespace or the file system has none.
abbrev pub is_excused : ErrorKind → Bool
is_excused PermissionDenied = true
is_excused InvalidInput = true
is_excused Unsupported = true
is_excused _ = false

-- `IsExcused answer`: it wasn't set, for such a reason.
abbrev pub IsExcused : Result Unit Error → Type 0
IsExcused (Ok _) = ⊥
IsExcused (Err e) = is_excused (error_kind e) ≡ true

-- `IsTried answer`: it was set, or is excused.
abbrev pub IsTried : Result Unit Error → Type 0
IsTried answer = IsOk answer ⊎ IsExcused answer

-- `GivesOwner C like old new`: the new file `old` has the owner and the group of `like`; or they
-- were set; or only the group was tried, since the owner is excused.
pub data GivesOwner {O W : Type 0} (C : Changing O W) (like : FileStat) (old new : W) :
    Type 0 where
  has_both : (facts : Facts) → C.shows_new old facts → has_owner like facts ≡ true →
      GivesOwner C like old new
  gives_both : (answer : Result Unit Error) →
      C.sets_owner new (Some like.owner) like.group answer → IsOk answer →
      GivesOwner C like old new
  gives_group : (middle : W) (answer answer' : Result Unit Error) →
      C.sets_owner middle (Some like.owner) like.group answer → IsExcused answer →
      C.sets_owner new None like.group answer' → IsTried answer' → GivesOwner C like old new

-- `GivesMode C like file`: by these facts about it, the new file has the mode for them, or was
-- given it.
pub record GivesMode {O W : Type 0} (C : Changing O W) (like : FileStat) (file : W) :
    Type 0 where
  pub now : Facts
  pub show : C.shows_new file now
  pub given : (now.stat.mode ≡ mode_for like now) ⊎ C.sets_mode file (mode_for like now)

-- `HasBytes C contents text file`: from the start of the file on, `text` was written. Then what
-- came after it was cut off, and the rest is on the disk. `contents` is what a file has so far.
pub record HasBytes {O W : Type 0} (C : Changing O W) (contents : O → Option (List ℕ))
    (text : List ℕ) (file : O) : Type 0 where
  pub before : O
  pub start : O
  pub whole : O
  pub starts_at : C.starts start before
  pub written : Appends (contents start) (contents whole) text
  pub ends : C.cuts whole (length text) file
  pub on_disk : C.syncs file
