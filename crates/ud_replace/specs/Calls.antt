-- Calls: the calls of a directory, and its answers.
use Rattle.std.specs.Prelude.{ℕ, List, Bool, Option, Result}
use Rattle.ud_replace.specs.declared.directory.CreateError.{CreateError}
use Rattle.ud_replace.specs.declared.node.Lookup.{Lookup}
use Rattle.ud_replace.specs.declared.node.Sample.{Sample}
use Rattle.ud_replace.specs.declared.stat.FileStat.{FileStat}

-- `WalkCall`: a call made by a walk over directories, with its answer. Paths are bytes.
pub data WalkCall : Type 0 where
  -- `met path answer`: what is at the path.
  met : List ℕ → Lookup → WalkCall
  -- `followed path answer`: whether the path leads to a directory.
  followed : List ℕ → Bool → WalkCall
  -- `listed directory names answer`: these are all the names in the directory, or some of them.
  listed : List ℕ → List (List ℕ) → Bool → WalkCall

-- `Call`: a call of a directory with its answer. Names and texts are bytes.
pub data Call : Type 0 where
  -- `was_read name text answer`: the file was read as `text`, or reading it failed.
  was_read : List ℕ → List ℕ → Option FileStat → Call
  -- `asked name answer`: whether the user may write into the file.
  asked : List ℕ → Bool → Call
  -- `made name answer`: an empty file was created, or not.
  made : List ℕ → Result Unit CreateError → Call
  -- `appended name bytes answer`: so many first bytes of `bytes` were appended, or none.
  appended : List ℕ → List ℕ → Option ℕ → Call
  -- `given name like answer`: the file was given the mode and the owner of `like`, or not.
  given : List ℕ → FileStat → Bool → Call
  -- `synced name answer`: the bytes of the file are on the disk, or not.
  synced : List ℕ → Bool → Call
  -- `looked name answer`: the facts about the file.
  looked : List ℕ → Option FileStat → Call
  -- `renamed from to answer`: the file `from` was renamed to `to`, or not.
  renamed : List ℕ → List ℕ → Bool → Call
  -- `overwrote name text answer`: the file now has `text`, or else any bytes.
  overwrote : List ℕ → List ℕ → Bool → Call
  -- `removed name answer`: the file was removed, or not.
  removed : List ℕ → Bool → Call
  -- `sampled name text answer`: `text` was read of the file, to be searched.
  sampled : List ℕ → List ℕ → Sample → Call
  -- `walked w`: a call of a walk, which changes nothing.
  walked : WalkCall → Call
