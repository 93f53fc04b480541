-- Reports: how far a run is, and what it writes to the error stream.
--
--   ReportState               the error stream, what a terminal shows, and what was counted
--   new_report is_terminal listing err   a report without messages
--   counted r                 one fault more is counted
--   IsPlain r                 the error stream is no terminal
--   KeepsScreen old new       nothing was written
--   KeepsFinds old new        the conditions that still name a symbol stay, and the names sought
--   Writes old new bytes      `bytes` were written to such a stream
--   Tells old new bytes       the same, and the conditions stay
--   Says old new bytes        `bytes` were written, after the number of files was removed
--   TellsOf P old new         a message with `P` was written
--   ReportsOne message old new   a message was written, and is counted
--   ReportsOf P old new       so was a message with `P`
--
-- `old` and `new` are the report before and after.
use Rattle.std.specs.Prelude.{◌≡◌, ℕ, ◌+◌, ◌-◌, ◌<◌, ◌^◌, List, [], Bool, false, min}
use Rattle.ud_io.specs.Streams.{Stream, Sends}
use Rattle.ud_passes.specs.declared.remaining.listing.Listing.{Listing}
use Rattle.ud_passes.specs.remaining.RemainingLists.{RemainingState}

-- `ReportState`: the error stream, whether it is a terminal, whether that shows the number of
-- files, the number of faults, the mentions in outputs, the marks of the rows whose names no
-- condition has so far, and whether memory ran out for some of these, or for a diff.
pub record ReportState : Type 0 where
  pub err : Stream
  pub is_terminal : Bool
  pub is_shown : Bool
  pub faulty : ℕ
  pub remaining : RemainingState
  pub unnamed : List Bool
  pub lacks_memory : Bool

-- `new_report is_terminal listing err`: a report without messages, whose error stream is `err`.
abbrev pub new_report : Bool → Listing → Stream → ReportState
new_report is_terminal listing err = record {
  err = err;
  is_terminal = is_terminal;
  is_shown = false;
  faulty = 0;
  remaining = record { listing = listing; count = 0; defined = 0; list = [] };
  unnamed = [];
  lacks_memory = false;
}

-- `counted r`: one fault more is counted, unless the number is too large.
abbrev pub counted : ReportState → ReportState
counted r = record r { faulty = min (r.faulty + 1) (2 ^ 64 - 1) }

-- `IsPlain r`: the error stream is no terminal, and so shows no number of files.
pub record IsPlain (r : ReportState) : Type 0 where
  pub no_terminal : r.is_terminal ≡ false
  pub unshown : r.is_shown ≡ false

-- `KeepsScreen old new`: nothing was written, and a terminal shows the number of files if it did.
pub record KeepsScreen (old new : ReportState) : Type 0 where
  pub quiet : new.err ≡ old.err
  pub terminal : new.is_terminal ≡ old.is_terminal
  pub shown : new.is_shown ≡ old.is_shown

-- `KeepsFinds old new`: the conditions that still name a symbol stay, and so do the marks of the
-- names that no condition has, and whether memory ran out for some.
pub record KeepsFinds (old new : ReportState) : Type 0 where
  pub remaining : new.remaining ≡ old.remaining
  pub unnamed : new.unnamed ≡ old.unnamed
  pub lost : new.lacks_memory ≡ old.lacks_memory

-- `Writes old new bytes`: if the error stream is no terminal, `bytes` were written to it.
pub record Writes (old new : ReportState) (bytes : List ℕ) : Type 0 where
  pub plain : IsPlain old → IsPlain new
  pub sent : IsPlain old → Sends old.err new.err bytes

-- `Tells old new bytes`: the same, and the conditions that still name a symbol stay.
pub record Tells (old new : ReportState) (bytes : List ℕ) : Type 0 where
  pub writes : Writes old new bytes
  pub keeps : KeepsFinds old new

-- `Says old new bytes`: `bytes` were written. If a terminal showed the number of files, that was
-- removed before.
pub record Says (old new : ReportState) (bytes : List ℕ) : Type 0 where
  pub terminal : new.is_terminal ≡ old.is_terminal
  pub hidden : new.is_shown ≡ false
  pub faults : new.faulty ≡ old.faulty
  pub keeps : KeepsFinds old new
  pub cleared : Stream
  pub unshown : old.is_shown ≡ false → cleared ≡ old.err
  pub sent : Sends cleared new.err bytes

-- `TellsOf P old new`: a message of which `P` holds was written, and nothing else.
pub record TellsOf (P : List ℕ → Type 0) (old new : ReportState) : Type 0 where
  pub message : List ℕ
  pub is_of : P message
  pub tells : Tells old new message

-- `ReportsOne message old new`: `message` was written, and is counted as a fault.
pub record ReportsOne (message : List ℕ) (old new : ReportState) : Type 0 where
  pub tells : Tells old new message
  pub counted : old.faulty + 1 < 2 ^ 64 → new.faulty ≡ old.faulty + 1
  pub some : 0 < new.faulty

-- `ReportsOf P old new`: a message of which `P` holds was written, and is counted.
pub record ReportsOf (P : List ℕ → Type 0) (old new : ReportState) : Type 0 where
  pub message : List ℕ
  pub is_of : P message
  pub reports : ReportsOne message old new
