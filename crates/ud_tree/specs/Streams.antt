-- Streams: how the two streams of a run ended, and what is read of the input.
--
--   StreamEnds              how the calls of the output and the error stream ended
--   ends_of out err         the ends of two writers
--   Source                  what a reader still has, and whether it has failed
--   source_of remaining r   the source of the reader `r`
--   ReadsWhole old new text   all that a reader has was read
--   TakesInput from_input old new text   the input was read, if paths come from it
use Rattle.std.specs.Prelude.{◌≡◌, ℕ, List, [], Bool, true, false, Option}
use Rattle.std.specs.Io.KnownBytes.{Consumes, IsAtEnd}
use Rattle.ud_io.specs.Watched.{WatchedState}
use Rattle.ud_io.specs.Streams.{Stream}

-- `StreamEnds`: whether the output has failed, whether it is unflushed, and whether the error
-- stream has failed.
pub record StreamEnds : Type 0 where
  pub failed : Bool
  pub unflushed : Bool
  pub unheard : Bool

-- `ends_of out err`: how the calls of the output and the error stream ended.
abbrev pub ends_of : Stream → Stream → StreamEnds
ends_of out err =
    record { failed = out.failed; unflushed = out.unflushed; unheard = err.failed }

-- `Source`: what a reader still has (`None` if it doesn't report that), and whether it has failed.
pub record Source : Type 0 where
  pub remaining : Option (List ℕ)
  pub failed : Bool

-- `source_of remaining r`: what the reader `r` still has, and whether it has failed.
abbrev pub source_of : {R : Type 0} → (R → Option (List ℕ)) → WatchedState R → Source
source_of remaining r = record { remaining = remaining r.inner; failed = r.failed }

-- `ReadsWhole old new text`: `text` was read, up to the reader's end.
pub record ReadsWhole (old new : Source) (text : List ℕ) : Type 0 where
  pub consumed : Consumes old.remaining new.remaining text
  pub ended : IsAtEnd new.remaining
  pub unfailed : new.failed ≡ false

-- `TakesInput from_input old new text`: paths come from the input, and `text` is all of it; or they
-- don't, and nothing was read.
pub data TakesInput (from_input : Bool) (old new : Source) : List ℕ → Type 0 where
  takes_all : {text : List ℕ} → from_input ≡ true → ReadsWhole old new text →
      TakesInput from_input old new text
  takes_none : from_input ≡ false → new ≡ old → TakesInput from_input old new []
