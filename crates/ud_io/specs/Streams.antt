-- Streams: what happens to bytes sent to a writer that records its failure.
--
-- Example: after a write of "ab" that failed after the "a", the contents are one byte longer, and
-- the writer has failed. Later bytes are dropped.
use Rattle.std.specs.Prelude.{◌≡◌, ℕ, List, [], ◌++◌, Bool, true, false, Option}
use Rattle.std.specs.Io.KnownBytes.{Keeps}
use Rattle.ud_io.specs.Watched.{WatchedState, AppendsPrefix}
use Rattle.ud_io.specs.Buffering.{AppendsAllBut}

-- `Stream`: the contents of a writer, `None` if it doesn't report them, whether it has failed, and
-- whether a write was tried since the last successful flush.
pub record Stream : Type 0 where
  pub contents : Option (List ℕ)
  pub failed : Bool
  pub unflushed : Bool

-- `stream_of contents w`: the contents of the writer `w`, and how its calls ended.
abbrev pub stream_of : {W : Type 0} → (W → Option (List ℕ)) → WatchedState W → Stream
stream_of contents w =
    record { contents = contents w.inner; failed = w.failed; unflushed = w.unflushed }

-- `TakesBy failed failed' old new bytes left`: all of `bytes` but `left` was appended; or, if a
-- write failed, a prefix of `bytes`; or, if one had failed before, nothing.
abbrev pub TakesBy : Bool → Bool → Option (List ℕ) → Option (List ℕ) → List ℕ → List ℕ → Type 0
TakesBy false false old new bytes left = AppendsAllBut old new bytes left
TakesBy false true old new bytes left = AppendsPrefix old new bytes
TakesBy true failed old new bytes left = (failed ≡ true) × Keeps old new

-- `TakesAllBut old new bytes left`: `TakesBy` for these streams.
abbrev pub TakesAllBut : Stream → Stream → List ℕ → List ℕ → Type 0
TakesAllBut old new bytes left =
    TakesBy old.failed new.failed old.contents new.contents bytes left

-- `Sends old new bytes`: all of `bytes` was taken. If the writer had failed before, nothing was
-- done.
pub record Sends (old new : Stream) (bytes : List ℕ) : Type 0 where
  pub taken : TakesAllBut old new bytes []
  pub fused : old.failed ≡ true → new ≡ old

-- `Accepts contents buffered left out out' bytes`: `bytes` were appended after `buffered`, and
-- `left` is now buffered, unless the writer has failed.
abbrev pub Accepts : {W : Type 0} → (W → Option (List ℕ)) → List ℕ → List ℕ → WatchedState W →
    WatchedState W → List ℕ → Type 0
Accepts contents buffered left out out' bytes =
    TakesAllBut (stream_of contents out) (stream_of contents out') (buffered ++ bytes) left
