-- Watched: readers and writers that record a failure, and what is known of their bytes.
--
-- `old` and `new` are what the reader will still give, or what the writer contains, before and
-- after. Each is `None` if the stream doesn't report it.
use Rattle.std.specs.Prelude.{Bool, true, false, ℕ, List, Option, Some, None, length, take, ◌≡◌}
use Rattle.std.specs.Prelude.{◌<◌, ◌≤◌, ◌++◌}
use Rattle.std.specs.Io.KnownBytes.{Consumes, Appends, Keeps, IsAtEnd}

-- `WatchedState T`: the wrapped reader or writer, whether a call has failed, and whether a write
-- was tried since the last successful flush.
pub record WatchedState (T : Type 0) : Type 0 where
  pub inner : T
  pub failed : Bool
  pub unflushed : Bool

-- `ReadsOnce old new r buf`: one call of a reader returned `r` and left `buf` in the buffer. With
-- `Some n`, the first `n` bytes of `buf` were read; `n` is 0 only at the end of the input or for an
-- empty buffer. With `None`, the call failed and read nothing.
abbrev pub ReadsOnce : Option (List ℕ) → Option (List ℕ) → Option ℕ → List ℕ → Type 0
ReadsOnce old new (Some n) buf = (n ≤ length buf) × Consumes old new (take n buf) ×
    (n ≡ 0 → 0 < length buf → IsAtEnd new)
ReadsOnce old new None buf = Keeps old new

-- `WritesOnce old new r bytes`: one call of a writer with `bytes` returned `r`. With `Some n`, the
-- first `n` bytes were appended, at least one if there are any. With `None`, the call failed and
-- appended nothing.
abbrev pub WritesOnce : Option (List ℕ) → Option (List ℕ) → Option ℕ → List ℕ → Type 0
WritesOnce old new (Some n) bytes = (n ≤ length bytes) × Appends old new (take n bytes) ×
    (0 < length bytes → 0 < n)
WritesOnce old new None bytes = Keeps old new

-- `AppendsPrefix old new bytes`: a prefix of `bytes` was appended, perhaps empty or all of it.
abbrev pub AppendsPrefix : Option (List ℕ) → Option (List ℕ) → List ℕ → Type 0
AppendsPrefix old new bytes = (prefix : List ℕ) × (back : List ℕ) × (bytes ≡ prefix ++ back) ×
    Appends old new prefix

-- `AppendsAllOrPrefix failed old new bytes`: all of `bytes` was appended or, if `failed`, a prefix.
abbrev pub AppendsAllOrPrefix : Bool → Option (List ℕ) → Option (List ℕ) → List ℕ → Type 0
AppendsAllOrPrefix false old new bytes = Appends old new bytes
AppendsAllOrPrefix true old new bytes = AppendsPrefix old new bytes
