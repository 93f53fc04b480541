-- Buffering: bytes on their way to a writer.
use Rattle.std.specs.Prelude.{◌≡◌, ℕ, List, ◌++◌, Option}
use Rattle.std.specs.Io.KnownBytes.{Appends}

-- `AppendsAllBut old new bytes rest`: all of `bytes` but its suffix `rest` was appended.
pub record AppendsAllBut (old new : Option (List ℕ)) (bytes rest : List ℕ) : Type 0 where
  pub prefix : List ℕ
  pub joined : bytes ≡ prefix ++ rest
  pub appended : Appends old new prefix
