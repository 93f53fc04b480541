-- Versions: a version as a number.
use Rattle.std.specs.Prelude.{ℕ, ◌+◌, ◌*◌}

-- `version_number major minor`: the number of the version `major.minor`.
abbrev pub version_number : ℕ → ℕ → ℕ
version_number major minor = major * 10000 + minor * 100
