-- Keys: numbers in which most names differ.
use Rattle.std.specs.Prelude.{ℕ, ◌-◌, List, [], ◌∷◌, length, drop, slice_index}
use Rattle.std.specs.Int.{w64, from_be_bytes}
use Rattle.ud_cond.specs.declared.symbols.keys.TheConstants.{KEY_BYTES}

-- `key_in b`: the first bytes of `b`, as many as form a key, as one number; the first byte counts
-- most, and missing bytes count as 0.
abbrev pub key_in : List ℕ → ℕ
key_in b =
    from_be_bytes w64 (slice_index b 0 ∷ slice_index b 1 ∷ slice_index b 2 ∷ slice_index b 3
    ∷ slice_index b 4 ∷ slice_index b 5 ∷ slice_index b 6 ∷ slice_index b 7 ∷ [])

-- `key_of n`: the key of the name `n`, its last bytes as one number.
unfoldable pub key_of : List ℕ → ℕ
key_of n = key_in (drop (length n - KEY_BYTES) n)
