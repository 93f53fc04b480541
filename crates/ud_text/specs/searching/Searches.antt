-- Searches: what the searches over many bytes at a time look for.
--
-- Example: the lowest set bit of 0b100 is 2.
use Rattle.std.specs.Prelude.{ℕ, ◌==◌, List, Bool, ◌||◌, if◌then◌else◌, slice_index}
use Rattle.std.specs.Int.{w64, trailing_zeros}

-- `is_one_of set b`: `b` is one of the five bytes of `set`.
abbrev pub is_one_of : List ℕ → ℕ → Bool
is_one_of set b = (b == slice_index set 0) || (b == slice_index set 1) ||
    (b == slice_index set 2) || (b == slice_index set 3) || (b == slice_index set 4)

-- `lowest_set_bit bits lanes`: the position of the lowest set bit, or `lanes` if none is set.
abbrev pub lowest_set_bit : ℕ → ℕ → ℕ
lowest_set_bit bits lanes = if bits == 0 then lanes else trailing_zeros w64 bits
