-- PieceParts: the parts of a piece, concatenated.
use Rattle.std.specs.Prelude.{ℕ, List, take, Bool}
use Rattle.std.specs.List.{flat_map}
use Rattle.ud_sections.specs.declared.printing.pieces.Pieces.{Pieces}

-- `concatenated p`: the bytes of the parts of `p`, in order.
abbrev pub concatenated : Pieces → List ℕ
concatenated p = flat_map (λ s. s.now) (take p.count p.slices)

-- `count_of p`: the number of parts.
abbrev pub count_of : Pieces → ℕ
count_of p = p.count

-- `is_unchanged p`: according to `p`, its parts make up the line itself.
abbrev pub is_unchanged : Pieces → Bool
is_unchanged p = p.same
