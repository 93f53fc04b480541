-- Painting: the colours of a diff on a terminal.
--
--   colour_of first   what is written before a line with this first byte
--   plain             what ends a colour
--   has_colour first  such a line has a colour
--
-- Example: before a line that begins with `-` come the bytes ESC `[31m`, and after it ESC `[m`.
use Rattle.std.specs.Prelude.{ℕ, List, [], ◌∷◌, ◌==◌, ◌||◌, Bool, codes}
use Rattle.std.specs.Prelude.{if◌then◌else◌}

-- `colour_of first`: red before a line that begins with `-`, green before `+`, and cyan before `@`.
-- Nothing before any other line.
abbrev pub colour_of : ℕ → List ℕ
colour_of first =
    if first == 45 then 27 ∷ codes "[31m"
    else if first == 43 then 27 ∷ codes "[32m"
    else if first == 64 then 27 ∷ codes "[36m"
    else []

-- `plain`: the bytes that end a colour.
abbrev pub plain : List ℕ
plain = 27 ∷ codes "[m"

-- `has_colour first`: a line that begins with this byte has a colour.
abbrev pub has_colour : ℕ → Bool
has_colour first = first == 45 || first == 43 || first == 64
