-- NameLines: the line of a listed name.
use Rattle.std.specs.Prelude.{ℕ, List, ◌++◌, codes}

-- `name_line prefix name`: `prefix`, `name` and a newline.
abbrev pub name_line : List ℕ → List ℕ → List ℕ
name_line prefix name = prefix ++ name ++ codes "\n"
