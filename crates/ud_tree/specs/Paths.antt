-- Paths: the parts of a path, and the name of the new file beside another one.
--
--   directory_len path       the index after the last slash of a path
--   last_name path        the bytes after its last slash
--   slashed path          a directory's path, with a slash at its end
--   fresh_end path        the end of the name of a new file
--   fresh_name path       the name of a new file in the same directory
--   escaped name          a name in ASCII, with each other byte shown
--
-- Example: beside `src/a.c` a run makes the file `src/.unifdef-tree.a.c`.
use Rattle.std.specs.Prelude.{ℕ, suc, List, [], ◌∷◌, ◌++◌, take, drop, ◌==◌, ◌||◌, codes}
use Rattle.std.specs.Prelude.{if◌then◌else◌, length, nat_eq, nat_lt, ◌/◌, ◌%◌}
use Rattle.std.specs.List.{ends_with, flat_map}
use Rattle.ud_tree.specs.Visible.{hex_digit}

-- `slash`: the byte between the names of a path.
abbrev pub slash : ℕ
slash = 47

-- `directory_len path`: the number of bytes up to and including the last slash; 0 if there is none.
abbrev pub directory_len : List ℕ → ℕ
directory_len [] = 0
directory_len (b ∷ rest) = if b == slash || nat_lt 0 (directory_len rest)
    then suc (directory_len rest) else 0

-- `last_name path`: the bytes after the last slash.
abbrev pub last_name : List ℕ → List ℕ
last_name path = drop (directory_len path) path

-- `slashed path`: `path` with a slash at its end, which it may have already.
abbrev pub slashed : List ℕ → List ℕ
slashed path = if ends_with nat_eq path (codes "/") then path else path ++ codes "/"

-- `fresh_end path`: the last name of `path`, or `long` if it is too long for the end of a new name.
abbrev pub fresh_end : List ℕ → List ℕ
fresh_end path = if nat_lt 240 (length (last_name path)) then codes "long" else last_name path

-- `fresh_name path`: in the directory of `path`, a name that ends in `fresh_end path`.
abbrev pub fresh_name : List ℕ → List ℕ
fresh_name path = take (directory_len path) path ++ codes ".unifdef-tree." ++
    fresh_end path

-- `escaped_byte b`: the byte `b` if it is printable ASCII and no backslash, else `\x` and its two
-- hexadecimal digits.
unfoldable pub escaped_byte : ℕ → List ℕ
escaped_byte b = if nat_lt b 32 || nat_lt 126 b || b == 92
    then 92 ∷ 120 ∷ hex_digit (b / 16) ∷ hex_digit (b % 16) ∷ [] else b ∷ []

-- `escaped name`: the name with each byte that isn't printable ASCII, and each backslash, as `\x`
-- and its two hexadecimal digits.
unfoldable pub escaped : List ℕ → List ℕ
escaped name = flat_map escaped_byte name
