-- DiffTexts: the printed form of a unified diff (POSIX XCU, diff -u).
--
--   range_text before count   where so many lines begin, and their number
--   signed_text l             a line after its sign
--   hunk_text h               a hunk: its ranges and its lines
--   without_dots path         a path without `./` before it
--   path_text path            the name of a file, in quotes if it needs them
--   diff_text path hunks      the names of the file, and the hunks
--
-- Example: after one other line, the range of two lines is `2,2`, of one line `2`, and of no line
-- `1,0`. The name `a"b` is printed as `"a\042b"`, as patch and git read it, and the path `.//./a.c`
-- as `a.c`.
use Rattle.std.specs.Prelude.{ℕ, ◌+◌, ◌==◌, nat_eq, List, [], ◌∷◌, ◌++◌, length, codes, decimal}
use Rattle.std.specs.Prelude.{if◌then◌else◌, Bool, ◌&&◌, ◌||◌, ◌/◌, ◌%◌, nat_lt}
use Rattle.std.specs.List.{starts_with, ends_with, flat_map, list_any}
use Rattle.ud_model.specs.text.Bytes.{newline}
use Rattle.ud_passes.specs.declared.diff.line.Sign.{Sign}
use Rattle.ud_passes.specs.declared.diff.line.Sign.TheVariants.{Kept, Removed, Added}
use Rattle.ud_passes.specs.diff.Hunks.{SignedLine, Hunk, old_lines, new_lines}

-- `range_text before count`: the number of the first of `count` lines after `before` others, or of
-- the line before if `count` is 0. Then a comma and the count, unless it is 1.
unfoldable pub range_text : ℕ → ℕ → List ℕ
range_text before count = decimal (if count == 0 then before else before + 1) ++
    (if count == 1 then [] else 44 ∷ decimal count)

-- `sign_byte sign`: a space for a kept line, `-` for a removed one, `+` for an added one.
abbrev pub sign_byte : Sign → ℕ
sign_byte Kept = 32
sign_byte Removed = 45
sign_byte Added = 43

-- `no_newline_text`: what follows a line without a newline.
abbrev pub no_newline_text : List ℕ
no_newline_text = newline ∷ 92 ∷ codes " No newline at end of file" ++ newline ∷ []

-- `ended_text bytes`: a line with its newline. If it has none, a line follows that says so.
unfoldable pub ended_text : List ℕ → List ℕ
ended_text bytes = if ends_with nat_eq bytes (newline ∷ []) then bytes else bytes ++ no_newline_text

-- `signed_text l`: the line `l` after its sign.
abbrev pub signed_text : SignedLine → List ℕ
signed_text l = sign_byte l.sign ∷ ended_text l.bytes

-- `ranges_text m old n new`: the first line of a hunk: where its `old` lines of the old text begin,
-- after `m` others, and its `new` lines of the new text, after `n` others.
unfoldable pub ranges_text : ℕ → ℕ → ℕ → ℕ → List ℕ
ranges_text m old n new = codes "@@ -" ++ range_text m old ++ codes " +" ++ range_text n new ++
    codes " @@" ++ newline ∷ []

-- `hunk_text h`: the hunk `h`: its ranges, and then its lines.
abbrev pub hunk_text : Hunk → List ℕ
hunk_text h = ranges_text h.old_before (length (old_lines h.lines)) h.new_before
    (length (new_lines h.lines)) ++ flat_map signed_text h.lines

-- `is_dropped b rest`: the byte `b` before `rest` is a slash, or a dot before a slash.
abbrev pub is_dropped : ℕ → List ℕ → Bool
is_dropped b rest = b == 47 || (b == 46 && starts_with nat_eq rest (47 ∷ []))

-- `after_dots path`: the path without leading slashes, and the dots before them.
unfoldable pub after_dots : List ℕ → List ℕ
after_dots [] = []
after_dots (b ∷ rest) = if is_dropped b rest then after_dots rest else b ∷ rest

-- `without_dots path`: the path without each leading `./`, and the slashes after it. An absolute
-- path stays.
abbrev pub without_dots : List ℕ → List ℕ
without_dots path = if starts_with nat_eq path (46 ∷ 47 ∷ []) then after_dots path else path

-- `is_special b`: `b` is a control byte, a quote or a backslash.
abbrev pub is_special : ℕ → Bool
is_special b = nat_lt b 32 || b == 34 || b == 92 || b == 127

-- `escaped b`: the byte `b` in a quoted name: a special one as three octal digits.
unfoldable pub escaped : ℕ → List ℕ
escaped b = if is_special b then 92 ∷ (48 + b / 64) ∷ (48 + b / 8 % 8) ∷ (48 + b % 8) ∷ []
    else b ∷ []

-- `tab_after path`: a tab if the name of a file has a space, since it would end there otherwise.
abbrev pub tab_after : List ℕ → List ℕ
tab_after path = if list_any (λ b. b == 32) path then 9 ∷ [] else []

-- `quoted_text path`: the name in quotes.
abbrev pub quoted_text : List ℕ → List ℕ
quoted_text path = 34 ∷ (flat_map escaped path ++ 34 ∷ [])

-- `is_quoted path`: a name is quoted if it has a special byte, or begins or ends with a space.
abbrev pub is_quoted : List ℕ → Bool
is_quoted path = list_any is_special path || starts_with nat_eq path (32 ∷ []) ||
    ends_with nat_eq path (32 ∷ [])

-- `path_text path`: the name of a file, in quotes if it needs them.
unfoldable pub path_text : List ℕ → List ℕ
path_text path = if is_quoted path then quoted_text path else path ++ tab_after path

-- `name_text sign path`: the line that names a file, after its sign.
unfoldable pub name_text : List ℕ → List ℕ → List ℕ
name_text sign path = sign ++ (path_text path ++ newline ∷ [])

-- `names_text path`: the lines that name the old file and the new one.
abbrev pub names_text : List ℕ → List ℕ
names_text path = name_text (codes "--- ") (without_dots path) ++
    name_text (codes "+++ ") (without_dots path)

-- `diff_text path hunks`: the names of the file, and the hunks.
abbrev pub diff_text : List ℕ → List Hunk → List ℕ
diff_text path hunks = names_text path ++ flat_map hunk_text hunks
