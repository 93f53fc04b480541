-- Comment texts: the comment after an `#else` or `#endif`, read as a condition.
--
--   has_lone_comment bytes   the bytes after a keyword are one comment, with white space around it
--   comment_cells bytes      their cells as the text of a condition
--
-- All bytes outside the comment's text are lexed as a comment, so they stay. So are all bytes if
-- there isn't one comment alone, or if its text leaves a comment open.
--
-- Example: ` /* A || X */` has the cells of four spaces, `A || X`, and three spaces.
use Rattle.std.specs.Prelude.{ℕ, suc, ◌+◌, ◌-◌, List, [], ◌∷◌, ◌++◌, length, take, drop, Bool}
use Rattle.std.specs.Prelude.{◌&&◌, ◌||◌, if◌then◌else◌, codes, nat_eq}
use Rattle.std.specs.List.{starts_with}
use Rattle.ud_model.specs.text.Bytes.{skip_white, are_white}
use Rattle.ud_model.specs.text.Lines.{Line}
use Rattle.ud_model.specs.text.Lexemes.{block_comment, Cell, cells_in}
use Rattle.ud_model.specs.text.Scanning.{content_cells, scan_after_run}

-- `is_line_comment bytes`: the bytes begin a line comment.
abbrev pub is_line_comment : List ℕ → Bool
is_line_comment bytes = starts_with nat_eq bytes (codes "//")

-- `begins_comment bytes`: the bytes begin a comment.
abbrev pub begins_comment : List ℕ → Bool
begins_comment bytes = is_line_comment bytes || starts_with nat_eq bytes (codes "/*")

-- `close_at bytes`: how many bytes come before the first `*/`, or before the end.
abbrev pub close_at : List ℕ → ℕ
close_at [] = 0
close_at (a ∷ rest) =
    if starts_with nat_eq (a ∷ rest) (codes "*/") then 0 else suc (close_at rest)

-- `text_at bytes`: the position after white space and the `//` or `/*` of a comment.
abbrev pub text_at : List ℕ → ℕ
text_at bytes = length bytes - length (skip_white bytes) + 2

-- `text_len bytes`: the length of the text of this comment.
abbrev pub text_len : List ℕ → ℕ
text_len bytes = if is_line_comment (skip_white bytes) then length (drop (text_at bytes) bytes)
    else close_at (drop (text_at bytes) bytes)

-- `has_lone_comment bytes`: this comment has only white space around it.
abbrev pub has_lone_comment : List ℕ → Bool
has_lone_comment bytes = begins_comment (skip_white bytes) &&
    are_white (drop 2 (drop (text_len bytes) (drop (text_at bytes) bytes)))

-- `text_line text`: the text as a line without an ending.
abbrev pub text_line : List ℕ → Line
text_line text = record { body = text; ending = []; number = 0 }

-- `cells_around n m bytes`: the cells of the `m` bytes after the first `n`, with the other bytes as
-- in a comment. If they leave a comment open, all bytes are as in a comment.
abbrev pub cells_around : ℕ → ℕ → List ℕ → List Cell
cells_around n m bytes =
    let text = text_line (take m (drop n bytes)) in
    if (scan_after_run [] text).joins_after then cells_in block_comment bytes
    else cells_in block_comment (take n bytes) ++ content_cells [] text ++
    cells_in block_comment (drop m (drop n bytes))

-- `comment_cells bytes`: the cells of the bytes after a keyword, with the comment's text lexed like
-- a condition.
unfoldable pub comment_cells : List ℕ → List Cell
comment_cells bytes =
    if has_lone_comment bytes then cells_around (text_at bytes) (text_len bytes) bytes
    else cells_in block_comment bytes
