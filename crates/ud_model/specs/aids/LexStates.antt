-- LexStates: the lexer's state after a text, which is enough to go on lexing from there.
-- C11 5.1.1.2, phase 3, a byte at a time.
--
--   LexState                                  the state of the lexer after a text
--   cells_after state rest                    the cells of `rest` after a text that ends in this
--                                             state
--   LexesTo text place white                  the lexer is in this state after `text`, and the open
--                                             line is white so far
--   next_state state b                        the state after one more byte
--   masked_byte, stays_white, opens_comment   the byte as it is shown; the line is still white; a
--                                             comment begins
--
-- The lexemes of a text are settled as it is read, except for a slash at its end, which may begin a
-- comment.
--
-- Example: after `a/` the lexer is at a slash, and after `a/*` in a block comment, where the slash
-- now belongs.
use Rattle.std.specs.Prelude.{◌≡◌, ◌≤◌, ℕ, ◌==◌, List, [], ◌∷◌, ◌++◌, length, map, drop, Bool, true}
use Rattle.std.specs.Prelude.{false, ◌&&◌, ◌||◌, if◌then◌else◌}
use Rattle.ud_model.specs.text.Bytes.{newline, slash, star, backslash, space, is_quote, is_white}
use Rattle.ud_model.specs.text.Bytes.{starts_with_byte}
use Rattle.ud_model.specs.text.Lexemes.{LexemeKind, block_comment, line_comment, literal, single}
use Rattle.ud_model.specs.text.Lexemes.{Cell, comment_size, line_comment_size}
use Rattle.ud_model.specs.text.Lexemes.{literal_size, lex_from, lex, shown, open_line}
use Rattle.ud_model.specs.text.Scanning.{is_blank}

-- The state of the lexer after a text.
pub data LexState : Type 0 where
  -- Between lexemes.
  in_text : LexState
  -- After a slash that is a single byte so far.
  at_slash : LexState
  in_block : LexState
  -- In a block comment, after a star that may close it.
  at_star : LexState
  in_line : LexState
  -- In a literal with this quote.
  in_literal : ℕ → LexState
  -- In a literal with this quote, after a backslash that escapes the next byte.
  at_backslash : ℕ → LexState

-- `cells_after state rest`: the cells of `rest` after a text that ends in this state. A slash at
-- the end of the text counts with them.
unfoldable pub cells_after : LexState → List ℕ → List Cell
cells_after in_text rest = lex_from single 0 rest
cells_after at_slash rest = lex_from single 0 (slash ∷ rest)
cells_after in_block rest = lex_from block_comment (comment_size rest) rest
cells_after at_star rest = lex_from block_comment (if starts_with_byte slash rest then 1
    else comment_size rest) rest
cells_after in_line rest = lex_from line_comment (line_comment_size rest) rest
cells_after (in_literal quote) rest = lex_from literal (literal_size quote false rest) rest
cells_after (at_backslash quote) rest = lex_from literal (literal_size quote true rest) rest

-- `LexesTo text place white`: the lexer is in the state `place` after `text`. Whatever follows, the
-- cells of the whole are those settled and then those from this state on. `white` is true exactly
-- if the settled cells of the last logical line are white.
pub record LexesTo (text : List ℕ) (place : LexState) (white : Bool) : Type 0 where
  pub settled : List Cell
  pub splits : (rest : List ℕ) → lex (text ++ rest) ≡ settled ++ cells_after place rest
  pub white_is : white ≡ is_blank (open_line [] settled)

-- `next_state state b`: the state after the byte `b`.
abbrev pub next_state : LexState → ℕ → LexState
next_state in_text b = if b == slash then at_slash else if is_quote b then in_literal b else in_text
next_state at_slash b =
    if b == star then in_block
    else if b == slash then in_line
    else if is_quote b then in_literal b
    else in_text
next_state in_block b = if b == star then at_star else in_block
next_state at_star b = if b == slash then in_text else if b == star then at_star else in_block
next_state in_line b = if b == newline then in_text else in_line
next_state (in_literal quote) b =
    if b == newline then in_text
    else if b == quote then in_text
    else if b == backslash then at_backslash quote
    else in_literal quote
next_state (at_backslash quote) b = if b == newline then in_text else in_literal quote

-- `opens_comment state b`: the byte `b` makes the slash before it the beginning of a comment.
abbrev pub opens_comment : LexState → ℕ → Bool
opens_comment at_slash b = (b == star) || (b == slash)
opens_comment in_text b = false
opens_comment in_block b = false
opens_comment at_star b = false
opens_comment in_line b = false
opens_comment (in_literal quote) b = false
opens_comment (at_backslash quote) b = false

-- `masked_byte state b`: the byte `b` as it is shown as long as nothing follows it.
abbrev pub masked_byte : LexState → ℕ → ℕ
masked_byte in_text b = b
masked_byte at_slash b = if b == star then space else if b == slash then space else b
masked_byte in_block b = space
masked_byte at_star b = space
masked_byte in_line b = if b == newline then b else space
masked_byte (in_literal quote) b = b
masked_byte (at_backslash quote) b = b

-- `stays_white state white b`: the settled cells of the line are white after the byte `b`, if they
-- are so before it exactly if `white`.
abbrev pub stays_white : LexState → Bool → ℕ → Bool
stays_white in_text white b =
    if b == slash then white
    else if b == newline then true
    else white && is_white b
stays_white at_slash white b =
    if b == star then white
    else if b == slash then white
    else if b == newline then true
    else false
stays_white in_block white b = white
stays_white at_star white b = white
stays_white in_line white b = if b == newline then true else white
stays_white (in_literal quote) white b = if b == newline then true else white && is_white b
stays_white (at_backslash quote) white b = if b == newline then true else white && is_white b

-- `kind_in_state state`: the kind of lexeme in which a text with this state ends.
abbrev pub kind_in_state : LexState → LexemeKind
kind_in_state in_text = single
kind_in_state at_slash = single
kind_in_state in_block = block_comment
kind_in_state at_star = block_comment
kind_in_state in_line = line_comment
kind_in_state (in_literal quote) = literal
kind_in_state (at_backslash quote) = literal

-- `fresh_at state white rest`: a line that goes on with `rest` is fresh, after a text that ends in
-- this state.
abbrev pub fresh_at : LexState → Bool → List ℕ → Bool
fresh_at in_text white rest = white
fresh_at at_slash white rest = white && (starts_with_byte star rest || starts_with_byte slash rest)
fresh_at in_block white rest = white
fresh_at at_star white rest = white
fresh_at in_line white rest = white
fresh_at (in_literal quote) white rest = white
fresh_at (at_backslash quote) white rest = white

-- `state_after_line stays w`: the state after a line whose content ends in the state `w`. A newline
-- follows the content unless the line stays open.
abbrev pub state_after_line : Bool → LexState → LexState
state_after_line stays w = if stays then w else next_state w newline

-- `white_after_line stays w white`: the last logical line is white after such a line.
abbrev pub white_after_line : Bool → LexState → Bool → Bool
white_after_line stays w white = if stays then white else stays_white w white newline

-- `blank_last bytes`: `bytes` with a space in place of the last one.
abbrev pub blank_last : List ℕ → List ℕ
blank_last [] = []
blank_last (x ∷ []) = space ∷ []
blank_last (x ∷ y ∷ rest) = x ∷ blank_last (y ∷ rest)

-- `mask text`: the text as it is shown, each byte of a comment as a space.
unfoldable pub mask : List ℕ → List ℕ
mask text = map shown (lex text)

-- `Masks n text place white masked`: the lexer is in the state `place` after `text`, and after its
-- first `n` bytes the text is shown as `masked`.
pub record Masks (n : ℕ) (text : List ℕ) (place : LexState) (white : Bool) (masked : List ℕ) : Type
    0 where
  pub reads : LexesTo text place white
  pub within : n ≤ length text
  pub masked_is : masked ≡ drop n (mask text)
