-- Lexemes: a spliced text as comments, literals and single bytes.
-- C11 5.1.1.2, phase 3, and 6.4.9.
--
--   IsLexeme bytes rest kind   `bytes` is a lexeme of this kind if the text goes on with `rest`
--   AreLexemes pieces text     `pieces` are the lexemes of `text`, in order
--   cells_of pieces            each byte of the lexemes with the kind of its lexeme
--   lexeme_at b rest           the extent of the lexeme that begins with `b` before `rest`,
--                              computed
--   lex text                   the cells of `text`, computed; a text has lexemes in one way
--   shown cell                 the byte, or a space if it lies in a comment
--   open_line [] cells         the cells of the logical line that the text ends with
--   kind_at_end text           the kind of lexeme at the end of the text
--
-- A block comment that is never closed runs to the end of the text. A literal without its closing
-- quote ends before the newline, and so does a line comment. A newline inside a block comment
-- doesn't end the logical line.
--
-- Example: `a/*b` has the lexemes `a`, a single byte, and `/*b`, a block comment. It is shown as
-- `a` and three spaces.
use Rattle.std.specs.Prelude.{◌≡◌, ◌≢◌, ℕ, zero, suc, ◌==◌, List, [], ◌∷◌, ◌++◌, drop, Bool, true}
use Rattle.std.specs.Prelude.{false, ◌&&◌, ◌||◌, if◌then◌else◌}
use Rattle.ud_model.specs.text.Bytes.{newline, slash, star, backslash, space, is_quote}
use Rattle.ud_model.specs.text.Bytes.{starts_with_byte}
use Rattle.ud_model.specs.text.Lines.{NoNewline}

-- A kind of lexeme.
pub data LexemeKind : Type 0 where
  block_comment : LexemeKind
  line_comment : LexemeKind
  -- A string literal or a character constant.
  literal : LexemeKind
  -- A byte that is none of these.
  single : LexemeKind

-- A lexeme: its kind and its bytes.
pub record Lexeme : Type 0 where
  pub kind : LexemeKind
  pub bytes : List ℕ

-- `NoClose bytes`: `bytes` has no `*/`.
abbrev pub NoClose : List ℕ → Type 0
NoClose [] = Unit {0}
NoClose (a ∷ bytes) = (((a == star) && starts_with_byte slash bytes) ≡ false) × NoClose bytes

-- `IsLineEnd rest`: the text has ended, or a newline comes next.
abbrev pub IsLineEnd : List ℕ → Type 0
IsLineEnd [] = Unit {0}
IsLineEnd (a ∷ rest) = a ≡ newline

-- `IsLiteralBody quote bytes`: `bytes` may follow the opening `quote` in a literal. It has no
-- newline, a backslash only with the byte that it escapes, and `quote` only escaped.
pub data IsLiteralBody (quote : ℕ) : List ℕ → Type 0 where
  nothing : IsLiteralBody quote []
  plain : {a : ℕ} {rest : List ℕ} → a ≢ newline → a ≢ quote → a ≢ backslash →
      IsLiteralBody quote rest → IsLiteralBody quote (a ∷ rest)
  passed : {b : ℕ} {rest : List ℕ} → b ≢ newline → IsLiteralBody quote rest →
      IsLiteralBody quote (backslash ∷ b ∷ rest)

-- `IsLexeme bytes rest kind`: `bytes` is a lexeme of this kind if the text goes on with `rest`.
pub data IsLexeme (bytes rest : List ℕ) : LexemeKind → Type 0 where
  -- From `/*` to the first `*/` that starts after those two bytes.
  closed_comment : (inside : List ℕ) → bytes ≡ slash ∷ star ∷ (inside ++ star ∷ slash ∷ []) →
      NoClose (inside ++ star ∷ []) → IsLexeme bytes rest block_comment
  -- From `/*` to the end of the text.
  open_comment : (inside : List ℕ) → bytes ≡ slash ∷ star ∷ inside → NoClose inside → rest ≡ [] →
      IsLexeme bytes rest block_comment
  -- From `//` up to the newline, or to the end of the text.
  to_line_end : (inside : List ℕ) → bytes ≡ slash ∷ slash ∷ inside → NoNewline inside →
      IsLineEnd rest → IsLexeme bytes rest line_comment
  -- From a quote to the same quote.
  closed_literal : (quote : ℕ) (inside : List ℕ) → is_quote quote ≡ true →
      bytes ≡ quote ∷ (inside ++ quote ∷ []) → IsLiteralBody quote inside →
      IsLexeme bytes rest literal
  -- From a quote up to the newline, or to the end of the text.
  open_literal : (quote : ℕ) (inside : List ℕ) → is_quote quote ≡ true → bytes ≡ quote ∷ inside →
      IsLiteralBody quote inside → IsLineEnd rest → IsLexeme bytes rest literal
  -- Such an open literal whose last byte is a backslash.
  open_at_backslash : (quote : ℕ) (inside : List ℕ) → is_quote quote ≡ true →
      bytes ≡ quote ∷ (inside ++ backslash ∷ []) → IsLiteralBody quote inside → IsLineEnd rest →
      IsLexeme bytes rest literal
  -- A byte that begins neither a comment nor a literal.
  single_byte : (b : ℕ) → bytes ≡ b ∷ [] → is_quote b ≡ false →
      ((b == slash) && (starts_with_byte star rest || starts_with_byte slash rest)) ≡ false →
      IsLexeme bytes rest single

-- `AreLexemes pieces text`: `pieces` are the lexemes of `text`, one after another, and together
-- they are the text.
abbrev pub AreLexemes : List Lexeme → List ℕ → Type 0
AreLexemes [] text = text ≡ []
AreLexemes (p ∷ pieces) text = (rest : List ℕ) × (text ≡ p.bytes ++ rest) ×
    IsLexeme p.bytes rest p.kind × AreLexemes pieces rest

-- A byte, and the kind of the lexeme that it lies in.
pub record Cell : Type 0 where
  pub byte : ℕ
  pub kind : LexemeKind

-- `cells_in kind bytes`: the cells of a lexeme of this kind with these bytes.
abbrev pub cells_in : LexemeKind → List ℕ → List Cell
cells_in kind [] = []
cells_in kind (b ∷ bytes) = record { byte = b; kind = kind } ∷ cells_in kind bytes

-- `cells_of pieces`: the cells of the lexemes, in order.
abbrev pub cells_of : List Lexeme → List Cell
cells_of [] = []
cells_of (p ∷ pieces) = cells_in p.kind p.bytes ++ cells_of pieces

-- `comment_size text`: how many bytes of `text` belong to the block comment whose `/*` is before
-- it. They end with the first `*/`, or with the text.
abbrev pub comment_size : List ℕ → ℕ
comment_size [] = 0
comment_size (a ∷ rest) =
    if (a == star) && starts_with_byte slash rest then 2
    else suc (comment_size rest)

-- `line_comment_size text`: how many bytes of `text` belong to the line comment whose `//` is
-- before it. They end before the newline, or with the text.
abbrev pub line_comment_size : List ℕ → ℕ
line_comment_size [] = 0
line_comment_size (a ∷ rest) = if a == newline then 0 else suc (line_comment_size rest)

-- `literal_size quote after_backslash text`: how many bytes of `text` belong to the literal whose
-- opening quote is before it. They end with the same quote, before the newline, or with the text.
-- An escaped quote doesn't count: `after_backslash` means that the first byte is escaped.
abbrev pub literal_size : ℕ → Bool → List ℕ → ℕ
literal_size quote after_backslash [] = 0
literal_size quote true (a ∷ rest) = if a == newline then 0 else suc (literal_size quote false rest)
literal_size quote false (a ∷ rest) =
    if a == newline then 0
    else if a == quote then 1
    else suc (literal_size quote (a == backslash) rest)

-- The extent of a lexeme: its kind, and how many bytes follow its first one.
pub record Extent : Type 0 where
  pub kind : LexemeKind
  pub more : ℕ

-- `lexeme_at a rest`: the extent of the lexeme that begins with `a`, if the text goes on with
-- `rest`. The first case that fits counts.
unfoldable pub lexeme_at : ℕ → List ℕ → Extent
lexeme_at a rest =
    if (a == slash) && starts_with_byte star rest
    then record { kind = block_comment; more = suc (comment_size (drop 1 rest)) }
    else if (a == slash) && starts_with_byte slash rest
    then record { kind = line_comment; more = suc (line_comment_size (drop 1 rest)) }
    else if is_quote a then record { kind = literal; more = literal_size a false rest }
    else record { kind = single; more = 0 }

-- `lex_from kind more text`: the cells of `text`, of which the first `more` bytes still belong to a
-- lexeme of this kind. Then the next lexeme begins.
unfoldable pub lex_from : LexemeKind → ℕ → List ℕ → List Cell
lex_from kind more [] = []
lex_from kind zero (a ∷ rest) =
    let piece = lexeme_at a rest in
    record { byte = a; kind = piece.kind } ∷ lex_from piece.kind piece.more rest
lex_from kind (suc more) (a ∷ rest) = record { byte = a; kind = kind } ∷ lex_from kind more rest

-- `lex text`: the cells of `text`.
unfoldable pub lex : List ℕ → List Cell
lex text = lex_from single 0 text

-- `shown_as kind b`: a space if the kind is a comment, else `b`.
abbrev pub shown_as : LexemeKind → ℕ → ℕ
shown_as block_comment b = space
shown_as line_comment b = space
shown_as literal b = b
shown_as single b = b

-- `shown c`: the byte of the cell `c`, or a space if it lies in a comment.
abbrev pub shown : Cell → ℕ
shown c = shown_as c.kind c.byte

-- `is_single kind`: the lexeme is a single byte.
abbrev pub is_single : LexemeKind → Bool
is_single single = true
is_single block_comment = false
is_single line_comment = false
is_single literal = false

-- `ends_line c`: `c` is a newline that is a lexeme of its own, so it ends the logical line.
abbrev pub ends_line : Cell → Bool
ends_line c = is_single c.kind && (c.byte == newline)

-- `open_line before cells`: the cells after the last newline that ends a logical line. The cells
-- `before` come first and have no such newline.
abbrev pub open_line : List Cell → List Cell → List Cell
open_line before [] = before
open_line before (c ∷ cells) = open_line (if ends_line c then [] else before ++ c ∷ []) cells

-- `last_kind before cells`: the kind of the last cell, or `before` if there is none.
abbrev pub last_kind : LexemeKind → List Cell → LexemeKind
last_kind before [] = before
last_kind before (c ∷ cells) = last_kind c.kind cells

-- `kind_at_end text`: the kind of lexeme that the end of `text` lies in: a space there would belong
-- to it. It is the kind of the last lexeme if that is open, else `single`.
unfoldable pub kind_at_end : List ℕ → LexemeKind
kind_at_end text = last_kind single (lex (text ++ space ∷ []))
