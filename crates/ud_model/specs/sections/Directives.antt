-- Directives: the directive that a scan has, if any.
-- C11 6.10, C23 6.10: a directive is a line whose first byte that isn't white space is `#`.
--
--   content_of scan   a cut keyword, else a directive, else text
--   Directive         its kind, the keyword's span, what follows the keyword, and whether a
--                     continuation cuts it
--   role_of kind      the role of a directive of this kind in its section
--   test_of kind      the test that makes its condition true
--   is_no_keyword a b no keyword begins with the bytes `a` and `b`
--
-- Example: `  # ifdef A` is an `#ifdef` whose keyword is at 4 and has 5 bytes, and ` A` follows it.
use Rattle.std.specs.Prelude.{ℕ, ◌-◌, ◌==◌, List, [], ◌∷◌, length, Bool, true, false, not, ◌&&◌}
use Rattle.std.specs.Prelude.{◌||◌, if◌then◌else◌, Option, Some, None, bytes_eq, codes}
use Rattle.std.specs.List.{list_any, starts_with}
use Rattle.std.specs.Prelude.{nat_eq}
use Rattle.ud_model.specs.text.Bytes.{skip_white, leading_word, skip_word}
use Rattle.ud_model.specs.text.Bytes.{is_word_byte}
use Rattle.ud_model.specs.text.Scans.{Scan}
use Rattle.ud_model.specs.declared.kind.Kind.{Kind}
use Rattle.ud_model.specs.declared.kind.Kind.TheVariants.{If, Ifdef, Ifndef, Elif, Elifdef}
use Rattle.ud_model.specs.declared.kind.Kind.TheVariants.{Elifndef, Else, Endif}
use Rattle.ud_model.specs.declared.kind.Role.{Role}
use Rattle.ud_model.specs.declared.kind.Role.TheVariants.{IfGroup, ElifGroup, ElseGroup, EndifLine}
use Rattle.ud_model.specs.declared.kind.Test.{Test}
use Rattle.ud_model.specs.declared.kind.Test.TheVariants.{Nonzero, Defined, Undefined, Nothing}
use Rattle.ud_model.specs.declared.kind.CommentAt.{CommentAt}
use Rattle.ud_model.specs.declared.kind.CommentAt.TheVariants.{Outside, InLine, InBlock}

-- A position in a line's body, and the number of bytes from there on.
pub record Span : Type 0 where
  pub at : ℕ
  pub len : ℕ

-- A directive that controls sections, as it is on its line.
pub record Directive : Type 0 where
  pub kind : Kind
  pub keyword : Span
  -- The masked bytes after the keyword.
  pub after : List ℕ
  -- A continuation cuts the directive: its line is spliced outside comments.
  pub broken : Bool

-- The content of a line, as far as sections go.
pub data Content : Type 0 where
  -- A keyword that a continuation cuts, so it can't be known whether the line has a directive.
  cut_keyword : Content
  directive : Directive → Content
  text : Content

-- The keywords, each with the kind of its directive.
abbrev pub keywords : List (List ℕ × Kind)
keywords =
    (codes "if", If) ∷ (codes "ifdef", Ifdef) ∷ (codes "ifndef", Ifndef)
    ∷ (codes "elif", Elif) ∷ (codes "elifdef", Elifdef) ∷ (codes "elifndef", Elifndef)
    ∷ (codes "else", Else) ∷ (codes "endif", Endif) ∷ []

-- `role_of kind`: the role of a directive in its section. It begins the section, opens a further
-- group with a condition or the last one, or ends the section.
abbrev pub role_of : Kind → Role
role_of If = IfGroup
role_of Ifdef = IfGroup
role_of Ifndef = IfGroup
role_of Elif = ElifGroup
role_of Elifdef = ElifGroup
role_of Elifndef = ElifGroup
role_of Else = ElseGroup
role_of Endif = EndifLine

-- `test_of kind`: the test that makes the condition of a directive true: the value of an
-- expression, or that a name is defined or isn't. An `#else` and an `#endif` have none.
abbrev pub test_of : Kind → Test
test_of If = Nonzero
test_of Ifdef = Defined
test_of Ifndef = Undefined
test_of Elif = Nonzero
test_of Elifdef = Defined
test_of Elifndef = Undefined
test_of Else = Nothing
test_of Endif = Nothing

-- `kind_among rows word`: the kind in the first of `rows` that has this word, or None.
abbrev pub kind_among : List (List ℕ × Kind) → List ℕ → Option Kind
kind_among [] word = None
kind_among (row ∷ rows) word = if bytes_eq word row.0 then Some row.1 else kind_among rows word

-- `kind_of word`: the kind of the keyword `word`, or None if it is no keyword.
abbrev pub kind_of : List ℕ → Option Kind
kind_of word = kind_among keywords word

-- `may_begin keyword a b`: `keyword` begins with the byte `a`, and with `a` and `b` if `b` is a
-- word byte. A keyword of fewer than two bytes may begin with any.
abbrev pub may_begin : List ℕ → ℕ → ℕ → Bool
may_begin [] a b = true
may_begin (x ∷ []) a b = true
may_begin (x ∷ y ∷ more) a b = (a == x) && (b == y || not (is_word_byte b))

-- `is_no_keyword a b`: a word begins with the byte `a`, before `b`, and no keyword may begin so. No
-- keyword begins with `x` or `ix`, but one may with `if`, or with `i` before a space.
abbrev pub is_no_keyword : ℕ → ℕ → Bool
is_no_keyword a b =
    is_word_byte a && not (list_any (λ (row : List ℕ × Kind). may_begin row.0 a b) keywords)

-- `skip_hash text`: the rest of `text` after the `#` that it begins with, or None.
abbrev pub skip_hash : List ℕ → Option (List ℕ)
skip_hash [] = None
skip_hash (b ∷ bs) = if b == 35 then Some bs else None

-- `skip_white_and_hash masked`: the rest of `masked` after its leading white space and a `#`, or
-- None.
abbrev pub skip_white_and_hash : List ℕ → Option (List ℕ)
skip_white_and_hash masked = skip_hash (skip_white masked)

-- `is_outside c`: no comment is open.
abbrev pub is_outside : CommentAt → Bool
is_outside Outside = true
is_outside InLine = false
is_outside InBlock = false

-- `is_in_line c`: a line comment is open.
abbrev pub is_in_line : CommentAt → Bool
is_in_line Outside = false
is_in_line InLine = true
is_in_line InBlock = false

-- `is_continued_outside_comment scan`: a continuation cuts the line outside comments.
abbrev pub is_continued_outside_comment : Scan → Bool
is_continued_outside_comment scan = scan.spliced && is_outside scan.comment

-- `is_prefix_of_keyword word`: `word` is a prefix of a keyword, or a whole keyword.
abbrev pub is_prefix_of_keyword : List ℕ → Bool
is_prefix_of_keyword word = list_any (λ (row : List ℕ × Kind). starts_with nat_eq row.0 word)
    keywords

-- `may_split_keyword scan rest`: the keyword that `rest` begins can't be known. `rest` follows the
-- `#` and white space. It is empty, or the line is cut outside comments within it: after a single
-- `/`, which may begin a comment, or after a prefix of a keyword.
abbrev pub may_split_keyword : Scan → List ℕ → Bool
may_split_keyword scan [] = true
may_split_keyword scan (b ∷ bs) = is_continued_outside_comment scan &&
    (bytes_eq (b ∷ bs) (47 ∷ []) || is_prefix_of_keyword (b ∷ bs))

-- `has_split_keyword scan rest`: the line is fresh and joins the next one, and the keyword in
-- `rest` can't be known. `rest` follows the `#`, if any.
abbrev pub has_split_keyword : Scan → Option (List ℕ) → Bool
has_split_keyword scan None = false
has_split_keyword scan (Some rest) =
    scan.fresh && scan.joins_after && not (is_in_line scan.comment) &&
    may_split_keyword scan (skip_white rest)

-- `directive_at scan rest kind`: the directive whose keyword `rest` begins with, or text if there
-- is no kind. `rest` is the end of the masked line.
abbrev pub directive_at : Scan → List ℕ → Option Kind → Content
directive_at scan rest None = text
directive_at scan rest (Some kind) = directive (record {
  kind = kind;
  keyword = record { at = length scan.masked - length rest; len = length (leading_word rest) };
  after = skip_word rest;
  broken = is_continued_outside_comment scan;
})

-- `content_after_hash scan rest`: the content of a line that has `rest` after its `#`, or text if
-- it has no `#` or isn't fresh.
abbrev pub content_after_hash : Scan → Option (List ℕ) → Content
content_after_hash scan None = text
content_after_hash scan (Some rest) =
    if scan.fresh then directive_at scan (skip_white rest)
    (kind_of (leading_word (skip_white rest)))
    else text

-- `content_of scan`: the content of a line with this scan. It is a directive if the line is fresh,
-- and its masked text begins with `#` and a keyword, white space before each. The keyword is a
-- longest run of word bytes.
abbrev pub content_of : Scan → Content
content_of scan =
    if has_split_keyword scan (skip_white_and_hash scan.masked) then cut_keyword
    else content_after_hash scan (skip_white_and_hash scan.masked)
