-- Printing: the output for a line.
-- unifdef(1): the lines that are kept, with edited directives if a neighbour was removed; `-b`,
-- `-c`, `-n`.
--
--   piece_by unpadded verdict keyword l
--                                   the piece of a line by its verdict alone
--   piece_after style before j      the piece of a judged line that follows others, in a style
--   pieces_by piece before js       the pieces of judged lines that follow others, each by all
--                                   lines before it
--   tree_pieces piece t             the pieces of the lines of a tree, each by all lines before it
--   printed_by settings xs ms       the pieces of these lines under these settings, joined in order
--   some_differ_by settings xs ms   some line's piece isn't the line itself
--
-- The piece of a line is what is printed for it.
--
-- Example: under `-n`, a line `x` with the number 5 after a removed line is printed as `#line 5`
-- and `x`.
use Rattle.std.specs.Prelude.{ℕ, ◌+◌, ◌==◌, List, [], ◌∷◌, ◌++◌, take, drop, map, Bool, true, false}
use Rattle.std.specs.Prelude.{not, ◌&&◌, ◌||◌, bytes_eq, codes, decimal, if◌then◌else◌}
use Rattle.std.specs.List.{concat}
use Rattle.ud_model.specs.text.Bytes.{newline}
use Rattle.ud_model.specs.text.Lines.{Line, text_of}
use Rattle.ud_model.specs.text.Scans.{Reading}
use Rattle.ud_model.specs.sections.Directives.{Span, Content, cut_keyword, directive, text}
use Rattle.ud_model.specs.sections.Directives.{content_of}
use Rattle.ud_model.specs.sections.Tree.{Item, Tree, lines}
use Rattle.ud_model.specs.sections.Pruning.{Mark, is_removed, marks}
use Rattle.ud_model.specs.sections.Items.{reading_of, line_of}
use Rattle.ud_model.specs.declared.settings.Settings.{Settings}
use Rattle.ud_model.specs.declared.verdict.Verdict.{Verdict}
use Rattle.ud_model.specs.declared.verdict.Verdict.TheVariants.{Keep, Remove, ToIf, ToElse, ToEndif}

-- `keyword_in content`: the span of the keyword. A text line has none.
abbrev pub keyword_in : Content → Span
keyword_in cut_keyword = record { at = 0; len = 0 }
keyword_in (directive d) = d.keyword
keyword_in text = record { at = 0; len = 0 }

-- `by_length len a b c`: `a` for a keyword as long as `elifdef`, `b` for one as long as `elifndef`,
-- else `c`.
abbrev pub by_length : {A : Type 0} → ℕ → A → A → A → A
by_length len a b c = if len == 7 then a else if len == 8 then b else c

-- `opener_keyword unpadded len`: the replacement of a keyword of this length in a directive that
-- becomes the first of its section. `elifdef` becomes `ifdef`, `elifndef` becomes `ifndef`, and any
-- other keyword `if`. Unless `unpadded`, two spaces follow for the lost bytes.
abbrev pub opener_keyword : Bool → ℕ → List ℕ
opener_keyword true len = by_length len (codes "ifdef") (codes "ifndef") (codes "if")
opener_keyword false len = by_length len (codes "ifdef  ") (codes "ifndef  ") (codes "if  ")

-- `piece_by unpadded verdict keyword l`: the piece of the line `l` by its verdict. An edited
-- directive keeps the bytes before its keyword. One that becomes the first of its section also
-- keeps the bytes after, and two spaces come before these unless `unpadded`.
abbrev pub piece_by : Bool → Verdict → Span → Line → List ℕ
piece_by unpadded Keep keyword l = text_of l
piece_by unpadded Remove keyword l = []
piece_by unpadded ToIf keyword l = take keyword.at l.body ++ opener_keyword unpadded keyword.len ++
    drop (keyword.at + keyword.len) l.body ++ l.ending
piece_by unpadded ToElse keyword l = take keyword.at l.body ++ codes "else" ++ l.ending
piece_by unpadded ToEndif keyword l = take keyword.at l.body ++ codes "endif" ++ l.ending

-- A judged line: a line with its verdict, and the span of its keyword.
pub record Judged : Type 0 where
  pub line : Line
  pub verdict : Verdict
  pub keyword : Span

-- The style in which lines are printed: removed ones blanked (`-b`), kept and removed ones swapped
-- (`-c`), numbers inserted (`-n`), keywords replaced without spaces (`-p` of unifdef-tree).
pub record Style : Type 0 where
  pub blank : Bool
  pub complement : Bool
  pub renumber : Bool
  pub unpadded : Bool

-- `style_of s`: the style under the settings `s`.
abbrev pub style_of : Settings → Style
style_of s = record {
  blank = s.blank;
  complement = s.complement;
  renumber = s.renumber;
  unpadded = s.unpadded;
}

-- `complement_verdict v`: Keep if the line would be removed, else Remove.
abbrev pub complement_verdict : Verdict → Verdict
complement_verdict v = if is_removed v then Keep else Remove

-- `complemented j`: the judged line `j` with its verdict under `-c`.
abbrev pub complemented : Judged → Judged
complemented j = record j { verdict = complement_verdict j.verdict }

-- `last_removed js`: the last line of `js` is removed.
abbrev pub last_removed : List Judged → Bool
last_removed [] = false
last_removed (j ∷ []) = is_removed j.verdict
last_removed (j ∷ k ∷ js) = last_removed (k ∷ js)

-- `ending_or_newline ending`: the ending, or a newline if it is empty.
abbrev pub ending_or_newline : List ℕ → List ℕ
ending_or_newline [] = newline ∷ []
ending_or_newline (b ∷ bs) = b ∷ bs

-- `number_line l`: the `#line` that gives the next line the number of `l` in the input (C11
-- 6.10.4).
abbrev pub number_line : Line → List ℕ
number_line l = codes "#line " ++ decimal l.number ++ ending_or_newline l.ending

-- `piece_alone unpadded blank j`: the piece of a line by itself. For a removed line it is empty, or
-- under `-b` the line's ending.
abbrev pub piece_alone : Bool → Bool → Judged → List ℕ
piece_alone unpadded blank j =
    if blank && is_removed j.verdict then j.line.ending
    else piece_by unpadded j.verdict j.keyword j.line

-- `is_numbered style before j`: a `#line` comes before `j`: under `-n`, if `j` isn't removed and
-- the line before it is, unless lines are blanked.
abbrev pub is_numbered : Style → List Judged → Judged → Bool
is_numbered style before j = style.renumber && not style.blank && last_removed before &&
    not (is_removed j.verdict)

-- `uncomplemented_piece style before j`: the piece of `j` after the lines `before`, by the verdicts
-- without `-c`.
abbrev pub uncomplemented_piece : Style → List Judged → Judged → List ℕ
uncomplemented_piece style before j =
    (if is_numbered style before j then number_line j.line else []) ++
    piece_alone style.unpadded style.blank j

-- `piece_after style before j`: the piece of `j` after the lines `before`. `-c` is applied first.
abbrev pub piece_after : Style → List Judged → Judged → List ℕ
piece_after style before j =
    if style.complement then uncomplemented_piece style (map complemented before) (complemented j)
    else uncomplemented_piece style before j

-- `pieces_by piece before js`: the pieces of the lines `js`, which follow `before`, if `piece`
-- gives the piece of a line after others.
abbrev pub pieces_by : (List Judged → Judged → List ℕ) → List Judged → List Judged → List (List ℕ)
pieces_by piece before [] = []
pieces_by piece before (j ∷ js) = piece before j ∷ pieces_by piece (before ++ j ∷ []) js

-- `some_other pieces js`: some piece isn't the line itself.
abbrev pub some_other : List (List ℕ) → List Judged → Bool
some_other [] js = false
some_other (p ∷ ps) [] = false
some_other (p ∷ ps) (j ∷ js) = not (bytes_eq p (text_of j.line)) || some_other ps js

-- `judged_line x m`: the line `x` with the mark `m`.
abbrev pub judged_line : Item Reading → Mark → Judged
judged_line x m = record {
  line = line_of x;
  verdict = m.verdict;
  keyword =
      keyword_in (content_of (reading_of x).scan);
}

-- `judged_lines xs ms`: the lines `xs` with the marks `ms`.
abbrev pub judged_lines : List (Item Reading) → List Mark → List Judged
judged_lines [] ms = []
judged_lines (x ∷ xs) [] = []
judged_lines (x ∷ xs) (m ∷ ms) = judged_line x m ∷ judged_lines xs ms

-- `tree_pieces piece t`: the pieces of the lines of the tree `t`, if `piece` gives the piece of a
-- line after others.
abbrev pub tree_pieces : (List Judged → Judged → List ℕ) → Tree Reading → List (List ℕ)
tree_pieces piece t = pieces_by piece [] (judged_lines (lines t) (marks t))

-- `pieces_under settings xs ms`: the pieces of the lines `xs` with the marks `ms`.
abbrev pub pieces_under : Settings → List (Item Reading) → List Mark → List (List ℕ)
pieces_under settings xs ms = pieces_by (piece_after (style_of settings)) [] (judged_lines xs ms)

-- `printed_by settings xs ms`: the output for the lines `xs` with the marks `ms`.
abbrev pub printed_by : Settings → List (Item Reading) → List Mark → List ℕ
printed_by settings xs ms = concat (pieces_under settings xs ms)

-- `some_differ_by settings xs ms`: the piece of some line isn't the line itself.
abbrev pub some_differ_by : Settings → List (Item Reading) → List Mark → Bool
some_differ_by settings xs ms = some_other (pieces_under settings xs ms) (judged_lines xs ms)
