-- Simplified texts: a text without the operands of its conditions that the table decides.
-- C11 6.10.1.
--
--   left_line l d           the line `l` of the directive `d` with the cells of its text that are
--                           left
--   simplified_line r       this line, or the line that was read
--   simplified_text bytes   the text of such lines
--   simplified_under o bytes
--                           this text, by the table and the rules of the options `o`
--
-- A line changes only if it has an `#if` or an `#elif`, joins no other line, and has an ending. And
-- the edited line, read by itself, must join no other line and have the same directive, the same
-- ending, and exactly the cells that are left after the keyword. For example, removing operands may
-- put a carriage return before the newline.
--
-- A line with an `#else` or an `#endif` changes likewise, if its comment is read as a condition
-- (CommentTexts). Then only white space follows both keywords outside comments.
--
-- An edited line keeps its number, so both texts have the same count of lines.
--
-- Example: with A undefined, `#if A || X // c` becomes `#if X // c`, and `#if!A&&X` stays. And
-- `#endif /* A || X */` becomes `#endif /* X */`.
use Rattle.std.specs.Prelude.{ℕ, ◌+◌, List, [], ◌++◌, map, take, drop, Bool, true, false, not, ◌&&◌}
use Rattle.std.specs.Prelude.{if◌then◌else◌, bytes_eq}
use Rattle.std.specs.List.{concat}
use Rattle.ud_model.specs.text.Bytes.{are_white}
use Rattle.ud_model.specs.text.Lines.{Line, text_of, ending_of}
use Rattle.ud_model.specs.text.Scans.{Scan, Reading, is_spanning}
use Rattle.ud_model.specs.text.Splicing.{is_empty}
use Rattle.ud_model.specs.text.Lexemes.{Cell, shown}
use Rattle.ud_model.specs.text.Scanning.{content_cells, scan_after_run}
use Rattle.ud_model.specs.sections.Directives.{Content, cut_keyword, directive, text, Directive}
use Rattle.ud_model.specs.sections.Directives.{content_of}
use Rattle.ud_model.specs.sections.Items.{Options, rules_of}
use Rattle.ud_model.specs.conditions.Table.{Argument}
use Rattle.ud_model.specs.conditions.Conditions.{Rules}
use Rattle.ud_simplified.specs.ResidualTexts.{simplified_cells}
use Rattle.ud_simplified.specs.CommentTexts.{comment_cells}
use Rattle.ud_model.specs.aids.ReadAs.{read_as}
use Rattle.ud_model.specs.declared.kind.Kind.{Kind}
use Rattle.ud_model.specs.declared.kind.Kind.TheVariants.{If, Elif, Else, Endif}
use Rattle.ud_model.specs.declared.kind.Mode.TheVariants.{C}

-- `keyword_end d`: the position in the line at which the text after the keyword begins.
abbrev pub keyword_end : Directive → ℕ
keyword_end d = d.keyword.at + d.keyword.len

-- `condition_cells l d`: the cells of this text, if the line `l` joins no other line.
abbrev pub condition_cells : Line → Directive → List Cell
condition_cells l d = drop (keyword_end d) (content_cells [] l)

-- `is_closing k`: an `#else` or an `#endif`.
abbrev pub is_closing : Kind → Bool
is_closing Else = true
is_closing Endif = true
is_closing _ = false

-- `text_cells l d`: the cells of the text that may be edited: a condition, or the comment of an
-- `#else` or `#endif`.
abbrev pub text_cells : Line → Directive → List Cell
text_cells l d = if is_closing d.kind then comment_cells (drop (keyword_end d) l.body)
    else condition_cells l d

-- `same_kind k j`: both are `#if`, or both `#elif`, `#else` or `#endif`.
abbrev pub same_kind : Kind → Kind → Bool
same_kind If If = true
same_kind Elif Elif = true
same_kind Else Else = true
same_kind Endif Endif = true
same_kind _ _ = false

-- `has_text bytes k d e`: on the line `k` with the directive `e`, edited from `d`, the text that
-- may be edited is shown as `bytes`. Beside a comment of either directive is only white space.
abbrev pub has_text : List ℕ → Line → Directive → Directive → Bool
has_text bytes k d e =
    if is_closing d.kind then are_white d.after && are_white e.after &&
    bytes_eq (map shown (comment_cells (drop (keyword_end e) k.body))) bytes
    else bytes_eq e.after bytes

-- `has_directive d bytes k content`: the line `k` with this content has a directive of the kind of
-- `d`, and this text that may be edited.
abbrev pub has_directive : Directive → List ℕ → Line → Content → Bool
has_directive d bytes k (directive e) = same_kind d.kind e.kind && has_text bytes k d e
has_directive d bytes k cut_keyword = false
has_directive d bytes k text = false

-- `keeps_ending k`: the bytes of the line `k`, read as a line, have the ending of `k`.
abbrev pub keeps_ending : Line → Bool
keeps_ending k = bytes_eq (ending_of (text_of k)) k.ending

-- `is_lone scan l`: the line `l` joins no other line, and has an ending.
abbrev pub is_lone : Scan → Line → Bool
is_lone scan l = not (is_spanning scan) && not (is_empty l.ending)

module _ (table : List Argument) (rules : Rules) where
  -- `left_cells_of l d`: the cells of this text that are left.
  abbrev pub left_cells_of : Line → Directive → List Cell
  left_cells_of l d = simplified_cells table rules (text_cells l d)

  -- `left_line l d`: the line `l` with the cells of this text that are left.
  abbrev pub left_line : Line → Directive → Line
  left_line l d = record {
    body = take (keyword_end d) l.body ++ map (λ (c : Cell). c.byte) (left_cells_of l d);
    ending = l.ending;
    number = l.number;
  }

  -- `is_read_back l d scan`: a line with this scan is read as such a directive.
  abbrev pub is_read_back : Line → Directive → Scan → Bool
  is_read_back l d scan = not scan.joins_after &&
      has_directive d (map shown (left_cells_of l d)) (left_line l d) (content_of scan)

  -- `is_read_alone l d`: the edited line, read by itself, is read as meant.
  abbrev pub is_read_alone : Line → Directive → Bool
  is_read_alone l d = keeps_ending (left_line l d) &&
      is_read_back l d (scan_after_run [] (left_line l d))

  -- `may_change scan l d`: the line `l` with the directive `d` may be edited.
  abbrev pub may_change : Scan → Line → Directive → Bool
  may_change scan l d = is_lone scan l && is_read_alone l d

  -- `line_by scan l content`: the line `l` with this content as edited, or the line itself.
  abbrev pub line_by : Scan → Line → Content → Line
  line_by scan l (directive d) = if may_change scan l d then left_line l d else l
  line_by scan l cut_keyword = l
  line_by scan l text = l

  -- `simplified_line r`: the line without the operands that the table decides.
  abbrev pub simplified_line : Reading → Line
  simplified_line r = line_by r.scan r.line (content_of r.scan)

  -- `simplified_text bytes`: the text without the operands that the table decides.
  abbrev pub simplified_text : List ℕ → List ℕ
  simplified_text bytes = concat (map (λ r. text_of (simplified_line r)) (read_as C bytes))

-- `simplified_under o bytes`: the text without the operands that the options `o` decide.
abbrev pub simplified_under : Options → List ℕ → List ℕ
simplified_under o bytes = simplified_text o.table (rules_of o.settings) bytes
