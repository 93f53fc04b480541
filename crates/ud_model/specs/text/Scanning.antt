-- Scanning: the scan of a line after the lines before it.
-- C11 5.1.1.2, phases 2 and 3, and 6.4.9; unifdef(1), `-t`.
--
--   joins lines                   the last of the lines joins the one after it, by a splice or a
--                                 comment
--   comment_at spliced kind       the comment left open at the end of a line
--   scan_after_run run line       the scan of a line in C mode after a C run
--   scan_after before mode line   the scan of a line in this mode after these readings
--   next_reading before mode l    the reading of the line, with its mode and its scan
--   readings_of lines             the readings of these lines, each in its mode
--   content_cells run line        the cells of a line's content after a C run
--
-- Later lines never change a scan. A `/` before a splice is a single byte until the next line is
-- read. It may then turn out to begin a comment.
--
-- Example: after the line `/\`, which isn't blank, the line `* c */ #ifdef A` is shown as seven
-- spaces and `#ifdef A`. It is fresh, for the `/` before it has become the first byte of a comment.
use Rattle.std.specs.Prelude.{List, [], ◌∷◌, ◌++◌, length, take, drop, map, Bool}
use Rattle.std.specs.Prelude.{true, false, ◌||◌, if◌then◌else◌}
use Rattle.std.specs.List.{list_all}
use Rattle.ud_model.specs.text.Bytes.{is_white}
use Rattle.ud_model.specs.text.Lines.{Line}
use Rattle.ud_model.specs.text.Scans.{Scan, Reading, plain_scan}
use Rattle.ud_model.specs.text.Splicing.{is_spliced, content, spliced_part, spliced_text, c_run_of}
use Rattle.ud_model.specs.text.Splicing.{last_is_spliced}
use Rattle.ud_model.specs.text.Lexemes.{LexemeKind, block_comment, line_comment, literal, single}
use Rattle.ud_model.specs.text.Lexemes.{Cell, lex, shown, open_line, kind_at_end}
use Rattle.ud_model.specs.declared.kind.Mode.{Mode}
use Rattle.ud_model.specs.declared.kind.Mode.TheVariants.{C, Plain}
use Rattle.ud_model.specs.declared.kind.CommentAt.{CommentAt}
use Rattle.ud_model.specs.declared.kind.CommentAt.TheVariants.{Outside, InLine, InBlock}

-- `is_block kind`: the lexeme is a block comment.
abbrev pub is_block : LexemeKind → Bool
is_block block_comment = true
is_block line_comment = false
is_block literal = false
is_block single = false

-- `joins lines`: the last of `lines` joins the line after it, by a splice or a comment.
unfoldable pub joins : List Line → Bool
joins lines = last_is_spliced lines || is_block (kind_at_end (spliced_text lines))

-- `comment_at spliced kind`: the comment left open at the end of a line that ends in a lexeme of
-- this kind. A line comment continues only if the line is spliced.
abbrev pub comment_at : Bool → LexemeKind → CommentAt
comment_at spliced block_comment = InBlock
comment_at spliced line_comment = if spliced then InLine else Outside
comment_at spliced literal = Outside
comment_at spliced single = Outside

-- `is_blank cells`: each cell is shown as white space.
abbrev pub is_blank : List Cell → Bool
is_blank cells = list_all (λ c. is_white (shown c)) cells

-- `content_cells run line`: the cells of the content of `line`, which follows the C run `run`.
abbrev pub content_cells : List Line → Line → List Cell
content_cells run line = take (length (content line))
    (drop (length (spliced_text run)) (lex (spliced_text run ++ spliced_part line)))

-- `scan_after_run run line`: the scan of `line` in C mode, after the C run `run`.
unfoldable pub scan_after_run : List Line → Line → Scan
scan_after_run run line =
    record {
      masked = map shown (content_cells run line);
      fresh = is_blank (open_line []
          (take (length (spliced_text run)) (lex (spliced_text run ++ spliced_part line))));
      joins_before = joins run;
      joins_after = joins (run ++ line ∷ []);
      spliced = is_spliced line;
      comment = comment_at (is_spliced line) (kind_at_end (spliced_text run ++ spliced_part line));
    }

-- `scan_after before mode line`: the scan of `line`, which is read in this mode after the readings
-- `before`.
abbrev pub scan_after : List Reading → Mode → Line → Scan
scan_after before C line = scan_after_run (c_run_of before) line
scan_after before Plain line = plain_scan line

-- `next_reading before mode line`: the reading of `line` in this mode, after the readings `before`.
abbrev pub next_reading : List Reading → Mode → Line → Reading
next_reading before mode line =
    record { line = line; mode = mode; scan = scan_after before mode line }

-- `readings_after before lines`: the readings `before`, followed by those of `lines`, each in its
-- mode.
abbrev pub readings_after : List Reading → List (Mode × Line) → List Reading
readings_after before [] = before
readings_after before (l ∷ lines) =
    readings_after (before ++ next_reading before l.0 l.1 ∷ []) lines

-- `readings_of lines`: the readings of `lines`, each in its mode.
abbrev pub readings_of : List (Mode × Line) → List Reading
readings_of lines = readings_after [] lines
