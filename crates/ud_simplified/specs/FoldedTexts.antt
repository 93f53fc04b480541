-- Folded texts: a text in which each conditional directive is on one line.
-- C11 5.1.1.2, phases 2 and 3, and 6.10p5.
--
--   continued rs          the first of the lines `rs` that continue the logical line before them
--   folded_line rs        the single line that the lines of a directive form
--   shown_lines rs        the masked text of that line, by the scans of the lines
--   is_foldable rs        that line is masked so, and is a directive as the first of the lines is
--   IsReadAs e d rs       `e` is the directive `d` with the tokens of its line and the lines `rs`
--   logical_lines rs      the lines `rs` as logical lines
--   folded_text bytes     the text with each such directive on one line
--   restored_text bytes   the way back: the newlines in place of the vertical tabs
--   folded_readings rs    a logical line, or its folded line as it is read
--   c_lines bytes         the logical lines of a text as C reads them
--
-- Each newline that continues the directive becomes a vertical tab. The backslash before it is left
-- out, unless it lies in a comment. So a splice becomes white space, with white space beside it
-- already. A text that has a vertical tab stays as it is.
--
-- Example: `#if A || \`, `  B` becomes one line, with a vertical tab after `|| `. So does
-- `#else /* a`, `b */`, with one in the comment.
use Rattle.std.specs.Prelude.{◌≡◌, ℕ, ◌==◌, nat_le, List, [], ◌∷◌, ◌++◌, length, map, Bool, true}
use Rattle.std.specs.Prelude.{false, not, ◌&&◌, ◌||◌, if◌then◌else◌, bytes_eq}
use Rattle.std.specs.List.{flat_map, list_all, list_any}
use Rattle.ud_model.specs.text.Bytes.{backslash, space, is_white, is_quote}
use Rattle.ud_model.specs.aids.SpacedBytes.{spaced}
use Rattle.ud_model.specs.text.Lines.{Line, text_of, lines_of}
use Rattle.ud_model.specs.text.Splicing.{is_empty, content}
use Rattle.ud_model.specs.text.Scans.{Scan, Reading}
use Rattle.ud_model.specs.text.Scanning.{scan_after_run, next_reading}
use Rattle.ud_model.specs.sections.Directives.{Content, cut_keyword, directive, text, content_of}
use Rattle.ud_model.specs.sections.Directives.{Directive, is_outside}
use Rattle.ud_model.specs.conditions.Parsing.{tokens_of}
use Rattle.ud_model.specs.aids.ReadAs.{read_as}
use Rattle.ud_simplified.specs.SimplifiedTexts.{keeps_ending}
use Rattle.ud_model.specs.declared.kind.Kind.{Kind}
use Rattle.ud_model.specs.declared.kind.Mode.TheVariants.{C}
use Rattle.ud_model.specs.declared.limits.TheConstants.{MAX_LINE_BYTES}

-- The vertical tab, which represents a newline that continues a directive.
abbrev pub vertical_tab : ℕ
vertical_tab = 11

-- `has_tab bytes`: the bytes have a vertical tab.
abbrev pub has_tab : List ℕ → Bool
has_tab bytes = list_any (λ (b : ℕ). b == vertical_tab) bytes

-- 1. The line that lines form.

-- `continued rs`: the first of the lines `rs`, as long as each is joined to the line before it.
abbrev pub continued : List Reading → List Reading
continued [] = []
continued (r ∷ rs) = if r.scan.joins_before then r ∷ continued rs else []

-- `continued_part r`: the bytes of the line `r`, which joins the next one, with a vertical tab in
-- place of its newline.
abbrev pub continued_part : Reading → List ℕ
continued_part r =
    (if is_outside r.scan.comment then content r.line else r.line.body) ++ vertical_tab ∷ []

-- `folded_body rs`: the body of the line that the lines `rs` form.
abbrev pub folded_body : List Reading → List ℕ
folded_body [] = []
folded_body (r ∷ []) = r.line.body
folded_body (r ∷ s ∷ rs) = continued_part r ++ folded_body (s ∷ rs)

-- `last_ending rs`: the ending of the last line.
abbrev pub last_ending : List Reading → List ℕ
last_ending [] = []
last_ending (r ∷ []) = r.line.ending
last_ending (r ∷ s ∷ rs) = last_ending (s ∷ rs)

-- `folded_line rs`: the single line that the lines `rs` form.
abbrev pub folded_line : List Reading → Line
folded_line rs = record { body = folded_body rs; ending = last_ending rs; number = 1 }

-- 2. Whether it is read like its lines.

-- `shown_break scan`: the masked form of this vertical tab, and of a splice's backslash that stays
-- in a comment.
abbrev pub shown_break : Scan → List ℕ
shown_break scan =
    if is_outside scan.comment then vertical_tab ∷ []
    else if scan.spliced then space ∷ space ∷ []
    else space ∷ []

-- `shown_lines rs`: the masked lines `rs`, with such bytes between them.
abbrev pub shown_lines : List Reading → List ℕ
shown_lines [] = []
shown_lines (r ∷ []) = r.scan.masked
shown_lines (r ∷ s ∷ rs) = r.scan.masked ++ shown_break r.scan ++ shown_lines (s ∷ rs)

-- `is_blank b`: white space other than a vertical tab.
abbrev pub is_blank : ℕ → Bool
is_blank b = is_white b && not (b == vertical_tab)

-- `blank_follows bytes`: after vertical tabs comes such a byte, or the end.
abbrev pub blank_follows : List ℕ → Bool
blank_follows [] = true
blank_follows (b ∷ bytes) = if b == vertical_tab then blank_follows bytes else is_blank b

-- `tabs_are_beside blank bytes`: other white space, or the end, is beside each vertical tab. If
-- `blank`, such white space precedes the bytes.
abbrev pub tabs_are_beside : Bool → List ℕ → Bool
tabs_are_beside blank [] = true
tabs_are_beside blank (b ∷ bytes) =
    if b == vertical_tab then (blank || blank_follows bytes) && tabs_are_beside blank bytes
    else tabs_are_beside (is_blank b) bytes

-- `has_no_quote bytes`: no literal begins among the masked bytes.
abbrev pub has_no_quote : List ℕ → Bool
has_no_quote bytes = not (list_any is_quote bytes)

-- `is_directive content`: the content is a directive.
abbrev pub is_directive : Content → Bool
is_directive (directive d) = true
is_directive cut_keyword = false
is_directive text = false

-- `begins_directive rs`: the first of the lines has the keyword of a directive.
abbrev pub begins_directive : List Reading → Bool
begins_directive [] = false
begins_directive (r ∷ rs) = is_directive (content_of r.scan)

-- `are_alike rs ending`: each of the lines has this ending.
abbrev pub are_alike : List Reading → List ℕ → Bool
are_alike rs ending = list_all (λ (r : Reading). bytes_eq r.line.ending ending) rs

-- `fits k`: the line `k` isn't over the limit.
abbrev pub fits : Line → Bool
fits k = nat_le (length (text_of k)) MAX_LINE_BYTES

-- `is_shown_as scan bytes`: a line with this scan is a directive by itself, with these masked
-- bytes. They have no quote, and white space is beside each vertical tab.
abbrev pub is_shown_as : Scan → List ℕ → Bool
is_shown_as scan bytes = is_directive (content_of scan) && not scan.joins_after &&
    bytes_eq scan.masked bytes && has_no_quote bytes && tabs_are_beside true bytes

-- `is_foldable rs`: the lines `rs` have the same ending, and form such a line.
abbrev pub is_foldable : List Reading → Bool
is_foldable rs = begins_directive rs && not (is_empty (last_ending rs)) &&
    are_alike rs (last_ending rs) && fits (folded_line rs) && keeps_ending (folded_line rs) &&
    is_shown_as (scan_after_run [] (folded_line rs)) (shown_lines rs)

-- 3. The directive of this line.

-- `joined_after d rs`: the masked bytes after the keyword of the directive `d`, and those of the
-- lines `rs`, which continue it.
abbrev pub joined_after : Directive → List Reading → List ℕ
joined_after d rs = d.after ++ flat_map (λ (r : Reading). r.scan.masked) rs

-- `IsReadAs e d rs`: the directive `e` has the kind and the keyword of `d`, which the lines `rs`
-- continue. After the keyword come the same bytes but for white space, and the same tokens.
pub record IsReadAs (e d : Directive) (rs : List Reading) : Type 0 where
  pub kind : e.kind ≡ d.kind
  pub keyword : e.keyword ≡ d.keyword
  pub bytes : spaced true e.after ≡ spaced true (joined_after d rs)
  pub tokens : tokens_of e.after ≡ tokens_of (joined_after d rs)

-- 4. Texts.

-- `folded_bytes rs`: the bytes of a logical line with the lines `rs`, as one line if they are
-- foldable.
abbrev pub folded_bytes : List Reading → List ℕ
folded_bytes rs =
    if is_foldable rs then text_of (folded_line rs)
    else flat_map (λ (r : Reading). text_of r.line) rs

-- `logical_lines rs`: the lines `rs` as logical lines: each line that isn't joined to the one
-- before, with the lines that continue it.
abbrev pub logical_lines : List Reading → List (List Reading)
logical_lines [] = []
logical_lines (r ∷ rs) =
    if r.scan.joins_before then logical_lines rs else (r ∷ continued rs) ∷ logical_lines rs

-- `folded_lines rs`: the bytes of the logical lines that the lines `rs` form.
abbrev pub folded_lines : List Reading → List ℕ
folded_lines rs = flat_map folded_bytes (logical_lines rs)

-- `folded_text bytes`: the text with each foldable directive on one line.
abbrev pub folded_text : List ℕ → List ℕ
folded_text bytes = if has_tab bytes then bytes else folded_lines (read_as C bytes)

-- `restored_byte ending b m`: the bytes that the byte `b` represents if it is masked as `m`.
abbrev pub restored_byte : List ℕ → ℕ → ℕ → List ℕ
restored_byte ending b m =
    if b == vertical_tab then (if m == vertical_tab then backslash ∷ ending else ending)
    else b ∷ []

-- `restored_body ending bytes masked`: the bytes of a body masked as `masked`. Bytes after the
-- masked ones stay.
abbrev pub restored_body : List ℕ → List ℕ → List ℕ → List ℕ
restored_body ending [] masked = []
restored_body ending (b ∷ bytes) [] = b ∷ bytes
restored_body ending (b ∷ bytes) (m ∷ masked) =
    restored_byte ending b m ++ restored_body ending bytes masked

-- `restored_line l`: the lines that the line `l` represents, by its scan as the first line of a
-- text.
abbrev pub restored_line : Line → List ℕ
restored_line l =
    if fits l then restored_body l.ending l.body (scan_after_run [] l).masked ++ l.ending
    else text_of l

-- `restored_text bytes`: the text with newlines in place of the vertical tabs.
abbrev pub restored_text : List ℕ → List ℕ
restored_text bytes = flat_map restored_line (lines_of bytes)

-- 5. What C reads.

-- `folded_readings rs`: the logical line with the lines `rs`, or its folded line as it is read by
-- itself.
abbrev pub folded_readings : List Reading → List Reading
folded_readings rs = if is_foldable rs then next_reading [] C (folded_line rs) ∷ [] else rs

-- `unnumbered r`: the reading `r` without the number of its line.
abbrev pub unnumbered : Reading → Reading
unnumbered r = record {
  line = record { body = r.line.body; ending = r.line.ending; number = 0 };
  mode = r.mode;
  scan = r.scan;
}

-- A logical line as C reads it.
pub data CLine : Type 0 where
  -- A directive of this kind, with these bytes after the keyword.
  directive_line : Kind → List ℕ → CLine
  -- Other lines, as they are read.
  other_lines : List Reading → CLine

-- `c_line_by content rs other`: the directive of a line with this content, which the lines `rs`
-- continue, as C reads it; or `other` if there is none.
abbrev pub c_line_by : Content → List Reading → CLine → CLine
c_line_by (directive d) rs other = directive_line d.kind (spaced true (joined_after d rs))
c_line_by cut_keyword rs other = other
c_line_by text rs other = other

-- `c_line_in all rs`: the logical line `all` as C reads it, if its lines before `rs` have no
-- directive.
abbrev pub c_line_in : List Reading → List Reading → CLine
c_line_in all [] = other_lines all
c_line_in all (r ∷ rs) = c_line_by (content_of r.scan) rs (c_line_in all rs)

-- `c_line rs`: the logical line with the lines `rs` as C reads it.
abbrev pub c_line : List Reading → CLine
c_line rs = c_line_in rs rs

-- `c_lines bytes`: the logical lines of the text as C reads them, without the numbers of lines.
abbrev pub c_lines : List ℕ → List CLine
c_lines bytes = map c_line (logical_lines (map unnumbered (read_as C bytes)))
