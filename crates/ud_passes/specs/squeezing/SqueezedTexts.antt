-- SqueezedTexts: an output without the blank lines that only stood there because of lines that
-- went.
--
--   stays m, is_gap ms, after_stay ms   what the marks of the lines of the input say
--   opens scan, closes scan   a line that no blank line should follow, or precede
--   is_blank_line body scan   a blank line that joins no other line
--   places ms rs            the lines `rs` of the output, and its end
--   parts n gaps below      how many blank lines of a stretch are between gaps
--   left above below ps     how many lines of the stretch stay
--   stay_flags above gaps ps   whether each line stays
--   squeezed_text ms output    the output without the lines that go
--   squeezed_marks ms output   the marks of the lines of the input, by the squeezed text
--
-- A gap is a place in the output where lines of the input went. A stretch is a longest run of blank
-- lines. Gaps cut it into parts. As many lines of it stay as its longest part has, the first ones.
-- If the line above opens a block, as many stay as the first part has; if the line below closes
-- one, as the last part has. The beginning of the text opens, and its end closes. Directives open
-- and close nothing, but of a stretch that is all of a group, none stays. Without a gap all lines
-- are one part, and stay.
--
-- Example: of `a;`, blank, a section that goes, blank, `b;` one blank line stays. None stays if `}`
-- comes right after the section, in place of the second blank line.
use Rattle.std.specs.Prelude.{ℕ, suc, ◌-◌, ◌==◌, List, [], ◌∷◌, ◌++◌, length, min, max, reverse}
use Rattle.std.specs.Prelude.{replicate, Bool, true, false, not, ◌&&◌, ◌||◌, if◌then◌else◌}
use Rattle.std.specs.Prelude.{Option, Some, None}
use Rattle.std.specs.List.{concat}
use Rattle.ud_model.specs.text.Bytes.{skip_white, starts_with_byte}
use Rattle.ud_model.specs.text.Lines.{texts_of}
use Rattle.ud_model.specs.text.Splicing.{is_empty}
use Rattle.ud_model.specs.text.Scans.{Scan, Reading, is_spanning}
use Rattle.ud_model.specs.sections.Directives.{Content, cut_keyword, directive, text, content_of}
use Rattle.ud_model.specs.sections.Directives.{role_of}
use Rattle.ud_model.specs.aids.ReadAs.{read_as}
use Rattle.ud_model.specs.declared.kind.Mode.TheVariants.{C}
use Rattle.ud_model.specs.declared.kind.Role.{Role}
use Rattle.ud_model.specs.declared.kind.Role.TheVariants.{IfGroup, ElifGroup, ElseGroup, EndifLine}
use Rattle.ud_passes.specs.declared.diff.script.TheConstants.{SAME, EDITED}
use Rattle.ud_passes.specs.Passes.{fits}
use Rattle.ud_passes.specs.declared.squeezing.places.Place.{Place}
use Rattle.ud_passes.specs.declared.squeezing.marks.TheConstants.{SQUEEZED}

-- 1. Gaps, by the marks of the lines of the input.

-- `stays m`: a line with the mark `m` stays: it is the same, or another line replaces it.
abbrev pub stays : ℕ → Bool
stays m = m == SAME || m == EDITED

-- `is_gap ms`: of lines with the marks `ms`, the first one went.
abbrev pub is_gap : List ℕ → Bool
is_gap [] = false
is_gap (m ∷ ms) = not (stays m)

-- `after_stay ms`: the marks after the first line that stays.
abbrev pub after_stay : List ℕ → List ℕ
after_stay [] = []
after_stay (m ∷ ms) = if stays m then ms else after_stay ms

-- 2. Lines.

-- `begins_group role`: a group follows a directive with this role.
abbrev pub begins_group : Option Role → Bool
begins_group (Some IfGroup) = true
begins_group (Some ElifGroup) = true
begins_group (Some ElseGroup) = true
begins_group (Some EndifLine) = false
begins_group None = false

-- `ends_group role`: a directive with this role ends the group before it.
abbrev pub ends_group : Option Role → Bool
ends_group (Some IfGroup) = false
ends_group (Some ElifGroup) = true
ends_group (Some ElseGroup) = true
ends_group (Some EndifLine) = true
ends_group None = false

-- `role_in content`: the role of the directive, if the content is one.
abbrev pub role_in : Content → Option Role
role_in (directive d) = Some (role_of d.kind)
role_in cut_keyword = None
role_in text = None

-- `opens scan`: the last byte outside comments, but for white space, is `{`.
abbrev pub opens : Scan → Bool
opens scan = starts_with_byte 123 (skip_white (reverse scan.masked))

-- `closes scan`: the first such byte is `}`.
abbrev pub closes : Scan → Bool
closes scan = starts_with_byte 125 (skip_white scan.masked)

-- `is_blank_line body scan`: the body is empty, and the line joins no other one.
abbrev pub is_blank_line : List ℕ → Scan → Bool
is_blank_line body scan = is_empty body && not (is_spanning scan)

-- `scanned_place gap body scan`: a line with this body and this scan, with a gap before it or not.
abbrev pub scanned_place : Bool → List ℕ → Scan → Place
scanned_place gap body scan = record {
  gap = gap;
  blank = is_blank_line body scan;
  opens = opens scan;
  closes = closes scan;
  role = role_in (content_of scan);
}

-- `bare_place gap edge`: a line over the limit or, if `edge`, the beginning or the end of the
-- output, which opens and closes.
abbrev pub bare_place : Bool → Bool → Place
bare_place gap edge =
    record { gap = gap; blank = false; opens = edge; closes = edge; role = None }

-- `place_of gap r`: the line `r`.
abbrev pub place_of : Bool → Reading → Place
place_of gap r = if fits r.line then scanned_place gap r.line.body r.scan else bare_place gap false

-- `places ms rs`: the lines `rs` of the output for an input whose lines have the marks `ms`, and
-- the end.
abbrev pub places : List ℕ → List Reading → List Place
places ms [] = bare_place (is_gap ms) true ∷ []
places ms (r ∷ rs) = place_of (is_gap ms) r ∷ places (after_stay ms) rs

-- 3. Stretches.

-- `parts n gaps below`: the lengths of the parts of a stretch. Its lines have gaps before them as
-- `gaps` says, and the line below has one if `below`. The first part has `n` lines more.
abbrev pub parts : ℕ → List Bool → Bool → List ℕ
parts n [] below = if below then n ∷ 0 ∷ [] else n ∷ []
parts n (gap ∷ gaps) below =
    if gap then n ∷ parts 1 gaps below else parts (suc n) gaps below

-- `first_part ps`: the length of the first part.
abbrev pub first_part : List ℕ → ℕ
first_part [] = 0
first_part (n ∷ ps) = n

-- `last_part ps`: the length of the last part.
abbrev pub last_part : List ℕ → ℕ
last_part [] = 0
last_part (n ∷ []) = n
last_part (n ∷ m ∷ ps) = last_part (m ∷ ps)

-- `longest_part ps`: the length of the longest part.
abbrev pub longest_part : List ℕ → ℕ
longest_part [] = 0
longest_part (n ∷ ps) = max n (longest_part ps)

-- `only_part ps`: the length of the only part, and 0 if there are several.
abbrev pub only_part : List ℕ → ℕ
only_part [] = 0
only_part (n ∷ []) = n
only_part (n ∷ m ∷ ps) = 0

-- `left above below ps`: how many lines of a stretch with the parts `ps` stay between these lines.
-- In a group with nothing else, only a stretch without a gap stays.
abbrev pub left : Place → Place → List ℕ → ℕ
left above below ps =
    if begins_group above.role && ends_group below.role then only_part ps
    else if above.opens && below.closes then min (first_part ps) (last_part ps)
    else if above.opens then first_part ps
    else if below.closes then last_part ps
    else longest_part ps

-- `first_ones n k`: of `n` lines, the first `k` stay.
abbrev pub first_ones : ℕ → ℕ → List Bool
first_ones n k = replicate (min k n) true ++ replicate (n - k) false

-- `stay_flags above gaps ps`: whether each of the lines `ps` stays, and the blank lines right
-- before them, which have gaps before them as `gaps` says. The line `above` is right above these.
abbrev pub stay_flags : Place → List Bool → List Place → List Bool
stay_flags above gaps [] = []
stay_flags above gaps (p ∷ ps) =
    if p.blank then stay_flags above (gaps ++ p.gap ∷ []) ps
    else first_ones (length gaps) (left above p (parts 0 gaps p.gap)) ++
    true ∷ stay_flags p [] ps

-- 4. Texts.

-- `flags_in ms output`: whether each line of the output stays.
abbrev pub flags_in : List ℕ → List ℕ → List Bool
flags_in ms output = stay_flags (bare_place false true) [] (places ms (read_as C output))

-- `first_flag flags`: the next line stays, as it does if no flag is left.
abbrev pub first_flag : List Bool → Bool
first_flag [] = true
first_flag (f ∷ flags) = f

-- `later_flags flags`: the flags after the first one.
abbrev pub later_flags : List Bool → List Bool
later_flags [] = []
later_flags (f ∷ flags) = flags

-- `kept_lines flags ls`: those of the lines `ls` that stay.
abbrev pub kept_lines : List Bool → List (List ℕ) → List (List ℕ)
kept_lines flags [] = []
kept_lines flags (l ∷ ls) =
    if first_flag flags then l ∷ kept_lines (later_flags flags) ls
    else kept_lines (later_flags flags) ls

-- `squeezed_text ms output`: the output without the lines that go. The lines of the input have the
-- marks `ms`.
abbrev pub squeezed_text : List ℕ → List ℕ → List ℕ
squeezed_text ms output = concat (kept_lines (flags_in ms output) (texts_of output))

-- `marks_with ms flags`: the marks `ms`, with the flags of the lines of the output. A line of the
-- input has the mark `SQUEEZED` if it is in the output and goes.
abbrev pub marks_with : List ℕ → List Bool → List ℕ
marks_with [] flags = []
marks_with (m ∷ ms) flags =
    if stays m then (if first_flag flags then m else SQUEEZED) ∷ marks_with ms (later_flags flags)
    else m ∷ marks_with ms flags

-- `squeezed_marks ms output`: the marks of the lines of the input, by the squeezed text.
abbrev pub squeezed_marks : List ℕ → List ℕ → List ℕ
squeezed_marks ms output = marks_with ms (flags_in ms output)
