-- Marks: a mark for each line of a text that says what the run makes of it.
--
--   plain_piece blank j       what is printed for the judged line `j`
--   mark_of blank j           the mark of a line that doesn't stay as it is
--   stays_by blank j          it is printed as it is
--   mark_piece blank j        the line, after its mark if it isn't
--   verdict_by s v            the verdict `v`, under `-c` if the settings have that
--   judged_by s j             the judged line with this verdict
--   first_text ls, later_texts ls   the first of some lines, and the others
--   read_mark line shown      the mark of a line, by what is printed for it
--   read_marks ls shown       the marks of the lines `ls`, by the lines that are printed for them
--   mark_by s j               the mark of the judged line `j`
--   AreMarks o text ms        the marks of a text
--   marked_piece s before j   what a printer of marks prints for `j`
--   PrintsMarks o text new    its output for a text
--
-- Example: of a kept line `x` and a removed line `y`, the pieces are `x` and `y` after a byte 0,
-- and the marks are `=` and 0.
use Rattle.std.specs.Prelude.{◌≡◌, ℕ, List, [], ◌∷◌, Bool, bytes_eq, if◌then◌else◌, not, map}
use Rattle.std.specs.Prelude.{◌&&◌, None, slice_index, false}
use Rattle.ud_model.specs.text.Lines.{text_of, texts_of}
use Rattle.ud_model.specs.text.Scans.{Reading}
use Rattle.ud_model.specs.sections.Items.{Options}
use Rattle.ud_model.specs.sections.Tree.{Item, Tree}
use Rattle.ud_model.specs.sections.Pruning.{is_removed, marks}
use Rattle.ud_model.specs.answer.Printing.{Judged, judged_lines, piece_by, complement_verdict}
use Rattle.ud_model.specs.declared.verdict.Verdict.{Verdict}
use Rattle.ud_model.specs.answer.Outcomes.{ReadsAs}
use Rattle.ud_model.specs.declared.settings.Settings.{Settings}
use Rattle.ud_engine.specs.ProcessedLines.{text_by}
use Rattle.ud_passes.specs.declared.diff.script.TheConstants.{SAME, EDITED}
use Rattle.ud_replace.specs.declared.marked.TheConstants.{REMOVED}

-- `plain_piece blank j`: what is printed for `j`. A removed line leaves its ending if `blank`.
abbrev pub plain_piece : Bool → Judged → List ℕ
plain_piece blank j = if is_removed j.verdict then (if blank then j.line.ending else [])
    else piece_by false j.verdict j.keyword j.line

-- `mark_of blank j`: the mark of a removed line, or of one that another line replaces.
abbrev pub mark_of : Bool → Judged → ℕ
mark_of blank j = if is_removed j.verdict && not blank then REMOVED else EDITED

-- `stays_by blank j`: what is printed for `j` is its line.
abbrev pub stays_by : Bool → Judged → Bool
stays_by blank j = bytes_eq (plain_piece blank j) (text_of j.line)

-- `mark_piece blank j`: the line of `j` if it stays, else the line after its mark.
abbrev pub mark_piece : Bool → Judged → List ℕ
mark_piece blank j =
    if stays_by blank j then plain_piece blank j else mark_of blank j ∷ text_of j.line

-- `verdict_by s v`: the verdict `v`, under `-c` if the settings `s` have that.
abbrev pub verdict_by : Settings → Verdict → Verdict
verdict_by s v = if s.complement then complement_verdict v else v

-- `judged_by s j`: the judged line `j` with this verdict.
abbrev pub judged_by : Settings → Judged → Judged
judged_by s j = record j { verdict = verdict_by s j.verdict }

-- `first_text ls`: the first of the lines `ls`, or nothing if there is none.
abbrev pub first_text : List (List ℕ) → List ℕ
first_text [] = []
first_text (l ∷ ls) = l

-- `later_texts ls`: the lines `ls` after the first one.
abbrev pub later_texts : List (List ℕ) → List (List ℕ)
later_texts [] = []
later_texts (l ∷ ls) = ls

-- `read_mark line shown`: the mark of a line for which `shown` is printed: `=` if that is the line,
-- else the first byte of `shown`.
abbrev pub read_mark : List ℕ → List ℕ → ℕ
read_mark line shown = if bytes_eq shown line then SAME else slice_index shown 0

-- `read_marks ls shown`: the marks of the lines `ls`, for which the lines `shown` are printed.
abbrev pub read_marks : List (List ℕ) → List (List ℕ) → List ℕ
read_marks ls [] = []
read_marks ls (p ∷ ps) = read_mark (first_text ls) p ∷ read_marks (later_texts ls) ps

-- `mark_by s j`: the mark of the judged line `j` under the settings `s`: `=` if it stays.
abbrev pub mark_by : Settings → Judged → ℕ
mark_by s j = if stays_by s.blank (judged_by s j) then SAME else mark_of s.blank (judged_by s j)

-- `AreMarks o text ms`: the text has no fault. It is read as some judged lines, which are all of
-- its lines, and `ms` has the mark of each of them.
pub record AreMarks (o : Options) (text ms : List ℕ) : Type 0 where
  pub items : List (Item Reading)
  pub tree : Tree Reading
  pub reads : ReadsAs o text items tree None
  pub all : map (λ j. text_of j.line) (judged_lines items (marks tree)) ≡ texts_of text
  pub each : ms ≡ map (mark_by o.settings) (judged_lines items (marks tree))

-- `marked_piece s before j`: what the printer of marks prints for `j` under the settings `s`.
abbrev pub marked_piece : Settings → List Judged → Judged → List ℕ
marked_piece s before j = mark_piece s.blank (judged_by s j)

-- `PrintsMarks o text new`: the text has no fault, and `new` is what the printer of marks prints.
pub record PrintsMarks (o : Options) (text new : List ℕ) : Type 0 where
  pub items : List (Item Reading)
  pub tree : Tree Reading
  pub reads : ReadsAs o text items tree None
  pub printed : new ≡ text_by o.settings.listing (marked_piece o.settings) items tree
