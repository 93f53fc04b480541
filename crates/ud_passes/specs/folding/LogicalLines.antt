-- Logical lines: what the code keeps of a logical line that begins with a directive.
use Rattle.std.specs.Prelude.{◌≡◌, ℕ, List, [], ◌∷◌, ◌++◌, Bool, true, not, ◌&&◌, Option, Some}
use Rattle.std.specs.Prelude.{None}
use Rattle.std.specs.List.{flat_map}
use Rattle.ud_model.specs.text.Lines.{Line, NoNewline, text_of}
use Rattle.ud_model.specs.text.Splicing.{is_empty, is_spliced}
use Rattle.ud_model.specs.text.Scans.{Scan, Reading}
use Rattle.ud_model.specs.text.Scanning.{scan_after_run}
use Rattle.ud_model.specs.aids.LineViews.{as_line, as_scan}
use Rattle.ud_model.specs.declared.line.Line.{Line as CodeLine}
use Rattle.ud_model.specs.declared.scan.Scan.{Scan as CodeScan}
use Rattle.ud_model.specs.declared.kind.Mode.TheVariants.{C}
use Rattle.ud_model.specs.sections.Directives.{content_of}
use Rattle.ud_simplified.specs.FoldedTexts.{continued_part, shown_lines, begins_directive}
use Rattle.ud_simplified.specs.FoldedTexts.{are_alike, fits, is_directive, is_shown_as}
use Rattle.ud_simplified.specs.SimplifiedTexts.{keeps_ending}
use Rattle.ud_passes.specs.Walks.{reading_at}
use Rattle.ud_passes.specs.declared.folding.logical.Last.{Last}
use Rattle.ud_passes.specs.declared.folding.logical.LogicalLine.{LogicalLine}

-- `plain_lines rs`: the bytes of the lines `rs`.
abbrev pub plain_lines : List Reading → List ℕ
plain_lines rs = flat_map (λ (r : Reading). text_of r.line) rs

-- `is_line_shown k bytes`: the line `k` has an ending of its own, and fits. By itself it is a
-- directive with these masked bytes (`is_shown_as`).
abbrev pub is_line_shown : Line → List ℕ → Bool
is_line_shown k bytes = not (is_empty k.ending) && fits k && keeps_ending k &&
    is_shown_as (scan_after_run [] k) bytes

-- `begins scan`: a line with this scan begins a logical line of several lines, with a directive.
abbrev pub begins : Scan → Bool
begins scan = not scan.joins_before && scan.joins_after && is_directive (content_of scan)

-- `c_reading line scan n`: the line, with its scan and the number `n`, as one of C.
abbrev pub c_reading : CodeLine → CodeScan → ℕ → Reading
c_reading line scan n = reading_at C (as_line line) (as_scan scan) n

-- `HasItsSplice line scan`: the scan says whether the line is spliced.
abbrev pub HasItsSplice : CodeLine → CodeScan → Type 0
HasItsSplice line scan = scan.spliced ≡ is_spliced (as_line line)

-- `IsLast b r`: `b` is the line `r`, with the part of its scan that affects the next line.
pub record IsLast (b : Last) (r : Reading) : Type 0 where
  pub body_is : b.line.body.now ≡ r.line.body
  pub ending_is : b.line.ending.now ≡ r.line.ending
  pub comment_is : b.comment ≡ r.scan.comment
  pub spliced_is : b.spliced ≡ r.scan.spliced
  pub splice_is : r.scan.spliced ≡ is_spliced r.line
  pub one_line : NoNewline r.line.body

-- `IsLogical l b group`: the lines `group` have the same ending, and the first of them has a
-- directive. `l` has their bytes, and `b` is the last one.
pub record IsLogical (l : LogicalLine) (b : Last) (group : List Reading) : Type 0 where
  pub front : List Reading
  pub last : Reading
  pub is : group ≡ front ++ last ∷ []
  pub is_last : IsLast b last
  pub begins : begins_directive group ≡ true
  pub alike : are_alike group last.line.ending ≡ true
  pub plain_is : l.plain.items ≡ plain_lines group
  pub body_is : l.body.items ≡ flat_map continued_part front
  pub shown_is : l.shown.items ≡ shown_lines group
  pub one_line : NoNewline l.body.items

-- `BeginsLine line scan l b`: if the line has a directive, `l` and `b` have it as a logical line.
abbrev pub BeginsLine : CodeLine → CodeScan → LogicalLine → Last → Type 0
BeginsLine line scan l b = (n : ℕ) → is_directive (content_of (as_scan scan)) ≡ true →
    HasItsSplice line scan → IsLogical l b (c_reading line scan n ∷ [])

-- `AddsLine line scan l b m c`: if `l` and `b` have a logical line, then `m` and `c` have it with
-- one line more, which has the same ending.
abbrev pub AddsLine : CodeLine → CodeScan → LogicalLine → Last → LogicalLine → Last → Type 0
AddsLine line scan l b m c = (n : ℕ) (group : List Reading) → IsLogical l b group →
    line.ending.now ≡ b.line.ending.now → HasItsSplice line scan →
    IsLogical m c (group ++ c_reading line scan n ∷ [])

-- `IsGroup l b group`: `b` is the last of the pending lines `group`. Without `b` there are none.
abbrev pub IsGroup : LogicalLine → Option Last → List Reading → Type 0
IsGroup l None group = group ≡ []
IsGroup l (Some b) group = IsLogical l b group
