-- Edited lines: what the code knows of a line that it edits.
use Rattle.std.specs.Prelude.{◌≡◌, ℕ, List, [], Bool, true, false, not, ◌&&◌, if◌then◌else◌}
use Rattle.std.specs.Prelude.{bytes_eq, map}
use Rattle.ud_model.specs.text.Lines.{Line, text_of}
use Rattle.ud_model.specs.text.Scans.{Scan, Reading}
use Rattle.ud_model.specs.text.Lexemes.{shown}
use Rattle.ud_model.specs.text.Scanning.{scan_after, scan_after_run}
use Rattle.ud_model.specs.sections.Directives.{Directive, directive, content_of}
use Rattle.ud_model.specs.conditions.Table.{Argument}
use Rattle.ud_model.specs.conditions.Conditions.{Rules}
use Rattle.ud_simplified.specs.SimplifiedTexts.{text_cells, has_directive, left_line}
use Rattle.ud_simplified.specs.SimplifiedTexts.{is_read_alone, left_cells_of, simplified_line}
use Rattle.ud_model.specs.declared.kind.Mode.TheVariants.{C}

-- `c_reading l scan`: the line `l`, read in C mode with this scan.
abbrev pub c_reading : Line → Scan → Reading
c_reading l scan = record { line = l; mode = C; scan = scan }

-- `IsScannedAlone scan l`: unless the line before joins the line `l`, `l` is scanned like the first
-- line of a text.
abbrev pub IsScannedAlone : Scan → Line → Type 0
IsScannedAlone scan l = scan.joins_before ≡ false → scan ≡ scan_after [] C l

-- `is_meant d text k scan`: the line `k` with this scan joins no next line, and has the directive
-- of `d` with this text that may be edited.
abbrev pub is_meant : Directive → List ℕ → Line → Scan → Bool
is_meant d text k scan = not scan.joins_after && has_directive d text k (content_of scan)

-- `IsAlone l d`: the line `l`, read by itself, joins no next line and has the directive `d`.
pub record IsAlone (l : Line) (d : Directive) : Type 0 where
  pub has : content_of (scan_after_run [] l) ≡ directive d
  pub lone : (scan_after_run [] l).joins_after ≡ false

-- `line_if_read table rules l d`: the line `l` of the directive `d` with the cells that are left,
-- if it is read so by itself.
abbrev pub line_if_read : List Argument → Rules → Line → Directive → Line
line_if_read table rules l d =
    if is_read_alone table rules l d then left_line table rules l d else l

-- `IsLeftLine table rules l d text bytes`: the line `l` has the directive `d`. Of its text, masked,
-- `text` is left. With this, the line is `bytes`.
pub record IsLeftLine (table : List Argument) (rules : Rules) (l : Line) (d : Directive)
    (text bytes : List ℕ) : Type 0 where
  pub condition : IsAlone l d
  pub text_is : map shown (left_cells_of table rules l d) ≡ text
  pub bytes_are : bytes ≡ text_of (left_line table rules l d)

-- `IsEditedTo edited pruned l bytes`: the line `l` was edited to `bytes`, which differ from it, or
-- it stays.
abbrev pub IsEditedTo : Bool → List ℕ → Line → List ℕ → Type 0
IsEditedTo true pruned l bytes = (pruned ≡ bytes) × (bytes_eq bytes (text_of l) ≡ false)
IsEditedTo false pruned l bytes = pruned ≡ text_of l

-- `IsEditedAt table rules l d edited bytes`: the line `l` with the directive `d` was edited to
-- `bytes`, or it stays.
abbrev pub IsEditedAt : List Argument → Rules → Line → Directive → Bool → List ℕ → Type 0
IsEditedAt table rules l d edited bytes =
    IsEditedTo edited (text_of (line_if_read table rules l d)) l bytes

-- `TakesPlace l d text bytes edited`: if `text` is left of the directive `d`, and the line `l` with
-- it is `bytes`, then the line was edited to `bytes`, or it stays.
abbrev pub TakesPlace : Line → Directive → List ℕ → List ℕ → Bool → Type 0
TakesPlace l d text bytes edited = (table : List Argument) (rules : Rules) →
    IsLeftLine table rules l d text bytes → IsEditedAt table rules l d edited bytes

-- `EditsText table rules l d text edited bytes`: if the line `l` has the directive `d`, and its
-- text that may be edited is masked as `text`, it was edited to `bytes`, or it stays.
abbrev pub EditsText : List Argument → Rules → Line → Directive → List ℕ → Bool → List ℕ →
    Type 0
EditsText table rules l d text edited bytes =
    IsAlone l d → map shown (text_cells l d) ≡ text → IsEditedAt table rules l d edited bytes

-- `EditsLine table rules l scan edited bytes`: the line `l` with this scan was edited to `bytes`,
-- or it stays. This is known if it is scanned like a text's first, unless the line before joins it.
abbrev pub EditsLine : List Argument → Rules → Line → Scan → Bool → List ℕ → Type 0
EditsLine table rules l scan edited bytes = IsScannedAlone scan l →
    IsEditedTo edited (text_of (simplified_line table rules (c_reading l scan))) l bytes
