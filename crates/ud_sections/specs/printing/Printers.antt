-- Printers: what the printer for the options represents, and what it prints.
--
-- Example: for `-c -n` the printer is the complement of a `Renumber`. It represents lines if the
-- `Renumber` represents their complements.
use Rattle.std.specs.Prelude.{List, ℕ, map}
use Rattle.ud_model.specs.answer.Printing.{Judged, piece_after, complemented}
use Rattle.ud_sections.specs.printing.Styles.{delete_style, blank_style, renumber_style}
use Rattle.ud_sections.specs.printing.Styles.{delete_represents}
use Rattle.ud_sections.specs.printing.Styles.{blank_represents, renumber_represents, inner_of}
use Rattle.ud_sections.specs.declared.printing.printer.Printer.{Printer}
use Rattle.ud_sections.specs.declared.printing.printer.Printer.TheVariants.{Deletes, Blanks}
use Rattle.ud_sections.specs.declared.printing.printer.Printer.TheVariants.{Renumbers}
use Rattle.ud_sections.specs.declared.printing.printer.Printer.TheVariants.{ComplementDeletes}
use Rattle.ud_sections.specs.declared.printing.printer.Printer.TheVariants.{ComplementBlanks}
use Rattle.ud_sections.specs.declared.printing.printer.Printer.TheVariants.{ComplementRenumbers}

-- `printer_represents printer before`: the printer was given the lines `before`.
abbrev pub printer_represents : Printer → List Judged → Type 0
printer_represents (Deletes p) before = delete_represents p before
printer_represents (Blanks p) before = blank_represents p before
printer_represents (Renumbers p) before = renumber_represents p before
printer_represents (ComplementDeletes c) before =
    delete_represents (inner_of c) (map complemented before)
printer_represents (ComplementBlanks c) before =
    blank_represents (inner_of c) (map complemented before)
printer_represents (ComplementRenumbers c) before =
    renumber_represents (inner_of c) (map complemented before)

-- `printer_piece printer before j`: the output of the printer for the line `j` after `before`.
abbrev pub printer_piece : Printer → List Judged → Judged → List ℕ
printer_piece (Deletes p) before j = piece_after (delete_style p) before j
printer_piece (Blanks p) before j = piece_after (blank_style p) before j
printer_piece (Renumbers p) before j = piece_after (renumber_style p) before j
printer_piece (ComplementDeletes c) before j =
    piece_after (delete_style (inner_of c)) (map complemented before) (complemented j)
printer_piece (ComplementBlanks c) before j =
    piece_after (blank_style (inner_of c)) (map complemented before) (complemented j)
printer_piece (ComplementRenumbers c) before j =
    piece_after (renumber_style (inner_of c)) (map complemented before) (complemented j)
