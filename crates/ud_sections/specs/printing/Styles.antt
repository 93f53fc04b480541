-- Styles: the style of each printer, and what the printer represents.
--
-- `Delete` has the style without options, but for spaces in place of lost bytes.
use Rattle.std.specs.Prelude.{◌≡◌, List, Bool, true, false}
use Rattle.ud_model.specs.answer.Printing.{Judged, Style, last_removed}
use Rattle.ud_sections.specs.declared.printing.delete.Delete.{Delete}
use Rattle.ud_sections.specs.declared.printing.blank.Blank.{Blank}
use Rattle.ud_sections.specs.declared.printing.renumber.Renumber.{Renumber}
use Rattle.ud_sections.specs.declared.printing.complement.Complement.{Complement}

-- `delete_style_by unpadded`: the style without options, with spaces unless `unpadded`.
abbrev pub delete_style_by : Bool → Style
delete_style_by unpadded =
    record { blank = false; complement = false; renumber = false; unpadded = unpadded }

-- `blank_style_by unpadded`: the style of `-b`, with spaces unless `unpadded`.
abbrev pub blank_style_by : Bool → Style
blank_style_by unpadded =
    record { blank = true; complement = false; renumber = false; unpadded = unpadded }

-- `renumber_style_by unpadded`: the style of `-n`, with spaces unless `unpadded`.
abbrev pub renumber_style_by : Bool → Style
renumber_style_by unpadded =
    record { blank = false; complement = false; renumber = true; unpadded = unpadded }

-- `delete_style printer`: the style of the printer.
abbrev pub delete_style : Delete → Style
delete_style printer = delete_style_by printer.unpadded

-- `blank_style printer`: the style of the printer.
abbrev pub blank_style : Blank → Style
blank_style printer = blank_style_by printer.unpadded

-- `renumber_style printer`: the style of the printer.
abbrev pub renumber_style : Renumber → Style
renumber_style printer = renumber_style_by printer.unpadded

-- `delete_represents printer before`: the printer was given the lines `before`. A line's piece
-- depends on that line alone.
abbrev pub delete_represents : Delete → List Judged → Type 0
delete_represents printer before = Unit {0}

-- `blank_represents printer before`: the printer was given the lines `before`, and keeps none.
abbrev pub blank_represents : Blank → List Judged → Type 0
blank_represents printer before = Unit {0}

-- `renumber_represents printer before`: the printer was given the lines `before`. A line's piece
-- depends on whether the line before is removed.
abbrev pub renumber_represents : Renumber → List Judged → Type 0
renumber_represents printer before = printer.removed ≡ last_removed before

-- `inner_of c`: the wrapped printer.
abbrev pub inner_of : {S : Type 0} → Complement S → S
inner_of c = c.inner
