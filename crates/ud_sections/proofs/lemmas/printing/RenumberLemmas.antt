-- RenumberLemmas: the output for a line with numbers inserted, by whether the line is numbered.
use Rattle.std.proofs.Common.{arith, ◌≡◌, List, ℕ, Bool, [], ◌++◌, true, false, if◌then◌else◌}
use Rattle.ud_model.specs.answer.Printing.{Judged, last_removed, number_line, piece_by, piece_after}
use Rattle.ud_model.specs.sections.Pruning.{is_removed}
use Rattle.ud_sections.specs.printing.Styles.{renumber_style_by}

-- the output for a line by its step, if none is printed for a removed one
abbrev pub left_of : Bool → Judged → List ℕ
left_of u j = if is_removed j.verdict then [] else piece_by u j.verdict j.keyword j.line

-- a removed line isn't numbered
pub removed_piece : (u : Bool) (before : List Judged) (j : Judged) → is_removed j.verdict ≡ true → left_of u j ≡ piece_after (renumber_style_by u) before j
removed_piece u before j h = grind arith

-- after a line that isn't removed, none is numbered
pub following_piece : (u : Bool) (before : List Judged) (j : Judged) → last_removed before ≡ false → left_of u j ≡ piece_after (renumber_style_by u) before j
following_piece u before j h = grind arith

-- a line after a removed one is numbered
pub numbered_piece : (u : Bool) (before : List Judged) (j : Judged) → last_removed before ≡ true → is_removed j.verdict ≡ false →
    number_line j.line ++ left_of u j ≡ piece_after (renumber_style_by u) before j
numbered_piece u before j h e = grind (arith, h, e)
