-- Pruned texts: the rest of a text with lines of any length.
--
-- A line over the limit stays. So if all lines fit, the pruned text is the simplified text.
--
-- Example: with A undefined, `#if A || X` becomes `#if X`: one edited line.
use Rattle.std.specs.Prelude.{ℕ, suc, List, [], ◌∷◌, map, Bool, not, if◌then◌else◌, bytes_eq}
use Rattle.std.specs.List.{concat}
use Rattle.ud_model.specs.text.Lines.{Line, text_of}
use Rattle.ud_model.specs.text.Scans.{Reading}
use Rattle.ud_model.specs.conditions.Table.{Argument}
use Rattle.ud_model.specs.conditions.Conditions.{Rules}
use Rattle.ud_model.specs.aids.ReadAs.{read_as}
use Rattle.ud_simplified.specs.SimplifiedTexts.{simplified_line}
use Rattle.ud_model.specs.declared.kind.Mode.TheVariants.{C}
use Rattle.ud_passes.specs.Passes.{fits}

module _ (table : List Argument) (rules : Rules) where
  -- `pruned_line r`: the line `r` without the operands that the table decides, if the line fits.
  unfoldable pub pruned_line : Reading → Line
  pruned_line r = if fits r.line then simplified_line table rules r else r.line

  -- `pruned_bytes r`: the bytes of this line, with its ending.
  abbrev pub pruned_bytes : Reading → List ℕ
  pruned_bytes r = text_of (pruned_line r)

  -- `pruned_text bytes`: the text without the operands that the table decides.
  abbrev pub pruned_text : List ℕ → List ℕ
  pruned_text bytes = concat (map pruned_bytes (read_as C bytes))

  -- `is_edited r`: the pruned line differs from the line.
  abbrev pub is_edited : Reading → Bool
  is_edited r = not (bytes_eq (pruned_bytes r) (text_of r.line))

  -- `edited_among rs`: the number of edited lines among `rs`.
  abbrev pub edited_among : List Reading → ℕ
  edited_among [] = 0
  edited_among (r ∷ rs) = if is_edited r then suc (edited_among rs) else edited_among rs

  -- `edited_count bytes`: the number of edited lines of the text.
  abbrev pub edited_count : List ℕ → ℕ
  edited_count bytes = edited_among (read_as C bytes)
