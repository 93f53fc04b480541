-- Passing: what the pass over a text appends.
use Rattle.std.specs.Prelude.{◌≡◌, ℕ, List, ◌++◌, map, Bool}
use Rattle.std.specs.List.{concat}
use Rattle.ud_model.specs.text.Lines.{Line}
use Rattle.ud_model.specs.text.Scans.{Scan, Reading}
use Rattle.ud_model.specs.conditions.Table.{Argument}
use Rattle.ud_model.specs.conditions.Conditions.{Rules}
use Rattle.ud_model.specs.declared.kind.Mode.TheVariants.{C}
use Rattle.ud_passes.specs.Walks.{Walked}
use Rattle.ud_passes.specs.pruning.PrunedTexts.{pruned_bytes, is_edited, edited_among}
use Rattle.ud_passes.specs.pruning.EditedLines.{c_reading, IsScannedAlone}
use Rattle.ud_passes.specs.declared.walk.Walk.{Walk}

-- `PrunesLine table rules l scan edited old new`: the rest of the line `l` with this scan was
-- appended to `old`, and it is `edited` or not. This is known if the line is scanned as the first
-- of a text, unless the line before joins it.
abbrev pub PrunesLine : List Argument → Rules → Line → Scan → Bool → List ℕ → List ℕ → Type 0
PrunesLine table rules l scan edited old new = IsScannedAlone scan l →
    (new ≡ old ++ pruned_bytes table rules (c_reading l scan)) ×
    (edited ≡ is_edited table rules (c_reading l scan))

-- `Pruned table rules text start count walk out`: the rest of the lines before the walk's place was
-- appended to `start`, and `count` of them were edited.
pub record Pruned (table : List Argument) (rules : Rules) (text start : List ℕ) (count : ℕ)
    (walk : Walk) (out : List ℕ) : Type 0 where
  pub read : List Reading
  pub walked : Walked C text read walk.rest.now walk.scanner
  pub count_is : count ≡ edited_among table rules read
  pub list_is : out ≡ start ++ concat (map (pruned_bytes table rules) read)

-- `PrunesOn table rules count walk out n next more`: if the rest of the lines before the place of
-- `walk` was appended, then also that of the lines before the place of `next`.
abbrev pub PrunesOn : List Argument → Rules → ℕ → Walk → List ℕ → ℕ → Walk → List ℕ → Type 0
PrunesOn table rules count walk out n next more = (text start : List ℕ) →
    Pruned table rules text start count walk out → Pruned table rules text start n next more
