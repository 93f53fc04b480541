-- UntouchedTexts: texts that are neither folded nor edited.
use Rattle.std.specs.Prelude.{◌≡◌, ℕ, List, [], ◌++◌, false, None}
use Rattle.ud_model.specs.text.Lines.{Line, text_of}
use Rattle.ud_model.specs.text.Scans.{Scan}
use Rattle.ud_model.specs.conditions.Table.{Argument}
use Rattle.ud_model.specs.conditions.Conditions.{Rules}
use Rattle.ud_simplified.specs.FoldedTexts.{folded_text}
use Rattle.ud_passes.specs.folding.Folding.{Folded}
use Rattle.ud_passes.specs.folding.LogicalLines.{begins}
use Rattle.ud_passes.specs.pruning.Passing.{Pruned, PrunesLine}
use Rattle.ud_passes.specs.pruning.PrunedTexts.{pruned_text, edited_count}
use Rattle.ud_passes.specs.declared.folding.logical.LogicalLine.{LogicalLine}
use Rattle.ud_passes.specs.declared.walk.Walk.{Walk}

-- `IsUntouched table rules bytes`: the text is its own folded text, and its own pruned text.
pub record IsUntouched (table : List Argument) (rules : Rules) (bytes : List ℕ) : Type 0 where
  pub unfolded : folded_text bytes ≡ bytes
  pub unpruned : pruned_text table rules bytes ≡ bytes
  pub unedited : edited_count table rules bytes ≡ 0

-- `LeavesLine table rules l scan`: the line `l` with this scan begins no directive that goes on,
-- and isn't edited.
pub record LeavesLine (table : List Argument) (rules : Rules) (l : Line) (scan : Scan) :
    Type 0 where
  pub unbegun : begins scan ≡ false
  pub unedited : (old : List ℕ) → PrunesLine table rules l scan false old (old ++ text_of l)

-- `StayedTo table rules text walk`: the lines `done` of the text, before the place of `walk`, stay
-- if they are pruned, and if they are folded.
pub record StayedTo (table : List Argument) (rules : Rules) (text : List ℕ) (walk : Walk) :
    Type 0 where
  pub done : List ℕ
  pub pruned : Pruned table rules text [] 0 walk done
  pub folded : (l : LogicalLine) → Folded text [] l None walk done

-- `StaysOn table rules old new`: if the lines of a text before the place `old` stay, then so do
-- those before the place `new`.
abbrev pub StaysOn : List Argument → Rules → Walk → Walk → Type 0
StaysOn table rules old new =
    (text : List ℕ) → StayedTo table rules text old → StayedTo table rules text new
