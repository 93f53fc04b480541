-- Squeezing: the lines of an output, as far as they were read.
use Rattle.std.specs.Prelude.{◌≡◌, ℕ, List, ◌++◌, map, Bool}
use Rattle.ud_model.specs.text.Scans.{Reading}
use Rattle.ud_model.specs.declared.kind.Mode.TheVariants.{C}
use Rattle.ud_passes.specs.Walks.{Walked}
use Rattle.ud_passes.specs.squeezing.SqueezedTexts.{places}
use Rattle.ud_passes.specs.declared.squeezing.places.Place.{Place}
use Rattle.ud_passes.specs.declared.walk.Walk.{Walk}

-- `Placed text ms walk left out`: the lines before the walk's place are the places `out`. The marks
-- `left` are those of the lines after them.
pub record Placed (text ms : List ℕ) (walk : Walk) (left : List ℕ) (out : List Place) : Type 0 where
  pub read : List Reading
  pub walked : Walked C text read walk.rest.now walk.scanner
  pub rest : (rs : List Reading) → places ms (read ++ rs) ≡ out ++ places left rs

-- `gaps_of ps`: which of the lines `ps` have a gap before them.
abbrev pub gaps_of : List Place → List Bool
gaps_of ps = map (λ (p : Place). p.gap) ps
