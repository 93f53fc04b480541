-- Under plain options each line of a text is read in one mode: without `-t` in C mode.
use Rattle.std.proofs.Common.{◌≡◌, ℕ, List, map, arith}
use Rattle.ud_model.specs.text.Scans.{Reading}
use Rattle.ud_model.specs.sections.Tree.{Item, Tree, lines}
use Rattle.ud_model.specs.sections.Items.{Options, reading_of, mode_by}
use Rattle.ud_model.specs.laws.Rereading.{IsPlain, IsTreeOf}
use Rattle.ud_model.specs.aids.ReadAs.{read_as}
use Rattle.ud_laws.proofs.output.InsertedText.{items_are, readings_back}

-- The lines of a text's tree are its lines, each read in the one mode.
pub read_in_one_mode : (o : Options) → IsPlain o → (text : List ℕ) (t : Tree Reading) → IsTreeOf o text t →
    map (λ (x : Item Reading). reading_of x) (lines t) ≡ read_as (mode_by o.settings.plain) text
read_in_one_mode o p text t i = grind (arith, readings_back, items_are)
