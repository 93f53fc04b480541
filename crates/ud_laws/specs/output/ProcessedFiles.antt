-- Processed files: the files of a tree, each with the output for it, as C reads them.
-- unifdef(1); C11 5.1.1.2.
--
-- A file that stays may be one that isn't edited, such as a system header.
use Rattle.std.specs.Prelude.{◌≡◌, ◌⊎◌, ℕ, List, Bool, true, None}
use Rattle.ud_model.specs.text.Scans.{Reading}
use Rattle.ud_model.specs.sections.Tree.{Nodes, closed}
use Rattle.ud_model.specs.sections.Items.{Options}
use Rattle.ud_model.specs.answer.Outcomes.{Outcome, HasOutcome}
use Rattle.ud_model.specs.laws.Rereading.{IsTreeOf}
use Rattle.ud_simplified.specs.SimplifiedTexts.{simplified_under}

-- `IsPrinted o input output`: with these options, a file with the text `input` may have the text
-- `output` afterwards.
pub data IsPrinted (o : Options) : List ℕ → List ℕ → Type 0 where
  printed : {input : List ℕ} (r : Outcome) → HasOutcome o input r → r.fault ≡ None →
      IsPrinted o input r.output
  unedited : {input : List ℕ} → IsPrinted o input input

-- `IsOutput o prunes input output`: `output` is such a text, or its simplified text if `prunes`.
pub record IsOutput (o : Options) (prunes : Bool) (input output : List ℕ) : Type 0 where
  pub text : List ℕ
  pub is_printed : IsPrinted o input text
  pub is_output : (output ≡ text) ⊎ ((prunes ≡ true) × (output ≡ simplified_under o text))

-- The files of a tree: the text of each before and after, and the nodes of both, whose sections are
-- all closed.
pub record FileTree (o : Options) (prunes : Bool) (F : Type 0) : Type 0 where
  pub inputs : F → List ℕ
  pub outputs : F → List ℕ
  pub are_outputs : (f : F) → IsOutput o prunes (inputs f) (outputs f)
  pub before : F → Nodes Reading
  pub of_inputs : (f : F) → IsTreeOf o (inputs f) (closed (before f))
  pub after : F → Nodes Reading
  pub of_outputs : (f : F) → IsTreeOf o (outputs f) (closed (after f))
