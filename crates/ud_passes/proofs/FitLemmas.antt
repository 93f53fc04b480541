-- Lines that fit: each is simplified.
use Rattle.std.proofs.Common.{◌≡◌, ℕ, List, [], ◌∷◌, map, refl, sym, ap, subst, arith}
use Rattle.std.specs.List.{concat}
use Rattle.std.proofs.lemmas.Bool.{le-leb}
use Rattle.ud_model.specs.text.Lines.{Line, text_of, lines_of}
use Rattle.ud_model.specs.text.Scans.{Reading}
use Rattle.ud_model.specs.conditions.Table.{Argument}
use Rattle.ud_model.specs.conditions.Conditions.{Rules}
use Rattle.ud_model.specs.aids.ReadAs.{read_as}
use Rattle.ud_model.specs.laws.Rereading.{LinesFit}
use Rattle.ud_simplified.specs.SimplifiedTexts.{simplified_line, simplified_text}
use Rattle.ud_model.specs.declared.kind.Mode.TheVariants.{C}
use Rattle.ud_model.proofs.text.Pushes.{by_push}
use Rattle.ud_simplified.proofs.SimplifiedLineTexts.{read_back_by}
use Rattle.ud_passes.specs.pruning.PrunedTexts.{pruned_bytes, pruned_text}
use Rattle.ud_passes.proofs.PassLemmas.{pruned_short}

-- The lines of readings.
abbrev lines_in : List Reading → List Line
lines_in rs = map (λ (r : Reading). r.line) rs

module _ (table : List Argument) (rules : Rules) where
  all_simplified : (rs : List Reading) → LinesFit (lines_in rs) → map (pruned_bytes table rules) rs ≡ map (λ r. text_of (simplified_line table rules r)) rs
  all_simplified [] h = refl
  all_simplified (r ∷ rs) h = grind (arith, pruned_short, le-leb, all_simplified rs h.1)

  pub fitting : (bytes : List ℕ) → LinesFit (lines_of bytes) → pruned_text table rules bytes ≡ simplified_text table rules bytes
  fitting bytes h = ap concat (all_simplified (read_as C bytes) (subst LinesFit (sym (read_back_by table rules (by_push (lines_of bytes)))) h))
