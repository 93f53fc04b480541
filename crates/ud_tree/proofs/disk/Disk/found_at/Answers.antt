use Rattle.std.proofs.Common.{List, ℕ, refl}
use Rattle.ud_tree.specs.Opening.{IsFound}
use Rattle.ud_tree.proofs.EvidenceLemmas.{at_place, ok_map}
use Rattle.ud_tree.proofs.disk.Disk.found_at.Goals as goal

pub returns-clause-found : goal.returns-clause-found
returns-clause-found g c = ok_map c.look_at.result (λ stat found. at_place g.S.Looks.looking (λ (place : List ℕ). IsFound g.S.Looks.looking place stat)
    c.in_ok-place.ensures.place refl c.as_str.ensures.value found) c.look_at.ensures
