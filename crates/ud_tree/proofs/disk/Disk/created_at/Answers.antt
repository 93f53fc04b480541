use Rattle.std.proofs.Common.{List, ℕ, refl}
use Rattle.ud_tree.specs.Creating.{IsNew}
use Rattle.ud_tree.proofs.EvidenceLemmas.{at_place}
use Rattle.ud_tree.proofs.disk.Disk.created_at.Goals as goal

pub returns-clause-new : goal.returns-clause-new
returns-clause-new g c = at_place g.S.Looks.looking (λ (place : List ℕ). IsNew g.S.Changes.changing place c.in_ok-file.file)
    c.in_ok-place.ensures.place refl c.as_str.ensures.value c.in_ok-file.ensures
