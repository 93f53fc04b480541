use Rattle.std.proofs.Common.{List, ℕ, refl}
use Rattle.ud_tree.specs.Opening.{OpensToWrite}
use Rattle.ud_tree.proofs.EvidenceLemmas.{at_place}
use Rattle.ud_tree.proofs.disk.Disk.opened_at.Goals as goal

pub returns-clause-open : goal.returns-clause-open
returns-clause-open g c = at_place g.S.Looks.looking (λ (place : List ℕ). OpensToWrite g.S.Looks.looking g.S.Changes.changing place c.in_ok-file.file)
    c.in_ok-place.ensures.place refl c.as_str.ensures.value c.in_ok-file.ensures
