use Rattle.std.proofs.Common.{List, ℕ, refl}
use Rattle.ud_tree.specs.Sampling.{IsSampled}
use Rattle.ud_tree.proofs.EvidenceLemmas.{at_place, ok_map}
use Rattle.ud_tree.proofs.disk.Disk.sample_at.Goals as goal

pub returns-clause-sampled : goal.returns-clause-sampled
returns-clause-sampled g c = ok_map c.sample_file.result (λ sample read. at_place g.S.Looks.looking
    (λ (place : List ℕ). IsSampled g.S.Looks.looking g.S.File.Read.remaining place c.sample_file.new.text.items sample)
    c.in_ok-place.ensures.place refl c.as_str.ensures.value read) c.sample_file.ensures
