use Rattle.std.proofs.Common.{List, ℕ, refl, inl, inr}
use Rattle.ud_tree.specs.Opening.{HasRead}
use Rattle.ud_tree.proofs.EvidenceLemmas.{at_place, ok_map}
use Rattle.ud_tree.proofs.disk.Disk.read_at.Goals as goal

pub returns-in-Some-clause-read : goal.returns-in-Some-clause-read
returns-in-Some-clause-read g c = ok_map c.read_again.result (λ stat read. at_place g.S.Looks.looking
    (λ (place : List ℕ). HasRead g.S.Looks.looking g.S.Changes.changing g.S.File.Read.remaining g.S.Old.Read.remaining place c.read_again.new.text.items stat)
    c.in_ok-place.ensures.place refl c.as_str.ensures.value (inr read)) c.read_again.ensures

pub returns-clause-read : goal.returns-clause-read
returns-clause-read g c = ok_map c.read_file.result (λ stat read. at_place g.S.Looks.looking
    (λ (place : List ℕ). HasRead g.S.Looks.looking g.S.Changes.changing g.S.File.Read.remaining g.S.Old.Read.remaining place c.read_file.new.text.items stat)
    c.in_ok-place.ensures.place refl c.as_str-in_default.ensures.value (inl read)) c.read_file.ensures
