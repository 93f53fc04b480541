use Rattle.std.proofs.Common.{refl, inl, rules}
use Rattle.ud_tree.specs.Naming.{Sees}
use Rattle.ud_tree.proofs.EvidenceLemmas.{at_place}
use Rattle.ud_tree.proofs.disk.naming.node_at.Goals as goal

pub returns-in-Err-look-clause-found : goal.returns-in-Err-look-clause-found
returns-in-Err-look-clause-found g c = inl (at_place g.S.Looks.looking g.S.Looks.looking.lacks c.in-Ok.ensures.place
    c.as_bytes.ensures.value c.as_str.ensures.value (c.in-Err-look.ensures.nothing (search rules)))

pub returns-clause-found : goal.returns-clause-found
returns-clause-found g c = at_place g.S.Looks.looking (Sees g.S.Looks.looking c.in-Ok-look.found.node) c.in-Ok.ensures.place
    c.as_bytes.ensures.value c.as_str.ensures.value
    (record { found = c.in-Ok-look.found; look = c.in-Ok-look.ensures.found; is = refl })
