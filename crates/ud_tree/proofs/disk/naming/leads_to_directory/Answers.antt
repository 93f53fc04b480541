use Rattle.std.proofs.Common.{true, false}
use Rattle.ud_tree.specs.Naming.{LeadsToDirectory}
use Rattle.ud_tree.proofs.EvidenceLemmas.{at_place}
use Rattle.ud_tree.proofs.disk.naming.leads_to_directory.Goals as goal

pub returns-then-not-is_directory-clause-leads : goal.returns-then-not-is_directory-clause-leads
returns-then-not-is_directory-clause-leads g c = at_place g.S.Looks.looking (LeadsToDirectory g.S.Looks.looking false) c.in_ok-place.ensures.place
    c.as_bytes.ensures.value c.as_str.ensures.value
    (record { found = c.in_ok-node.field-0; follow = c.in_ok-node.ensures.found; is = c.if-not-is_directory.ensures })

pub returns-clause-leads : goal.returns-clause-leads
returns-clause-leads g c = at_place g.S.Looks.looking (LeadsToDirectory g.S.Looks.looking true) c.in_ok-place.ensures.place
    c.as_bytes.ensures.value c.as_str.ensures.value
    (record { found = c.in_ok-node.field-0; follow = c.in_ok-node.ensures.found; is = c.if-not-is_directory.ensures })
