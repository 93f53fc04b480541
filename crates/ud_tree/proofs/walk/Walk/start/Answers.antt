use Rattle.std.proofs.Common.{refl}
use Rattle.ud_tree.specs.WalkSteps.{is_no_file, is_told, leads_nowhere}
use Rattle.ud_tree.proofs.LookLemmas.{look_still, made_two}
use Rattle.ud_tree.proofs.walk.Walk.start.Goals as goal

pub returns-in-Link-2-clause-look : goal.returns-in-Link-2-clause-look
returns-in-Link-2-clause-look g c =
    look_still refl (made_two c.in-Present.ensures c.if-leads_to_directory.ensures)
    (is_told _ (rw c.as_bytes-in-Link-2.ensures.value at c.fault.ensures))
    (leads_nowhere c.in-Present.node tt c.in-Link.is refl)

pub returns-in-Other-clause-look : goal.returns-in-Other-clause-look
returns-in-Other-clause-look g c = look_still refl c.in-Present.ensures
    (is_told _ (rw c.as_bytes-in-Other.ensures.value at c.fault-in-Other.ensures))
    (is_no_file c.in-Present.node (λ in_it. in_it) c.in-Other.is refl)
