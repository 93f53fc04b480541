use Rattle.std.proofs.Common.{sym}
use Rattle.ud_tree.specs.Changing.{has_both, gives_both, gives_group}
use Rattle.ud_tree.proofs.disk.changing.give_owner.Goals as goal

pub returns-then-has_owner : goal.returns-then-has_owner
returns-then-has_owner g c =
    has_both c.in_ok-new_facts.field-0 c.in_ok-new_facts.ensures (sym c.if-has_owner.ensures)

pub returns-in_ok-was_set-2 : goal.returns-in_ok-was_set-2
returns-in_ok-was_set-2 g c = gives_group c.set_owner-both.new.file c.set_owner-both.result
    c.set_owner-group.result c.set_owner-both.ensures
    (c.in_ok-was_set.ensures.unset c.if-not-branch.true) c.set_owner-group.ensures
    c.in_ok-was_set-2.ensures.tried

pub returns-else-not-branch : goal.returns-else-not-branch
returns-else-not-branch g c = gives_both c.set_owner-both.result c.set_owner-both.ensures
    (c.in_ok-was_set.ensures.set c.if-not-branch.false)
