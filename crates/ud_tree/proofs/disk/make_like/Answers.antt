use Rattle.ud_tree.proofs.EvidenceLemmas.{on_both}
use Rattle.ud_tree.proofs.disk.make_like.Goals as goal

pub returns-in-Some : goal.returns-in-Some
returns-in-Some g c = on_both c.set_mode_and_owner.result (λ owner mode. (c.in-Some.fresh.file, c.set_mode_and_owner.new.file, owner, mode))
    c.set_mode_and_owner.ensures.owner c.set_mode_and_owner.ensures.mode
