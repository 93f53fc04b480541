use Rattle.std.proofs.Common.{sym, ◌∙◌}
use Rattle.ud_tree.proofs.EvidenceLemmas.{done_kept}
use Rattle.ud_tree.proofs.disk.DiskDirectory.set_mode_and_owner.Goals as goal

pub add-requires : goal.add-requires
add-requires g c = λ yes. done_kept c.make_like-set.result c.kept.result c.kept.ensures.value
    c.make_like-set.ensures (sym c.is_some-answer.ensures ∙ yes)
