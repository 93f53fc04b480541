use Rattle.std.proofs.Common.{sym, ◌∙◌}
use Rattle.ud_tree.proofs.EvidenceLemmas.{done_ok}
use Rattle.ud_tree.proofs.disk.DiskDirectory.remove.Goals as goal

pub add-requires : goal.add-requires
add-requires g c = λ yes. done_ok c.removed_at-removed.result c.removed_at-removed.ensures.removed (sym c.is_ok-answer.ensures.value ∙ yes)
