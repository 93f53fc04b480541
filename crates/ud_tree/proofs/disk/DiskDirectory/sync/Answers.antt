use Rattle.std.proofs.Common.{sym, ◌∙◌}
use Rattle.ud_tree.proofs.EvidenceLemmas.{done_kept}
use Rattle.ud_tree.proofs.disk.DiskDirectory.sync.Goals as goal

pub add-requires : goal.add-requires
add-requires g c = λ yes. done_kept c.sync-synced.result c.kept.result c.kept.ensures.value
    c.sync-synced.ensures (sym c.is_some-answer.ensures ∙ yes)
