use Rattle.std.proofs.Common.{sym, ◌∙◌}
use Rattle.ud_tree.proofs.EvidenceLemmas.{done_kept}
use Rattle.ud_tree.proofs.disk.DiskDirectory.overwrite.Goals as goal

pub add-requires : goal.add-requires
add-requires g c = λ yes. done_kept c.overwrite_at-written.result c.kept.result c.kept.ensures.value
    c.overwrite_at-written.ensures.written (sym c.is_some-answer.ensures ∙ yes)
