use Rattle.std.proofs.Common.{sym, ◌∙◌}
use Rattle.ud_tree.proofs.EvidenceLemmas.{at_map, done_kept, on_map}
use Rattle.ud_tree.proofs.disk.DiskDirectory.open_to_write.Goals as goal

pub add-requires : goal.add-requires
add-requires g c = λ yes. done_kept c.opened_at-opened.result c.kept.result c.kept.ensures.value
    (on_map c.opened_at-opened.result (λ opened at. at_map g.S.Looks.looking (λ place opens. (opened.file, opens)) at) c.opened_at-opened.ensures.open)
    (sym c.is_some-answer.ensures ∙ yes)
