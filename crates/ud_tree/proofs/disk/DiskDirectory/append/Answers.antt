use Rattle.ud_tree.proofs.EvidenceLemmas.{some_kept}
use Rattle.ud_tree.proofs.disk.DiskDirectory.append.Goals as goal

pub add-requires : goal.add-requires
add-requires g c = some_kept
    (λ count. (old : _) × (new : _) × g.S.Changes.changing.appends old c.args.bytes.now count new)
    c.append_to-written.result c.kept-answer.result c.kept-answer.ensures.value c.append_to-written.ensures.appended
