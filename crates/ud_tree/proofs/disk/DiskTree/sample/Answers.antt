use Rattle.ud_tree.proofs.disk.DiskTree.sample.Goals as goal

pub add-requires : goal.add-requires
add-requires g c = rw c.as_slice-text.ensures.value c.sampled-answer.ensures.sampled
