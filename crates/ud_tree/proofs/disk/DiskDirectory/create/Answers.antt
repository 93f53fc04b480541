use Rattle.ud_tree.proofs.disk.DiskDirectory.create.Goals as goal

pub add-requires : goal.add-requires
add-requires g c = c.create_fresh-answer.ensures.new
