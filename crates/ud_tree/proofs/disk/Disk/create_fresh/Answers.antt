use Rattle.ud_tree.proofs.EvidenceLemmas.{at_map}
use Rattle.ud_tree.proofs.disk.Disk.create_fresh.Goals as goal

pub returns-in-Ok-clause-new : goal.returns-in-Ok-clause-new
returns-in-Ok-clause-new g c = at_map g.S.Looks.looking (λ place new. (c.in-Ok.file.file, new)) c.in-Ok.ensures.new
