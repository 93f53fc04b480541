-- Nothing was read.
use Rattle.ud_passes.proofs.WalkLemmas.{walk_begins}
use Rattle.ud_passes.proofs.walk.Walk.new.Goals as goal

pub returns-clause-walked : goal.returns-clause-walked
returns-clause-walked c = λ mode. walk_begins mode c.args.text.now c.bare.result c.bare.ensures
