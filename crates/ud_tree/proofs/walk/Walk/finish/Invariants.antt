use Rattle.ud_tree.proofs.PickLemmas.{PickedSome}
use Rattle.ud_tree.proofs.walk.Walk.finish.Given as goal

abbrev pub invariant-loop-found : goal.invariant-loop-found
invariant-loop-found l = PickedSome l.seen l.files.items l.fn.self.found.items l.yielded
