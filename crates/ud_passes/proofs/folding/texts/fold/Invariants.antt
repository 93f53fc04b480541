-- The folded lines so far were appended.
use Rattle.std.proofs.Common.{[], length}
use Rattle.ud_passes.specs.folding.Folding.{Folded}
use Rattle.ud_passes.proofs.folding.texts.fold.Given as goal

abbrev pub invariant-loop-walk : goal.invariant-loop-walk
invariant-loop-walk l = Folded l.text [] l.logical l.begun l.walk l.out.items

abbrev pub decreases-loop-walk : goal.decreases-loop-walk
decreases-loop-walk l = length l.walk.rest.now
