-- The lines so far were restored.
use Rattle.std.proofs.Common.{[], length}
use Rattle.ud_passes.specs.folding.Folding.{Restored}
use Rattle.ud_passes.proofs.folding.restored.restore.Given as goal

abbrev pub invariant-loop-walk : goal.invariant-loop-walk
invariant-loop-walk l = Restored l.text [] l.walk l.out.items

abbrev pub decreases-loop-walk : goal.decreases-loop-walk
decreases-loop-walk l = length l.walk.rest.now
