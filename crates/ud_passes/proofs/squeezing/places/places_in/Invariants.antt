-- The lines so far have their places.
use Rattle.std.proofs.Common.{length}
use Rattle.ud_passes.specs.squeezing.Squeezing.{Placed}
use Rattle.ud_passes.proofs.squeezing.places.places_in.Given as goal

abbrev pub invariant-lines : goal.invariant-lines
invariant-lines l = Placed l.text l.marks l.walk l.left l.places.items

abbrev pub decreases-lines : goal.decreases-lines
decreases-lines l = length l.walk.rest.now
