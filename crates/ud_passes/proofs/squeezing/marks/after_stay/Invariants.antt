-- The marks after the first line that stays are still to come.
use Rattle.std.proofs.Common.{◌≡◌, length}
use Rattle.ud_passes.specs.squeezing.SqueezedTexts.{after_stay}
use Rattle.ud_passes.proofs.squeezing.marks.after_stay.Given as goal

abbrev pub invariant-loop-mark : goal.invariant-loop-mark
invariant-loop-mark l = after_stay l.rest ≡ after_stay l.marks

abbrev pub decreases-loop-mark : goal.decreases-loop-mark
decreases-loop-mark l = length l.rest
