-- Only white space follows the rest.
use Rattle.std.proofs.Common.{◌≡◌, length, reverse}
use Rattle.ud_model.specs.text.Bytes.{skip_white}
use Rattle.ud_passes.proofs.squeezing.places.opens_block.Given as goal

abbrev pub invariant-loop-last : goal.invariant-loop-last
invariant-loop-last l = skip_white (reverse l.rest) ≡ skip_white (reverse l.masked)

abbrev pub decreases-loop-last : goal.decreases-loop-last
decreases-loop-last l = length l.rest
