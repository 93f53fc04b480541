use Rattle.std.proofs.Common.{◌≡◌, length}
use Rattle.ud_model.specs.text.Bytes.{skip_white}
use Rattle.ud_model.proofs.bytes.skip_white.Given as goal

abbrev pub invariant-loop-first : goal.invariant-loop-first
invariant-loop-first l = skip_white l.bytes ≡ skip_white l.rest

abbrev pub decreases-loop-first : goal.decreases-loop-first
decreases-loop-first l = length l.rest
