use Rattle.std.proofs.Common.{◌≡◌, length}
use Rattle.ud_passes.specs.diff.DiffTexts.{after_dots}
use Rattle.ud_passes.proofs.diff.print.after_dots.Given as goal

abbrev pub invariant-loop-first : goal.invariant-loop-first
invariant-loop-first l = after_dots l.path ≡ after_dots l.rest

abbrev pub decreases-loop-first : goal.decreases-loop-first
decreases-loop-first l = length l.rest
