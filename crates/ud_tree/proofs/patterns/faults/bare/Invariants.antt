use Rattle.std.proofs.Common.{◌≡◌, length}
use Rattle.ud_tree.specs.PatternFaults.{bare}
use Rattle.ud_tree.proofs.patterns.faults.bare.Given as goal

abbrev pub invariant-bytes : goal.invariant-bytes
invariant-bytes l = bare l.pattern ≡ bare l.rest

abbrev pub decreases-bytes : goal.decreases-bytes
decreases-bytes l = length l.rest
