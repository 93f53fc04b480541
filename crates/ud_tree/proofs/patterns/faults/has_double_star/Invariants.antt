use Rattle.std.proofs.Common.{◌≡◌, length}
use Rattle.ud_tree.specs.PatternFaults.{has_double_star}
use Rattle.ud_tree.proofs.patterns.faults.has_double_star.Given as goal

abbrev pub invariant-bytes : goal.invariant-bytes
invariant-bytes l = has_double_star l.pattern ≡ has_double_star l.rest

abbrev pub decreases-bytes : goal.decreases-bytes
decreases-bytes l = length l.rest
