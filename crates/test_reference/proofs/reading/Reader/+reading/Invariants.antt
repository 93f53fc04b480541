-- A section reads its groups one level deeper, and after each line less of the text is left.
use Rattle.std.proofs.Common.{◌+◌, ◌*◌, ◌-◌, ◌≤◌, length}
use Rattle.ud_model.specs.declared.limits.TheConstants.{MAX_DEPTH}
use Rattle.test_reference.proofs.reading.Reader.+reading.Given as goal

abbrev pub decreases-position : goal.decreases-position
decreases-position l = 2 * (MAX_DEPTH - l.level) + 1

abbrev pub decreases-section : goal.decreases-section
decreases-section l = 2 * (MAX_DEPTH - l.level)

abbrev pub invariant-position-lines : goal.invariant-position-lines
invariant-position-lines l = length l.self.rest.now ≤ length l.fn.self.rest.now

abbrev pub decreases-position-lines : goal.decreases-position-lines
decreases-position-lines l = length l.self.rest.now

abbrev pub invariant-section-groups : goal.invariant-section-groups
invariant-section-groups l = length l.self.rest.now ≤ length l.fn.self.rest.now

abbrev pub decreases-section-groups : goal.decreases-section-groups
decreases-section-groups l = length l.self.rest.now
