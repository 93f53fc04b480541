use Rattle.std.proofs.Common.{length}
use Rattle.ud_tree.specs.PatternPlaces.{Parts}
use Rattle.ud_tree.proofs.patterns.matching.match_parts.Given as goal

abbrev pub invariant-parts : goal.invariant-parts
invariant-parts l = Parts l.pattern l.name l.parts l.bytes

abbrev pub decreases-parts : goal.decreases-parts
decreases-parts l = length l.bytes
