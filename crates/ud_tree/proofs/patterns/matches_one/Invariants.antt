use Rattle.std.proofs.Common.{map, take}
use Rattle.ud_tree.specs.Choices.{MatchesOne}
use Rattle.ud_tree.proofs.patterns.matches_one.Given as goal

abbrev pub invariant-loop-pattern : goal.invariant-loop-pattern
invariant-loop-pattern l = ¬ (MatchesOne (map (λ p. p.now) (take l.pattern-index l.patterns)) l.name)
