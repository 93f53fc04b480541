use Rattle.std.proofs.Common.{map, take, string_bytes}
use Rattle.ud_tree.specs.Choices.{Decides}
use Rattle.ud_tree.proofs.patterns.last_effect.Given as goal

abbrev pub invariant-loop-text : goal.invariant-loop-text
invariant-loop-text l = Decides l.below (map string_bytes (take l.text-index l.patterns)) l.last
