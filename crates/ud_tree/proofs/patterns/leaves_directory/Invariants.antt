use Rattle.std.proofs.Common.{map, take, string_bytes}
use Rattle.ud_tree.specs.Choices.{LeavesDirectory}
use Rattle.ud_tree.proofs.patterns.leaves_directory.Given as goal

abbrev pub invariant-loop-text : goal.invariant-loop-text
invariant-loop-text l = ¬ (LeavesDirectory (map string_bytes (take l.text-index l.patterns)) l.below)
