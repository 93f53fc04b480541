use Rattle.std.proofs.Common.{◌≡◌, drop}
use Rattle.ud_args.specs.ParsedArgs.{parsed}
use Rattle.ud_args.specs.TreeWords.{first_fault}
use Rattle.ud_tree.proofs.arguments.word_fault.Given as goal

abbrev pub invariant-loop-item : goal.invariant-loop-item
invariant-loop-item l = first_fault (parsed (drop l.item-index l.given)) ≡ first_fault (parsed l.given)
