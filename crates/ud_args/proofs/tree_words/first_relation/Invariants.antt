use Rattle.std.proofs.Common.{◌≡◌, drop}
use Rattle.ud_args.specs.ParsedArgs.{parsed}
use Rattle.ud_args.specs.TreeWords.{first_relation}
use Rattle.ud_args.proofs.tree_words.first_relation.Given as goal

abbrev pub invariant-loop-item : goal.invariant-loop-item
invariant-loop-item l = first_relation (parsed (drop l.item-index l.given)) ≡ first_relation (parsed l.given)
