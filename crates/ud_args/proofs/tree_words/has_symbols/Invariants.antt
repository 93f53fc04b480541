use Rattle.std.proofs.Common.{◌≡◌, drop}
use Rattle.ud_args.specs.TreeWords.{has_symbols}
use Rattle.ud_args.specs.ParsedArgs.{parsed}
use Rattle.ud_args.proofs.tree_words.has_symbols.Given as goal

abbrev pub invariant-loop-item : goal.invariant-loop-item
invariant-loop-item l = has_symbols (parsed (drop l.item-index l.given)) ≡ has_symbols (parsed l.given)
