use Rattle.std.proofs.Common.{◌≡◌, ◌∷◌, [], drop}
use Rattle.ud_args.specs.TreeWords.{has_flag}
use Rattle.ud_args.specs.ParsedArgs.{parsed}
use Rattle.ud_args.proofs.tree_words.has_flag.Given as goal

abbrev pub invariant-loop-item : goal.invariant-loop-item
invariant-loop-item l = has_flag (l.letter ∷ []) (parsed (drop l.item-index l.given)) ≡ has_flag (l.letter ∷ []) (parsed l.given)
