use Rattle.std.proofs.Common.{◌≡◌, drop}
use Rattle.ud_args.specs.ParsedArgs.{parsed}
use Rattle.ud_args.specs.TreeWords.{word_at}
use Rattle.ud_args.proofs.tree_words.word_at.Given as goal

abbrev pub invariant-loop-item : goal.invariant-loop-item
invariant-loop-item l = word_at l.number (parsed (drop l.item-index l.given)) ≡ word_at l.number (parsed l.given)
