use Rattle.std.proofs.Common.{◌≡◌, ◌++◌, drop, map, string_bytes}
use Rattle.ud_args.specs.TreeWords.{paths_in}
use Rattle.ud_args.specs.ParsedArgs.{parsed}
use Rattle.ud_args.proofs.tree_words.paths.Given as goal

abbrev pub invariant-loop-item : goal.invariant-loop-item
invariant-loop-item l = map string_bytes l.words.items ++ paths_in (parsed (drop l.item-index l.given)) ≡ paths_in (parsed l.given)
