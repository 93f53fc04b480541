use Rattle.std.proofs.Common.{◌≡◌, ◌++◌, length, map, string_bytes}
use Rattle.ud_args.specs.TreeWords.{given_in}
use Rattle.ud_args.specs.ParsedArgs.{parsed, remaining}
use Rattle.ud_args.proofs.tree_words.given_by.Given as goal

abbrev pub invariant-given : goal.invariant-given
invariant-given l = given_in (map string_bytes l.words) ≡ parsed l.given.items ++ remaining l.line

abbrev pub decreases-given : goal.decreases-given
decreases-given l = length (remaining l.line)
