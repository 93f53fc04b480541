-- The option defines the symbol in terms of unifdef(1).
use Rattle.std.proofs.Common.{arith}
use Rattle.ud_args.proofs.LeastLemmas.{least_name}
use Rattle.ud_args.proofs.tree_words.symbol_of.Goals as goal

pub returns-in-Some : goal.returns-in-Some
returns-in-Some c = grind (arith, least_name c.in-WithArgument.letter c.in-WithArgument.word c.as_bytes-argument.result.now c.in-Some.symbol c.in-Some.ensures.symbol, c.as_bytes-argument.ensures.value)
