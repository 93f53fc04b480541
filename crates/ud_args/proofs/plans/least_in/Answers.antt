-- The option defines the symbol in terms of unifdef(1).
use Rattle.std.proofs.Common.{rules}
use Rattle.ud_args.proofs.LeastLemmas.{sets_least}
use Rattle.ud_args.proofs.plans.least_in.Goals as goal

pub returns-clause-symbol : goal.returns-clause-symbol
returns-clause-symbol c = search (rules, sets_least)
