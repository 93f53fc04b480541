-- An option of unifdef(1) would store the symbol in the same way.
use Rattle.ud_args.specs.ParsedArgs.{as_parsed}
use Rattle.ud_args.specs.TreeWords.{unifdef_arg}
use Rattle.ud_args.proofs.plans.PlanDraft.apply_in_tree.Goals as goal

pub returns-in-Some-clause-err : goal.returns-in-Some-clause-err
returns-in-Some-clause-err c = c.apply_least.ensures.err (unifdef_arg (as_parsed c.args.given)) c.in-Some.ensures.symbol
