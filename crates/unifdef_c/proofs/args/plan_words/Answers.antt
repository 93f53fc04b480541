use Rattle.std.proofs.Common.{arith}
use Rattle.std.proofs.lemmas.Grind.{common_steps}
use Rattle.unifdef_c.proofs.FaultLemmas.{usage_refused}
use Rattle.unifdef_c.proofs.args.plan_words.Goals as goal

pub returns-in_err-plan-clause-err : goal.returns-in_err-plan-clause-err
returns-in_err-plan-clause-err c = grind (arith, common_steps, usage_refused)
