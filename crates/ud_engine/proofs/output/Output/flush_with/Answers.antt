use Rattle.std.proofs.Common.{arith}
use Rattle.ud_io.proofs.StreamLemmas.{takes_then}
use Rattle.ud_engine.proofs.output.Output.flush_with.Goals as goal
use Rattle.std.proofs.lemmas.Grind.{common_steps}

pub returns-clause-takes : goal.returns-clause-takes
returns-clause-takes g c = grind (arith, common_steps, takes_then)
