use Rattle.std.proofs.Common.{rules}
use Rattle.ud_io.proofs.StreamLemmas.{takes_part}
use Rattle.ud_engine.proofs.output.Output.append_parts.Goals as goal

pub loop-part-preserved : goal.loop-part-preserved
loop-part-preserved g c = search (rules, takes_part)
