use Rattle.ud_tree.proofs.ReportLemmas.{tells_none}
use Rattle.ud_tree.proofs.run.finish_output.Goals as goal

pub returns-then-flush-clause-told : goal.returns-then-flush-clause-told
returns-then-flush-clause-told g c = tells_none c.args.report.now
