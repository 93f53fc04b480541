use Rattle.ud_tree.proofs.WalkTellLemmas.{failure_alone, failure_reported}
use Rattle.ud_tree.proofs.report.Report.failure.Goals as goal

pub returns-in-None : goal.returns-in-None
returns-in-None g c = failure_alone c.args.path.now c.args.text.now c.fault.ensures

pub returns-in-Err : goal.returns-in-Err
returns-in-Err g c = failure_alone c.args.path.now c.args.text.now c.fault-in-Err.ensures

pub returns-in-Ok : goal.returns-in-Ok
returns-in-Ok g c = failure_reported c.args.path.now c.args.text.now _ c.fault_of.ensures
