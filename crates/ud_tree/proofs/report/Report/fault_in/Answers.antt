use Rattle.ud_tree.proofs.WalkTellLemmas.{fault_in_reported}
use Rattle.ud_tree.proofs.report.Report.fault_in.Goals as goal

pub returns : goal.returns
returns g c = fault_in_reported c.args.directory.now c.args.name.now c.args.text.now c.fault_of.ensures
