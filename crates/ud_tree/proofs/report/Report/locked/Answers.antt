use Rattle.ud_tree.proofs.WalkTellLemmas.{locked_reported}
use Rattle.ud_tree.proofs.report.Report.locked.Goals as goal

pub returns : goal.returns
returns g c = locked_reported c.args.path.now _ _ c.directory.ensures c.fresh_end.ensures c.fault_of.ensures
