use Rattle.ud_tree.proofs.MessageLemmas.{unrenamed_is}
use Rattle.ud_tree.proofs.report.Report.not_renamed.Goals as goal

pub returns-in_default : goal.returns-in_default
returns-in_default g c = unrenamed_is c.args.path.now c.failure.ensures
