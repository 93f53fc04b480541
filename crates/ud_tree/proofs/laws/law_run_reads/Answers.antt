use Rattle.ud_tree.proofs.TreeLaws.{run_reads}
use Rattle.ud_tree.proofs.laws.law_run_reads.Goals as goal

pub returns : goal.returns
returns c = λ run h other. run_reads run other h
