use Rattle.ud_tree.proofs.TreeLaws.{run_renames}
use Rattle.ud_tree.proofs.laws.law_run_renames.Goals as goal

pub returns : goal.returns
returns c = λ o run h p into. run_renames o run p into h
