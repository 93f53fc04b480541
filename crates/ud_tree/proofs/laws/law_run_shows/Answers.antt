use Rattle.ud_tree.proofs.TreeLaws.{run_shows}
use Rattle.ud_tree.proofs.laws.law_run_shows.Goals as goal

pub returns : goal.returns
returns c = λ o run h p diff. run_shows o run p diff h
