use Rattle.ud_tree.proofs.StatusLaws.{run_clean}
use Rattle.ud_tree.proofs.laws.law_run_status.Goals as goal

pub returns : goal.returns
returns c = λ run h other few. run_clean run other few h
