use Rattle.ud_tree.proofs.TreeLaws.{run_old_or_new}
use Rattle.ud_tree.proofs.TruthLemmas.{evidently_true}
use Rattle.ud_tree.proofs.laws.law_run_old_or_new.Goals as goal

pub returns-clause-files : goal.returns-clause-files
returns-clause-files g c = λ o first run h p into t. run_old_or_new o first run p into h t

pub returns-clause-answers : goal.returns-clause-answers
returns-clause-answers g c = λ first calls all answered. evidently_true g.T.Directory.is_evident first calls all answered
