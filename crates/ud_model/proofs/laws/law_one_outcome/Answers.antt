-- A text is read in one way.
use Rattle.ud_model.proofs.sections.Exists.{run_exists, run_so_far_exists}
use Rattle.ud_model.proofs.sections.Soundness.{one_run, one_run_so_far}
use Rattle.ud_model.proofs.laws.law_one_outcome.Goals as goal

pub returns-clause-exists : goal.returns-clause-exists
returns-clause-exists c = run_exists

pub returns-clause-only : goal.returns-clause-only
returns-clause-only c = λ o input r s p q. one_run p q

pub returns-clause-exists_so_far : goal.returns-clause-exists_so_far
returns-clause-exists_so_far c = run_so_far_exists

pub returns-clause-only_so_far : goal.returns-clause-only_so_far
returns-clause-only_so_far c = λ o given r s p q. one_run_so_far p q
