-- A text has one outcome, and the answer follows from it.
use Rattle.std.proofs.Common.{arith}
use Rattle.ud_model.proofs.sections.Exists.{answer_exists}
use Rattle.ud_model.proofs.sections.Soundness.{one_run}
use Rattle.ud_model.proofs.laws.law_one_answer.Goals as goal

pub returns-clause-exists : goal.returns-clause-exists
returns-clause-exists c = answer_exists

pub returns-clause-only : goal.returns-clause-only
returns-clause-only c = λ args input a b p q. (grind (arith, one_run, p, q))
