-- Case by case.
use Rattle.ud_laws.proofs.output.SimplifiedAgain.{operands_left}
use Rattle.ud_laws.proofs.residual_laws.law_operands_left.Goals as goal

pub returns : goal.returns
returns c = λ table rules bytes before after r d e h t. operands_left table rules bytes before after r d e h t
