-- A text has the tree as which it is parsed, and is parsed as the tree that it has.
use Rattle.ud_model.proofs.conditions.OneExpression.{one_expression, expression_only, expression_is}
use Rattle.ud_model.proofs.laws.law_one_expression.Goals as goal

pub returns-clause-only : goal.returns-clause-only
returns-clause-only c = one_expression

pub returns-clause-found : goal.returns-clause-found
returns-clause-found c = expression_only

pub returns-clause-written : goal.returns-clause-written
returns-clause-written c = expression_is
