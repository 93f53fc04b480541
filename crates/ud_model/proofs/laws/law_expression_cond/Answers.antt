-- The computed tree is the one that the text has.
use Rattle.ud_model.proofs.conditions.DecidedConditions.{cond_of_tree, cond_without_tree, names_of_tree, names_without_tree}
use Rattle.ud_model.proofs.laws.law_expression_cond.Goals as goal

pub returns-clause-cond : goal.returns-clause-cond
returns-clause-cond c = cond_of_tree

pub returns-clause-unknown : goal.returns-clause-unknown
returns-clause-unknown c = cond_without_tree

pub returns-clause-names : goal.returns-clause-names
returns-clause-names c = names_of_tree

pub returns-clause-no_names : goal.returns-clause-no_names
returns-clause-no_names c = names_without_tree
