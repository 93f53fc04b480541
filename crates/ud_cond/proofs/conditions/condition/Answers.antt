use Rattle.std.proofs.Common.{◌∙◌, rules}
use Rattle.ud_model.proofs.conditions.ConditionLemmas.{condition_of_same}
use Rattle.ud_cond.specs.CondViews.{as_rules}
use Rattle.ud_cond.proofs.conditions.condition.Goals as goal

pub returns-then-matches : goal.returns-then-matches
returns-then-matches c = λ calls represents. (search rules) ∙ condition_of_same c.args.symbols.now calls represents c.args.kind c.args.text.now (as_rules c.args.rules)

pub returns-else-matches : goal.returns-else-matches
returns-else-matches c = λ calls represents. (search rules) ∙ condition_of_same c.args.symbols.now calls represents c.args.kind c.args.text.now (as_rules c.args.rules)
