use Rattle.ud_model.proofs.conditions.Readings.{reads_meaning}
use Rattle.std.proofs.Common.{◌∙◌, ap, is_some, arith}
use Rattle.ud_cond.proofs.list_names.is_expression.Goals as goal

pub returns : goal.returns
returns c = c.is_some.ensures ∙ ap is_some c.evaluate.ensures ∙ (grind (arith, reads_meaning))
