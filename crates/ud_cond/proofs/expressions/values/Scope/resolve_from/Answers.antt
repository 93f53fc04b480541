use Rattle.std.proofs.Common.{◌∙◌, sym}
use Rattle.ud_cond.specs.expressions.Evaluation.{table_in}
use Rattle.ud_cond.proofs.lemmas.expressions.NamedLemmas.{end-here}
use Rattle.ud_cond.proofs.expressions.values.Scope.resolve_from.Goals as goal

pub returns-else-is_identifier : goal.returns-else-is_identifier
returns-else-is_identifier c = sym (end-here (table_in c.args.self.now) c.args.name.now c.args.text.now c.requires (sym c.is_identifier.ensures ∙ c.if-is_identifier.false))
