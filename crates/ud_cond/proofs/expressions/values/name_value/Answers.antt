use Rattle.std.proofs.Common.{◌∙◌, Some, option_map, sym, ap}
use Rattle.ud_cond.specs.expressions.Evaluation.{table_in}
use Rattle.ud_cond.proofs.lemmas.expressions.NamedLemmas.{worth-unlisted, worth-undefined, worth-defined}
use Rattle.ud_cond.proofs.expressions.values.name_value.Goals as goal

pub returns-in-None : goal.returns-in-None
returns-in-None c = worth-unlisted (table_in c.args.scope.now) c.args.scope.now.unsigned c.args.name.now c.args.arguments (sym c.in-None.ensures)

pub returns-in-None-value : goal.returns-in-None-value
returns-in-None-value c =
    worth-undefined (table_in c.args.scope.now) c.args.scope.now.unsigned c.args.name.now c.args.arguments c.in-Some.entry.ignoring
    (sym c.in-Some.ensures ∙ ap (λ v. Some (record { value = option_map (λ b. b.now) v; ignoring = c.in-Some.entry.ignoring })) c.in-None-value.is)

pub returns-in-Some-value : goal.returns-in-Some-value
returns-in-Some-value c = c.defined_as.ensures
    ∙ worth-defined (table_in c.args.scope.now) c.args.scope.now.unsigned c.args.name.now c.args.arguments c.in-Some.entry.ignoring c.in-Some-value.text.now
    (sym c.in-Some.ensures ∙ ap (λ v. Some (record { value = option_map (λ b. b.now) v; ignoring = c.in-Some.entry.ignoring })) c.in-Some-value.is)
