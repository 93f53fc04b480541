use Rattle.std.proofs.Common.{true, false, ◌∙◌, ap, rules}
use Rattle.ud_model.specs.declared.amount.Amount.{Amount}
use Rattle.ud_cond.specs.expressions.Evaluation.{table_in}
use Rattle.ud_cond.proofs.lemmas.expressions.NamedLemmas.{worth-digit}
use Rattle.ud_cond.proofs.expressions.values.defined_as.Goals as goal

pub returns-then-is_some : goal.returns-then-is_some
returns-then-is_some c = ap (λ (a : Amount). record { number = a; unsigned = false; listed = true; calls_undefined = false }) c.exactly.ensures
    ∙ worth-digit (table_in c.args.scope.now) c.args.scope.now.unsigned c.args.name.now c.args.text.now
    c.single_digit_value-digit.result (search rules) c.requires c.single_digit_value-digit.ensures
