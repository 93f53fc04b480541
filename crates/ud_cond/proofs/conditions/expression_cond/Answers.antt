use Rattle.std.proofs.Common.{◌≡◌, true, false, rules}
use Rattle.ud_cond.specs.CondViews.{as_rules}
use Rattle.ud_cond.proofs.lemmas.expressions.EvaluationLemmas.{cond-none, cond-some}
use Rattle.ud_cond.proofs.conditions.expression_cond.Goals as goal

pub returns-then-not-value : goal.returns-then-not-value
returns-then-not-value c = let signed : c.in-Some.value.unsigned ≡ false = search rules in
    rw c.cond_of_value.ensures (cond-some c.args.symbols.now (as_rules c.args.rules) false c.args.text.now c.in-Some.value c.in-Some.value c.in-Some.ensures signed c.in-Some.ensures)

pub returns-in-None : goal.returns-in-None
returns-in-None c = cond-none c.args.symbols.now (as_rules c.args.rules) false c.args.text.now c.in-None.ensures

pub returns-in-None-evaluate : goal.returns-in-None-evaluate
returns-in-None-evaluate c = cond-none c.args.symbols.now (as_rules c.args.rules) true c.args.text.now c.in-None-evaluate.ensures

pub returns-in-Some-evaluate : goal.returns-in-Some-evaluate
returns-in-Some-evaluate c = let unsigned : c.in-Some.value.unsigned ≡ true = search rules in
    rw c.cond_of_value-in-Some-evaluate.ensures
    (cond-some c.args.symbols.now (as_rules c.args.rules) true c.args.text.now c.in-Some.value c.in-Some-evaluate.value c.in-Some.ensures unsigned c.in-Some-evaluate.ensures)
