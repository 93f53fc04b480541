use Rattle.std.proofs.Common.{◌∙◌, ◌*◌, sym, ap, arith}
use Rattle.ud_model.specs.conditions.Values.{limited}
use Rattle.ud_cond.proofs.lemmas.expressions.DigitLemmas.{unknown-above}
use Rattle.ud_cond.proofs.expressions.constants.number.Goals as goal
use Rattle.std.proofs.lemmas.Grind.{common_steps}

pub returns-in_err-product : goal.returns-in_err-product
returns-in_err-product c =
    let times = ap (λ b. c.digits.number * b) c.radix-times.ensures in
    rw c.from_residual.ensures
    (sym (ap limited c.digits.invariant ∙ unknown-above c.args.base c.digits.number c.digits.rest.now c.in-len1-up.len_at_least (omega (arith, c.in_err-product.ensures))))

pub returns-in_err-number : goal.returns-in_err-number
returns-in_err-number c = grind (arith, common_steps, unknown-above, c.from_residual-in_err-number.ensures)
