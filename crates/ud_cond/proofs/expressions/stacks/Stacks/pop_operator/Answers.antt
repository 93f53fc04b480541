use Rattle.std.proofs.Common.{rules, ◌≡◌, ◌<◌, ◌-◌, length, reverse, take, Some, refl, subst, arith}
use Rattle.std.specs.Prelude.{slice_get}
use Rattle.ud_model.specs.conditions.Expressions.{precedence}
use Rattle.ud_cond.specs.declared.expressions.stacks.PendingOp.TheVariants.{Binary}
use Rattle.ud_cond.specs.expressions.Stacks.{IsSettled}
use Rattle.ud_cond.proofs.lemmas.expressions.StackLemmas.{settled-top}
use Rattle.ud_cond.proofs.expressions.stacks.Stacks.pop_operator.Goals as goal

pub returns-then-precedence-least-clause-none : goal.returns-then-precedence-least-clause-none
returns-then-precedence-least-clause-none g c =
    let ws = take c.self.inside.depth c.self.inside.operators in
    let on_top : slice_get ws (length ws - 1) ≡ Some (Binary c.in-Some-Binary.operator) =
    search rules in
    let looser : precedence c.in-Some-Binary.operator < c.args.least =
    omega (arith, c.precedence.ensures.value, c.if-precedence-least.true) in
    let settled =
    settled-top ws (reverse c.self.inside.operands.items) c.args.least _ on_top looser in
    (refl, subst (λ s. IsSettled c.args.least s) c.self.view_is settled)
