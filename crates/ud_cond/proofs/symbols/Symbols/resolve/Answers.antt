use Rattle.std.proofs.Common.{◌≡◌, ◌∙◌, sym, ap, suc, ◌-◌, ◌+◌, length, arith}
use Rattle.ud_model.specs.conditions.Symbols.{resolve, resolve_within}
use Rattle.ud_model.proofs.conditions.SymbolLemmas.{ends_after}
use Rattle.ud_cond.proofs.symbols.Symbols.resolve.Goals as goal

pub steps-init : goal.steps-init
unfolding resolve
steps-init c = let all : length c.args.self.now ≡ c.count-maximum.result - 0 = omega arith in
    ap (λ k. resolve_within k c.args.self.now c.args.name.now) all

pub steps-preserved : goal.steps-preserved
steps-preserved c =
    let one : c.count-maximum.result - c.steps.counter ≡ suc (c.count-maximum.result - (c.steps.counter + 1)) = omega arith in
    c.steps.invariant ∙ ap (λ k. resolve_within k c.args.self.now c.steps.at.now) one
    ∙ ends_after c.args.self.now (c.count-maximum.result - (c.steps.counter + 1)) c.steps.at.now c.in_ok-text.text.now
    (sym c.in_ok-text.ensures) (sym c.is_identifier.ensures ∙ c.if-not-is_identifier.false)
