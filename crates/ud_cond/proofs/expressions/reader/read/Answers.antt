use Rattle.std.proofs.Common.{◌≡◌, [], refl, sym, ◌∙◌, ap, subst, arith}
use Rattle.ud_model.specs.conditions.Parsing.{reads, needs, has, step}
use Rattle.ud_model.proofs.conditions.TokenLemmas.{shorter}
use Rattle.ud_cond.specs.CondViews.{as_token}
use Rattle.ud_cond.specs.expressions.Stacks.{weight, operand_weight}
use Rattle.ud_cond.specs.expressions.Keepings.{Represents}
use Rattle.ud_cond.proofs.lemmas.expressions.ReadingLemmas.{reads-stuck, reads-found}
use Rattle.ud_cond.proofs.lemmas.expressions.StackLemmas.{ends, ends-unreadable}
use Rattle.ud_cond.proofs.lemmas.expressions.KeepingLemmas.{if_some, if_none, count_noted, needs_of, has_of}
use Rattle.ud_cond.proofs.expressions.reader.read.Goals as goal

pub tokens-init : goal.tokens-init
tokens-init g c = let w : weight c.args.stacks.now ≡ 0 = ap (λ ps. weight ps) c.requires.empty in
    ((needs [], (c.requires.empty, c.requires.fresh), refl), omega (arith, w), omega (arith, count_noted g.K.Keeper.keeping c.args.notes.now [] c.requires.fresh))

pub returns-in-AtEnd-clause-some : goal.returns-in-AtEnd-clause-some
returns-in-AtEnd-clause-some g c = let m = g.K.Keeper.meaning c.args.keeper.now in
    let i = c.tokens.invariant.0 in
    if_some c.finish.result (λ r some.
    let h = some i.0 i.1 in
    (h.0, sym (ends m (reads m (needs []) c.args.text.now) i.0 c.tokens.rest.now i.2 c.in-AtEnd.ensures) ∙ h.1, h.2)) c.finish.ensures.some

pub returns-in-AtEnd-clause-none : goal.returns-in-AtEnd-clause-none
returns-in-AtEnd-clause-none g c = let m = g.K.Keeper.meaning c.args.keeper.now in
    let i = c.tokens.invariant.0 in
    if_none c.finish.result (λ none. sym (ends m (reads m (needs []) c.args.text.now) i.0 c.tokens.rest.now i.2 c.in-AtEnd.ensures) ∙ none i.0 i.1) c.finish.ensures.none

pub returns-in-Unreadable-clause-none : goal.returns-in-Unreadable-clause-none
returns-in-Unreadable-clause-none g c = let m = g.K.Keeper.meaning c.args.keeper.now in
    let i = c.tokens.invariant.0 in
    sym (ends-unreadable m (reads m (needs []) c.args.text.now) i.0 c.tokens.rest.now i.2 c.in-Unreadable.ensures)

pub read_operand-requires : goal.read_operand-requires
read_operand-requires g c =
    let less = shorter c.tokens.rest.now c.in-Found.after.now (as_token c.in-Found.token) (sym c.in-Found.ensures) in
    (omega (arith, c.tokens.invariant.1, c.requires.fits), omega (arith, c.tokens.invariant.2, c.requires.fits, c.requires.line))

pub returns-in_err-next-in-None-clause-none : goal.returns-in_err-next-in-None-clause-none
returns-in_err-next-in-None-clause-none g c = let K = g.K.Keeper.keeping in
    let m = g.K.Keeper.meaning c.args.keeper.now in
    let i = c.tokens.invariant.0 in
    let h = needs_of K c.tokens.stacks c.tokens.notes i.0 (subst (λ o. Represents K o c.tokens.stacks c.tokens.notes i.0) c.in-None.is i.1) in
    rw c.from_residual.ensures
    (i.2 ∙ ap (λ p. reads m p c.tokens.rest.now) h.1 ∙ reads-found m (needs h.0) c.tokens.rest.now
    (as_token c.in-Found.token) c.in-Found.after.now (sym c.in-Found.ensures) ∙ c.in_err-next-in-None.ensures.none h.0)

pub tokens-smaller-in-None : goal.tokens-smaller-in-None
tokens-smaller-in-None g c =
    let less = shorter c.tokens.rest.now c.in-Found.after.now (as_token c.in-Found.token) (sym c.in-Found.ensures) in
    omega (arith, c.in_ok-next-in-None.ensures.shorter)

pub tokens-preserved-in-None : goal.tokens-preserved-in-None
tokens-preserved-in-None g c = let K = g.K.Keeper.keeping in
    let m = g.K.Keeper.meaning c.args.keeper.now in
    let i = c.tokens.invariant.0 in
    let less = shorter c.tokens.rest.now c.in-Found.after.now (as_token c.in-Found.token) (sym c.in-Found.ensures) in
    let none : operand_weight c.tokens.operand ≡ 0 = ap operand_weight c.in-None.is in
    let h = needs_of K c.tokens.stacks c.tokens.notes i.0 (subst (λ o. Represents K o c.tokens.stacks c.tokens.notes i.0) c.in-None.is i.1) in
    let r = c.in_ok-next-in-None.ensures.some h.0 h.2 in (
      (r.0, r.1, i.2 ∙ ap (λ p. reads m p c.tokens.rest.now) h.1 ∙ reads-found m (needs h.0) c.tokens.rest.now (as_token c.in-Found.token) c.in-Found.after.now (sym c.in-Found.ensures) ∙ r.2),
      omega (arith, c.in_ok-next-in-None.ensures.lighter, c.in_ok-next-in-None.ensures.shorter, c.tokens.invariant.1),
      omega (arith, c.in_ok-next-in-None.ensures.long, c.tokens.invariant.2),
    )

pub read_operator-requires : goal.read_operator-requires
read_operator-requires g c =
    let less = shorter c.tokens.rest.now c.in-Found.after.now (as_token c.in-Found.token) (sym c.in-Found.ensures) in
    let one : operand_weight c.tokens.operand ≡ 1 = ap operand_weight c.in-Some.is in
    (omega (arith, c.tokens.invariant.1), omega (arith, c.tokens.invariant.2))

pub returns-in_err-operand-in-Some-clause-none : goal.returns-in_err-operand-in-Some-clause-none
returns-in_err-operand-in-Some-clause-none g c = let K = g.K.Keeper.keeping in
    let m = g.K.Keeper.meaning c.args.keeper.now in
    let i = c.tokens.invariant.0 in
    let h = has_of K c.tokens.stacks c.tokens.notes c.in-Some.part i.0 (subst (λ o. Represents K o c.tokens.stacks c.tokens.notes i.0) c.in-Some.is i.1) in
    rw c.from_residual-in_err-operand-in-Some.ensures
    (i.2 ∙ ap (λ p. reads m p c.tokens.rest.now) h.2 ∙ reads-found m (has h.0 h.1) c.tokens.rest.now (as_token c.in-Found.token) c.in-Found.after.now (sym c.in-Found.ensures)
    ∙ ap (λ p. reads m p c.in-Found.after.now) (c.in_err-operand-in-Some.ensures.none h.1 h.0 h.3) ∙ reads-stuck m c.in-Found.after.now)

pub tokens-smaller : goal.tokens-smaller
tokens-smaller g c = shorter c.tokens.rest.now c.in-Found.after.now (as_token c.in-Found.token) (sym c.in-Found.ensures)

pub tokens-preserved : goal.tokens-preserved
tokens-preserved g c = let K = g.K.Keeper.keeping in
    let m = g.K.Keeper.meaning c.args.keeper.now in
    let i = c.tokens.invariant.0 in
    let t = as_token c.in-Found.token in
    let less = shorter c.tokens.rest.now c.in-Found.after.now t (sym c.in-Found.ensures) in
    let some : operand_weight c.tokens.operand ≡ 1 = ap operand_weight c.in-Some.is in
    let h = has_of K c.tokens.stacks c.tokens.notes c.in-Some.part i.0 (subst (λ o. Represents K o c.tokens.stacks c.tokens.notes i.0) c.in-Some.is i.1) in (
      (
        step m (has h.0 h.1) t,
        c.in_ok-operand-in-Some.ensures.some h.1 h.0 h.3,
        i.2
            ∙ ap (λ p. reads m p c.tokens.rest.now) h.2 ∙ reads-found m (has h.0 h.1) c.tokens.rest.now t c.in-Found.after.now
            (sym c.in-Found.ensures),
      ),
      omega (arith, c.in_ok-operand-in-Some.ensures.lighter, c.tokens.invariant.1),
      omega (arith, c.in_ok-operand-in-Some.ensures.long, c.tokens.invariant.2),
    )
