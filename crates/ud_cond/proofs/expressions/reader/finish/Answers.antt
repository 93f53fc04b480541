use Rattle.std.proofs.Common.{sym, ◌∙◌, ap, subst}
use Rattle.ud_model.specs.conditions.Parsing as parsing
use Rattle.ud_model.specs.conditions.Parsing.{reduce}
use Rattle.ud_cond.specs.expressions.Keepings.{Represents}
use Rattle.ud_cond.proofs.lemmas.expressions.KeepingLemmas.{has_of, ended}
use Rattle.ud_cond.proofs.expressions.reader.finish.Goals as goal

pub returns-then-is_empty-clause-some : goal.returns-then-is_empty-clause-some
returns-then-is_empty-clause-some g c = λ q rep.
    let K = g.K.Keeper.keeping in
    let m = g.K.Keeper.meaning c.args.keeper.now in
    let h = has_of K c.args.stacks.now c.args.notes.now c.in_ok-operand.field-0 q (subst (λ o. Represents K o c.args.stacks.now c.args.notes.now q) c.in_ok-operand.was rep) in
    let r = reduce m 0 h.0 h.1 in
    let e = ended K m r.0 r.1 c.reduce-whole.result c.reduce-whole.new.stacks c.reduce-whole.new.notes (sym c.is_empty.ensures ∙ c.if-is_empty.true) (c.reduce-whole.ensures.kept h.1 h.0 h.3) in
    (r.0, ap (λ p. parsing.finish m p) h.2 ∙ e.0, e.1)
