use Rattle.std.proofs.Common.{◌≡◌, List, ◌∷◌, Option, Some, None, sym, ◌∙◌, ap, subst, arith}
use Rattle.ud_model.specs.conditions.Parsing.{Frame}
use Rattle.ud_cond.specs.expressions.Stacks.{weight, popped, BindsAsTightly}
use Rattle.ud_cond.proofs.lemmas.expressions.KeepingLemmas.{next_binary, next_prefix, settled_is}
use Rattle.ud_cond.proofs.expressions.reader.reduce.Goals as goal
use Rattle.std.proofs.lemmas.Grind.{common_steps}

pub waiting-preserved-in-Some-operand : goal.waiting-preserved-in-Some-operand
waiting-preserved-in-Some-operand g c = let K = g.K.Keeper.keeping in
    let o = c.in-Some.operator in
    let p : c.waiting.stacks ≡ popped o (Some c.in-Some-operand.operand) ∷ c.pop_operator.new.self =
    c.in-Some.ensures.some.0 ∙ ap (λ (x : Option g.row.K-Part.Denot). popped o x ∷ c.pop_operator.new.self) c.in-Some-operand.is in
    let l = subst (λ (x : Option g.row.K-Part.Denot). BindsAsTightly c.args.least o x) c.in-Some-operand.is c.in-Some.ensures.some.1 in
    let w = ap (λ (ps : List (Frame g.row.K-Part.Denot)). weight ps) p in (
      λ s k e.
          let i = c.waiting.invariant.0 s k e in
          let n = next_binary K (g.K.Keeper.meaning c.args.keeper.now) c.args.least o _ _ _ _ _ i.1 _ i.0 (sym p ∙ i.2.0) l i.2.1.0 i.2.1.1 c.binary.ensures.kept in
          (n.frames, n.part, n.at, i.3 ∙ n.same),
      omega (arith, w, c.waiting.invariant.1),
      omega (arith, c.binary.ensures.long, c.waiting.invariant.2),
    )

pub waiting-preserved : goal.waiting-preserved
waiting-preserved g c = let K = g.K.Keeper.keeping in
    let o = c.in-Some.operator in
    let p : c.waiting.stacks ≡ popped o None ∷ c.pop_operator.new.self =
    c.in-Some.ensures.some.0 ∙ ap (λ (x : Option g.row.K-Part.Denot). popped o x ∷ c.pop_operator.new.self) c.in-None.is in
    let w = ap (λ (ps : List (Frame g.row.K-Part.Denot)). weight ps) p in (
      λ s k e.
          let i = c.waiting.invariant.0 s k e in
          let n = next_prefix K (g.K.Keeper.meaning c.args.keeper.now) c.args.least o _ _ _ _ _ i.1 i.0 (sym p ∙ i.2.0) i.2.1.0 i.2.1.1 c.unary.ensures.kept in
          (n.frames, n.part, n.at, i.3 ∙ n.same),
      omega (arith, w, c.waiting.invariant.1),
      omega (arith, c.unary.ensures.long, c.waiting.invariant.2),
    )

pub returns-clause-kept : goal.returns-clause-kept
returns-clause-kept g c = grind (arith, common_steps, settled_is)
