use Rattle.std.proofs.Common.{◌≡◌, ◌+◌, suc, List, [], ◌∷◌, ◌++◌, length, replicate, Bool, true, false, sym, ◌∙◌, ap, append-nil, length-append, arith}
use Rattle.ud_model.specs.conditions.Values.{unary_amount}
use Rattle.ud_cond.specs.declared.expressions.parts.Part.{Part}
use Rattle.ud_cond.specs.CondViews.{as_rules}
use Rattle.ud_cond.specs.expressions.Evaluation.{unary_value_of}
use Rattle.ud_cond.specs.expressions.ResidualReading.{Kept, part_of}
use Rattle.ud_cond.proofs.lemmas.expressions.ResidualLemmas.{other_unary, leaf_same, to_end, all_kept-replicate, none_lost}
use Rattle.ud_cond.proofs.expressions.residuals.ResidualsKeeper.unary.Goals as goal

pub returns-clause-kept : goal.returns-clause-kept
returns-clause-kept c = λ k front e f.
    let r = as_rules c.args.self.now.rules in
    let h = other_unary r c.args.operator k (sym c.is_not.ensures ∙ c.if-is_not.false) in
    let n : c.args.a.first ≡ length front + 1 = ap (λ (p : Part). p.first) e in
    let g : c.saturating_sub-first.result ≡ length front = omega (arith, n, c.saturating_sub-first.ensures) in
    let whole = ap (λ (xs : List Bool). length xs) f ∙ length-append front (true ∷ k.flags) in (
      c.leaf_part.ensures
          ∙ leaf_same r _ _ _ _ _ _ _ _ [] (replicate (suc (length k.flags)) true)
          (c.unary-value.ensures ∙ ap (λ (u : Bool). unary_value_of u c.args.operator c.args.a.value) c.scope.ensures.unsigned ∙ ap (λ (x : Part). unary_value_of false c.args.operator x.value) e)
          (c.unary_amount-number.ensures ∙ ap (λ (x : Part). unary_amount true c.args.operator x.number) e)
          (ap (λ (x : Part). x.alone) e) g (all_kept-replicate (suc (length k.flags))) (none_lost (suc (length k.flags)))
          ∙ ap (λ (x : Kept). part_of x (length front)) (sym h),
      c.keep_whole.ensures.kept front (true ∷ k.flags) [] (to_end _ front (true ∷ k.flags) f) g (c.len.ensures ∙ whole) (ap (λ (p : Part). p.whole) e)
          ∙ append-nil (front ++ replicate (suc (length k.flags)) true)
          ∙ ap (λ (x : Kept). front ++ x.flags) (sym h),
    )
