use Rattle.std.proofs.Common.{◌≡◌, ℕ, ◌+◌, suc, List, [], ◌∷◌, ◌++◌, length, replicate, Bool, true, false, refl, sym, ◌∙◌, ap, ap₂, append_assoc, length-append, arith}
use Rattle.std.proofs.lemmas.List.{length-replicate}
use Rattle.ud_model.specs.conditions.Values.{binary_amount}
use Rattle.ud_cond.specs.declared.expressions.parts.Part.{Part}
use Rattle.ud_cond.specs.CondViews.{as_rules}
use Rattle.ud_cond.specs.expressions.Evaluation.{binary_value_of}
use Rattle.ud_cond.specs.expressions.ResidualReading.{Kept, part_of}
use Rattle.ud_cond.proofs.lemmas.expressions.ResidualLemmas.{other_binary, joining_binary, leaf_same, to_end, all_kept-replicate, none_lost, both_kept, length_with_operator}
use Rattle.ud_cond.proofs.expressions.residuals.ResidualsKeeper.binary.Goals as goal
use Rattle.std.proofs.lemmas.Grind.{common_steps}

pub returns-then-is_joining-clause-kept : goal.returns-then-is_joining-clause-kept
returns-then-is_joining-clause-kept c = grind (arith, common_steps, joining_binary)

pub returns-clause-kept : goal.returns-clause-kept
returns-clause-kept c = λ k j front e g f.
    let r = as_rules c.args.self.now.rules in
    let h = other_binary r c.args.operator k j (sym c.is_joining.ensures ∙ c.if-is_joining.false) in
    let n : c.args.a.first ≡ length front = ap (λ (p : Part). p.first) e in
    let q : c.args.b.first ≡ length front + (length k.flags + 1) = ap (λ (p : Part). p.first) g in
    let ks : List Bool = replicate (length k.flags) true in
    let behind = length_with_operator front ks ∙ ap (λ (i : ℕ). length front + (i + 1)) (length-replicate (length k.flags) true) in
    let left = c.keep_whole.ensures.kept front k.flags (true ∷ j.flags) f n (omega (arith, q, c.saturating_sub.ensures)) (ap (λ (p : Part). p.whole) e) in
    let split = left ∙ sym (append_assoc (front ++ ks) (true ∷ []) j.flags) in
    let whole = ap (λ (xs : List Bool). length xs) split ∙ length-append (front ++ ks ++ true ∷ []) j.flags in
    let right = c.keep_whole-2.ensures.kept (front ++ ks ++ true ∷ []) j.flags []
    (to_end _ (front ++ ks ++ true ∷ []) j.flags split) (q ∙ sym behind) (c.len.ensures ∙ whole)
    (ap (λ (p : Part). p.whole) g) in (
      c.leaf_part.ensures
          ∙ leaf_same r _ _ _ _ _ _ _ _ [] (replicate (length k.flags + suc (length j.flags)) true)
          (c.binary_value-value.ensures ∙ ap₂ (λ (x y : Part). binary_value_of r.strict false c.args.operator x.value y.value) e g)
          (c.binary_amount-number.ensures ∙ ap₂ (λ (x y : Part). binary_amount r.strict true c.args.operator x.number y.number) e g)
          refl n (all_kept-replicate (length k.flags + suc (length j.flags))) (none_lost (length k.flags + suc (length j.flags)))
          ∙ ap (λ (x : Kept). part_of x (length front)) (sym h),
      right ∙ both_kept front (length k.flags) (length j.flags) ∙ ap (λ (x : Kept). front ++ x.flags) (sym h),
    )
