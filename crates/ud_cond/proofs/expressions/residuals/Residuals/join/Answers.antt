use Rattle.std.proofs.Common.{◌≡◌, ℕ, ◌+◌, suc, List, [], ◌∷◌, ◌++◌, length, replicate, Bool, true, false, refl, sym, ◌∙◌, ap, append_assoc, append-nil, length-append, arith}
use Rattle.ud_cond.specs.declared.expressions.parts.Part.{Part}
use Rattle.ud_cond.specs.CondViews.{as_rules}
use Rattle.ud_cond.proofs.lemmas.expressions.ResidualLemmas.{join_right, join_left, join_both, flags_right, flags_left, flags_both, filled_right, to_end}
use Rattle.ud_cond.proofs.expressions.residuals.Residuals.join.Goals as goal

pub returns-then-is_unit-clause-kept : goal.returns-then-is_unit-clause-kept
returns-then-is_unit-clause-kept c = λ k j front e g f.
    let h = sym c.is_unit.ensures ∙ c.if-is_unit.true in
    let q : c.args.b.first ≡ length front + (length k.flags + 1) = ap (λ (p : Part). p.first) g in (
      join_right (as_rules c.args.self.now.rules) c.args.operator k j _ _ c.args.a c.args.b _ _ e g c.binary_value.ensures c.binary_amount.ensures refl h,
      filled_right _ _ front k.flags j.flags _ _ f (ap (λ (p : Part). p.kept) e) q c.fill.ensures.filled
          ∙ ap (λ (xs : List Bool). front ++ xs) (flags_right (as_rules c.args.self.now.rules) c.args.operator k j _ _ c.args.a c.args.b _ _ e g c.binary_value.ensures c.binary_amount.ensures h),
    )

pub returns-then-is_unit-2-clause-kept : goal.returns-then-is_unit-2-clause-kept
returns-then-is_unit-2-clause-kept c = λ k j front e g f.
    let h = sym c.is_unit.ensures ∙ c.if-is_unit.false in
    let i = sym c.is_unit-2.ensures ∙ c.if-is_unit-2.true in
    let q : c.args.b.first ≡ length front + (length k.flags + 1) = ap (λ (p : Part). p.first) g in
    let long : length (front ++ k.flags) ≡ length front + length k.flags = length-append front k.flags in
    let start : c.saturating_sub-end.result ≡ length (front ++ k.flags) = omega (arith, q, long, c.saturating_sub-end.ensures) in
    let whole : length c.args.flags.now ≡ length (front ++ k.flags) + length (true ∷ j.flags) =
    ap (λ (xs : List Bool). length xs) f ∙ length-append (front ++ k.flags) (true ∷ j.flags) in
    let kept = c.kept_of_longer.ensures (length front) (suc (length j.flags)) k.flags (ap (λ (p : Part). p.kept) e)
    (start ∙ long) (c.len-longer.ensures ∙ whole ∙ ap (λ (i : ℕ). i + suc (length j.flags)) (sym start)) in (
      join_left (as_rules c.args.self.now.rules) c.args.operator k j _ _ c.args.a c.args.b _ _ e g c.binary_value.ensures c.binary_amount.ensures _ kept h i,
      c.fill-then-is_unit-2.ensures.filled (front ++ k.flags) (true ∷ j.flags) [] (to_end _ (front ++ k.flags) (true ∷ j.flags) f) start (c.len-longer.ensures ∙ whole)
          ∙ append-nil ((front ++ k.flags) ++ replicate (suc (length j.flags)) false)
          ∙ append_assoc front k.flags (replicate (suc (length j.flags)) false)
          ∙ ap (λ (xs : List Bool). front ++ xs) (flags_left (as_rules c.args.self.now.rules) c.args.operator k j _ _ c.args.a c.args.b _ _ e g c.binary_value.ensures c.binary_amount.ensures h i),
    )

pub returns-clause-kept : goal.returns-clause-kept
returns-clause-kept c = λ k j front e g f.
    let h = sym c.is_unit.ensures ∙ c.if-is_unit.false in
    let i = sym c.is_unit-2.ensures ∙ c.if-is_unit-2.false in (
      join_both (as_rules c.args.self.now.rules) c.args.operator k j _ _ c.args.a c.args.b _ _ e g c.binary_value.ensures c.binary_amount.ensures _ _ c.settled.ensures c.both.ensures h i,
      f ∙ append_assoc front k.flags (true ∷ j.flags)
          ∙ ap (λ (xs : List Bool). front ++ xs) (flags_both (as_rules c.args.self.now.rules) c.args.operator k j _ _ c.args.a c.args.b _ _ e g c.binary_value.ensures c.binary_amount.ensures h i),
    )
