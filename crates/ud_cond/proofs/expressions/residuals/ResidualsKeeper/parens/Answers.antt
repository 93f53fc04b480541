use Rattle.std.proofs.Common.{◌≡◌, ℕ, ◌+◌, List, [], ◌∷◌, ◌++◌, length, Bool, true, not, ◌&&◌, sym, ◌∙◌, ap, ap₂, append_assoc, length-append, arith}
use Rattle.ud_cond.specs.declared.expressions.parts.Part.{Part}
use Rattle.ud_cond.specs.expressions.ResidualReading.{parens_kept, are_all_kept, lost_len}
use Rattle.ud_cond.proofs.lemmas.expressions.ResidualLemmas.{all_kept-append}
use Rattle.ud_cond.proofs.expressions.residuals.ResidualsKeeper.parens.Goals as goal

pub returns-clause-kept : goal.returns-clause-kept
returns-clause-kept c = λ k front e f.
    let n : c.args.a.first ≡ length front + 1 = ap (λ (p : Part). p.first) e in
    let g : c.saturating_sub-first.result ≡ length front = omega (arith, n, c.saturating_sub-first.ensures) in
    let b : c.both-stay.result ≡ (k.lost && k.left_alone) = c.both-stay.ensures ∙ ap (λ (p : Part). p.lost && p.left_alone) e in
    let size = c.len-end.ensures ∙ ap (λ (xs : List Bool). length xs) f ∙ length-append front (true ∷ k.flags) in
    let longer : c.len-longer.result ≡ c.len-end.result + 1 =
    c.len-longer.ensures ∙ ap (λ (xs : List Bool). length xs) c.push.ensures ∙ length-append _ (not c.both-stay.result ∷ []) ∙ ap (λ (i : ℕ). i + 1) (c.fill.ensures.long ∙ sym c.len-end.ensures) in
    let first = ap (λ (p : Part). p.kept) e ∙ ap (λ (i : ℕ). i + 1 + lost_len k.flags) (sym g) in
    let kept = c.kept_in_parens.ensures k.flags first (omega (arith, size, g)) longer in (
      ap₂ (λ (w : Bool) (s : ℕ). record c.args.a { left_alone = true; alone = true; whole = w; first = c.saturating_sub-first.result; kept = s })
          (c.both.ensures ∙ ap₂ (λ (x y : Bool). not x && y) b (ap (λ (p : Part). p.whole) e) ∙ (grind (arith, all_kept-append)))
          (kept ∙ ap₂ (λ (i : ℕ) (x : Bool). i + lost_len (not x ∷ k.flags ++ not x ∷ [])) g b)
          ∙ ap₂ (λ (p : Part) (m : ℕ). record p { left_alone = true; alone = true; whole = are_all_kept (parens_kept k).flags; first = m; kept = length front + lost_len (parens_kept k).flags }) e g,
      c.push.ensures ∙ ap (λ (xs : List Bool). xs ++ not c.both-stay.result ∷ [])
          (c.fill.ensures.filled front (true ∷ []) k.flags (grind (arith, append_assoc, f)) g n
          ∙ append_assoc front (not c.both-stay.result ∷ []) k.flags)
          ∙ append_assoc front (not c.both-stay.result ∷ k.flags) (not c.both-stay.result ∷ [])
          ∙ ap (λ (x : Bool). front ++ (not x ∷ (k.flags ++ not x ∷ []))) b,
    )
