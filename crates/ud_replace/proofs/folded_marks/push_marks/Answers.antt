-- One line after another.
use Rattle.std.proofs.Common.{ℕ, ◌++◌, ◌∷◌, [], List, sym, ◌∙◌, ap, ap₂, append_assoc, append-nil, arith, if◌then◌else◌, ◌==◌}
use Rattle.ud_replace.specs.FoldedMarks.{first_stay}
use Rattle.ud_replace.proofs.MarkLemmas.{first_stay-more, first_stay-none, mark_after}
use Rattle.ud_replace.proofs.folded_marks.push_marks.Goals as goal

pub loop-line-init : goal.loop-line-init
loop-line-init c = (
  sym (append-nil c.args.marks.now.items) ∙ ap (λ x. c.args.marks.now.items ++ x) (sym (first_stay-none c.args.stay)),
  omega arith,
)

pub loop-line-preserved : goal.loop-line-preserved
loop-line-preserved c = (
  c.in_ok-left.ensures.mark
      ∙ ap₂ (λ (x : List ℕ) (n : ℕ). x ++ (if n == 0 then 0 else 61) ∷ []) c.loop-line.invariant.0 c.loop-line.invariant.1
      ∙ append_assoc c.args.marks.now.items (first_stay c.loop-line._line c.args.stay) (mark_after c.loop-line._line c.args.stay)
      ∙ ap (λ x. c.args.marks.now.items ++ x) (first_stay-more c.loop-line._line c.args.stay),
  omega (arith, c.in_ok-left.ensures.left),
)
