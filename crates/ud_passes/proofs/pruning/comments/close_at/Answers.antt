-- Another byte, or the end of the comment.
use Rattle.std.proofs.Common.{ℕ, List, sym, ◌∙◌, ap, arith}
use Rattle.std.specs.Prelude.{codes, nat_eq}
use Rattle.std.specs.List.{starts_with}
use Rattle.ud_passes.proofs.CommentLemmas.{close_later, close_here}
use Rattle.ud_passes.proofs.pruning.comments.close_at.Goals as goal

pub loop-at-preserved : goal.loop-at-preserved
loop-at-preserved c = let e = close_later c.args.bytes.now c.loop-at.at c.loop-at-test.true (ap (λ (x : List ℕ). starts_with nat_eq x (codes "*/")) (sym c.split_bytes.ensures.back) ∙ sym c.starts_with.ensures.value ∙ c.if-starts_with.false) in
    let i = c.loop-at.invariant in omega (arith, e, i)

pub returns-then-starts_with : goal.returns-then-starts_with
returns-then-starts_with c = let e = close_here c.args.bytes.now c.loop-at.at c.loop-at-test.true (ap (λ (x : List ℕ). starts_with nat_eq x (codes "*/")) (sym c.split_bytes.ensures.back) ∙ sym c.starts_with.ensures.value ∙ c.if-starts_with.true) in
    let i = c.loop-at.invariant in omega (arith, e, i)
