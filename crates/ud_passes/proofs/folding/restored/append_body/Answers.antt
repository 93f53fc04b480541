-- The bytes after the masked ones stay.
use Rattle.std.proofs.Common.{◌++◌, List, ℕ, ◌∙◌, ap, sym}
use Rattle.ud_passes.proofs.RestoreLemmas.{body_done}
use Rattle.ud_passes.proofs.folding.restored.append_body.Goals as goal

pub returns : goal.returns
returns c = c.in_ok-extend_from_slice.ensures.items
    ∙ ap (λ (x : List ℕ). c.loop-i.out.items ++ x) (c.split_at.ensures.back ∙ sym (body_done c.args.ending.now c.args.body.now c.args.masked.now c.loop-i.i c.loop-i-test.false c.loop-i.auto.i-end))
    ∙ c.loop-i.invariant
