use Rattle.std.proofs.Common.{Bor, List, ℕ, []}
use Rattle.std.proofs.lemmas.List.{take_all}
use Rattle.ud_tree.proofs.VisibleLemmas.{shows_part, shows_rest, shows_whole}
use Rattle.ud_tree.proofs.send.send_visible_parts.Goals as goal

pub loop-part-preserved : goal.loop-part-preserved
loop-part-preserved g c = shows_part (λ (p : Bor (List ℕ)). p.now) c.args.parts.now c.loop-part.part-index (record { ref_ptr = (0, 0); now = [] }) c.loop-part-test.true
    c.loop-part.invariant c.send_part-waits.ensures

pub returns-then-waits : goal.returns-then-waits
returns-then-waits g c = shows_rest (rw (c.if-waits.true, take_all c.loop-part.part-index c.args.parts.now c.loop-part-test.false) at c.loop-part.invariant) c.send.ensures

pub returns-else-waits : goal.returns-else-waits
returns-else-waits g c = shows_whole (rw (c.if-waits.false, take_all c.loop-part.part-index c.args.parts.now c.loop-part-test.false) at c.loop-part.invariant)
