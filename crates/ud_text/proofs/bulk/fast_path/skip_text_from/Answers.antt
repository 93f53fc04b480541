-- By the invariant.
use Rattle.std.proofs.Common.{subst, arith, IfSome, ◌<◌}
use Rattle.ud_text.specs.bulk.Reaching.{InReach, Reached}
use Rattle.ud_text.proofs.lemmas.bulk.ReachLemmas.{reach_plain}
use Rattle.ud_text.proofs.bulk.fast_path.skip_text_from.Goals as goal

pub loop-p-init : goal.loop-p-init
loop-p-init c = record {
  block = c.next_significant-at.ensures.block;
  order = (omega (arith, c.next_significant-at.ensures.value, c.requires.order.0), c.next_significant-at.ensures.bound);
  read = λ start r. reach_plain r c.next_significant-at.result.0 c.next_significant-at.ensures.value;
}

pub loop-p-preserved : goal.loop-p-preserved
loop-p-preserved c =
    let there : InReach c.in-Some.next c.args.lines.now × (c.loop-p.p.at < c.in-Some.next.at) =
    subst (λ o. IfSome o (λ q. InReach q c.args.lines.now × (c.loop-p.p.at < q.at))) c.in-Some.is c.step-next.ensures.further in
    record {
      block = c.next_significant-at-in-loop-p.ensures.block;
      order = (omega (arith, c.next_significant-at-in-loop-p.ensures.value, there.0.0), c.next_significant-at-in-loop-p.ensures.bound);
      read = λ start r.
          reach_plain (subst (λ o. IfSome o (λ q. Reached start c.args.lines.now q)) c.in-Some.is (c.step-next.ensures.read start (c.loop-p.invariant.read start r)))
          c.next_significant-at-in-loop-p.result.0 c.next_significant-at-in-loop-p.ensures.value;
    }
