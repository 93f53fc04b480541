use Rattle.std.proofs.Common.{arith}
use Rattle.std.proofs.Math.ListN.{length-take}
use Rattle.std.proofs.lemmas.Grind.{common_steps}
use Rattle.ud_tree.proofs.StreamLemmas.{reads_more}
use Rattle.ud_tree.proofs.disk.naming.read_names.Goals as goal

pub loop-block-preserved : goal.loop-block-preserved
loop-block-preserved g c = record {
  consumed = reads_more _ _ _ c.in_ok-count.count c.read_some_names.new.buffer c.loop-block.packed.items c.in_ok-extend_from_slice.ensures.items
      c.loop-block.invariant.consumed c.in_ok-count.ensures.bytes.0;
  many = grind (arith, common_steps, length-take, c.in_ok-extend_from_slice.ensures.items, c.if-count-eq0.false, c.in_ok-count.ensures.bound, c.loop-block.invariant.many);
}
