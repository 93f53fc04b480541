use Rattle.std.proofs.Common.{take, arith, refl}
use Rattle.std.proofs.lemmas.Grind.{common_steps}
use Rattle.ud_tree.proofs.ReadingLemmas.{block_read}
use Rattle.ud_tree.proofs.disk.reading.read_block.Goals as goal

pub returns-in-Ok-clause-reads : goal.returns-in-Ok-clause-reads
returns-in-Ok-clause-reads g c = record {
  bytes = take c.in-Ok.count c.read_retrying.new.buffer;
  appended = block_read c.args.text.now.items c.as_mut_slice.result.now c.read_retrying.new.buffer _ _ c.len-before.result
      c.in-Ok.count _ _ (grind (arith, common_steps)) (grind (arith, common_steps)) c.in-Ok.ensures.bound.0
      refl (grind (arith, common_steps)) c.truncate.ensures.items;
  counted = grind (arith, common_steps);
  consumed = c.in-Ok.ensures.bytes.0;
  ended = λ none. c.in-Ok.ensures.bytes.1 none (grind (arith, common_steps));
}
