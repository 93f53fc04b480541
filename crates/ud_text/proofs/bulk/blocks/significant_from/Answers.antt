-- The lowest bit of a block, or a search among the last bytes.
use Rattle.std.proofs.Common.{◌∙◌, arith}
use Rattle.ud_text.proofs.lemmas.bulk.BlockBitLemmas.{row_found, row_empty, row_later}
use Rattle.ud_text.proofs.bulk.blocks.significant_from.Goals as goal

pub loop-at-preserved : goal.loop-at-preserved
loop-at-preserved c = record {
  within = omega arith;
  same = c.loop-at.invariant.same
      ∙ row_later c.args.bytes.now c.loop-at.at 64 (row_empty c.args.bytes.now c.loop-at.at 64 (omega arith) (omega arith) c.block_bits-bits.result c.block_bits-bits.ensures (omega arith));
}

pub returns-then-bits-ne0-clause-value : goal.returns-then-bits-ne0-clause-value
returns-then-bits-ne0-clause-value c = grind (arith, row_found)
