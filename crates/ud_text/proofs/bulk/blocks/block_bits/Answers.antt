-- By the table.
use Rattle.std.proofs.Common.{◌≡◌, ◌∙◌, length, take, drop, ap, arith}
use Rattle.std.proofs.lemmas.Simd.{length-chunk}
use lib.Lanes.{mask_l}
use Rattle.ud_text.proofs.lemmas.searching.SimdLemmas.{lane_bits}
use Rattle.ud_text.proofs.lemmas.searching.ByteLemmas.{row_bytes}
use Rattle.ud_text.proofs.lemmas.bulk.NibbleTable.{low_ok, is_told, lanes_told, map_told}
use Rattle.ud_text.proofs.bulk.blocks.block_bits.Goals as goal

pub swizzle-expected : goal.swizzle-expected
swizzle-expected c = low_ok (take 64 (drop c.args.at c.args.bytes.now)) (length-chunk c.args.at 64 c.args.bytes.now c.requires)

pub returns : goal.returns
returns c = let v = take 64 (drop c.args.at c.args.bytes.now) in
    let long : length v ≡ 64 = length-chunk c.args.at 64 c.args.bytes.now c.requires in
    lane_bits is_told v 64 _ long (omega arith) (lanes_told v long)
    ∙ ap mask_l (map_told v (row_bytes c.args.bytes.now c.args.at 64 (λ i. let f = c.type_inv.bytes i in omega (arith, f))))
