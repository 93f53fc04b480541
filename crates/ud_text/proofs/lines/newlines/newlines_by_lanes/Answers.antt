-- The newlines before `at`, and those of the next lanes: as many as bits are set.
use Rattle.std.proofs.Common.{◌≡◌, ◌∙◌, ℕ, eqb, ap, length, take, drop, w8, arith}
use Rattle.std.specs.Int.RustNames.{count_ones}
use Rattle.std.proofs.lemmas.Simd.{length-chunk, bitmask_splat, ones-mask_l}
use Rattle.std.proofs.lemmas.List.Sums.{count_by-le-length}
use Rattle.ud_text.specs.lines.Consuming.{is_newline}
use Rattle.ud_text.proofs.lemmas.lines.ConsumeLemmas.{counted_more}
use Rattle.ud_text.proofs.lines.newlines.newlines_by_lanes.Goals as goal

pub loop-at-preserved : goal.loop-at-preserved
loop-at-preserved c = let v = take 16 (drop c.loop-at.at c.args.bytes.now) in
    let long : length v ≡ 16 = length-chunk c.loop-at.at 16 c.args.bytes.now (omega arith) in
    let set = ap (λ (m : ℕ). count_ones m) (bitmask_splat w8 eqb v 16 10 long (omega arith)) ∙ ones-mask_l is_newline v in
    record {
      within = omega arith;
      counted = counted_more c.args.bytes.now c.loop-at.at 16 c.loop-at.newlines _ c.loop-at.invariant.counted set;
      low = omega (arith, set, count_by-le-length is_newline v, long);
    }
