-- The newlines of the blocks so far, and of the next one: by the lanes that the comparison selects.
use Rattle.std.proofs.Common.{◌≡◌, ◌+◌, ◌*◌, ◌≤◌, List, ℕ, length, take, drop, sym, ◌∙◌, ap, subst, w8, w16, arith, ◌<◌, ◌^◌}
use Rattle.std.specs.List.{count_by}
use Rattle.std.proofs.lemmas.List.Sums.{count_by-le-length}
use Rattle.std.proofs.lemmas.Simd.{Each1-weaker, length-chunk, sum-zip2, sum_fits, fold-sum}
use Rattle.std.proofs.Math.ListN.{length-take}
use lib.Lanes.{Each1, Each2, zip2, sum_l, Steps}
use mir.Val.{Fits}
use Rattle.ud_text.specs.lines.Consuming.{is_newline}
use Rattle.ud_text.proofs.lemmas.lines.ConsumeLemmas.{counted_more}
use Rattle.ud_text.proofs.lemmas.lines.CountLemmas.{ones_of, ones_sum, ones_length, selected, grown_low, grown_fits, map_itself}
use Rattle.ud_text.proofs.lines.newlines.newlines_in_blocks.Goals as goal

pub overflow_add-counts : goal.overflow_add-counts
overflow_add-counts c = let at = c.loop-block.block * 64 in
    let v = take 64 (drop at c.args.bytes.now) in
    let long : length v ≡ 64 = length-chunk at 64 c.args.bytes.now (omega arith) in
    subst (λ (ys : List ℕ). Each2 (λ a b. Fits w8 (a + b)) c.loop-block.counts ys) (sym (selected v 64 long)) (grown_fits c.loop-block.block c.loop-block.counts v (omega arith) c.loop-block.invariant.low)

pub loop-block-preserved : goal.loop-block-preserved
loop-block-preserved c = let at = c.loop-block.block * 64 in
    let v = take 64 (drop at c.args.bytes.now) in
    let long : length v ≡ 64 = length-chunk at 64 c.args.bytes.now (omega arith) in
    let same : length c.loop-block.counts ≡ length (ones_of v) = omega (arith, ones_length v, long) in
    let next : at + 64 ≡ (c.loop-block.block + 1) * 64 = omega arith in
    record {
      counted = ap (λ (ys : List ℕ). sum_l (zip2 (λ a b. a + b) c.loop-block.counts ys)) (selected v 64 long) ∙ sum-zip2 c.loop-block.counts (ones_of v) same
          ∙ counted_more c.args.bytes.now at 64 (sum_l c.loop-block.counts) (sum_l (ones_of v)) c.loop-block.invariant.counted (ones_sum v)
          ∙ ap (λ (n : ℕ). count_by is_newline (take n c.args.bytes.now)) next;
      low = subst (λ (ys : List ℕ). Each1 (λ n. n ≤ c.loop-block.block + 1) (zip2 (λ a b. a + b) c.loop-block.counts ys)) (sym (selected v 64 long)) (grown_low c.loop-block.block c.loop-block.counts v c.loop-block.invariant.low);
    }

pub overflow_cast-result : goal.overflow_cast-result
overflow_cast-result c = let few : c.loop-block.block ≤ 255 = omega arith in
    Each1-weaker (λ n. n ≤ c.loop-block.block) (Fits w16) (λ n h. record { fits = omega arith }) c.loop-block.counts c.loop-block.invariant.low

pub overflow_add-result : goal.overflow_add-result
overflow_add-result c = let few : c.loop-block.block ≤ 255 = omega arith in
    let bytes = take (c.loop-block.block * 64) c.args.bytes.now in
    let sum : 0 + sum_l c.loop-block.counts < 2 ^ 16 =
    omega (arith, c.loop-block.invariant.counted, count_by-le-length is_newline bytes, length-take (c.loop-block.block * 64) c.args.bytes.now) in
    subst (λ (xs : List ℕ). Steps (λ s x. Fits w16 (s + x)) (λ s x. s + x) 0 xs) (sym (map_itself c.loop-block.counts)) (sum_fits w16 0 c.loop-block.counts sum)

pub returns-clause-counted : goal.returns-clause-counted
returns-clause-counted c =
    grind (arith, map_itself c.loop-block.counts, fold-sum 0 c.loop-block.counts)
