-- By the pairs.
use Rattle.std.proofs.Common.{arith, ◌+◌, ◌-◌}
use Rattle.ud_text.proofs.lemmas.bulk.ReachLemmas.{none_on, none_between}
use Rattle.ud_text.proofs.bulk.fast_path.find_star_pair.Goals as goal

pub loop-end-init : goal.loop-end-init
loop-end-init c = record {
  block = c.next_significant-end.ensures.block;
  later = omega (arith, c.next_significant-end.ensures.value);
  within = c.next_significant-end.ensures.bound;
  none = none_on c.args.lines.now c.args.at c.args.at c.next_significant-end.result.0 c.next_significant-end.ensures.value (λ k low high. absurd (omega (arith, low, high)));
}

pub loop-end-preserved : goal.loop-end-preserved
loop-end-preserved c = record {
  block = c.next_significant-further.ensures.block;
  later = omega (arith, c.next_significant-further.ensures.value, c.loop-end.invariant.later);
  within = c.next_significant-further.ensures.bound;
  none = none_on c.args.lines.now c.args.at (c.loop-end.end + 1) c.next_significant-further.result.0 c.next_significant-further.ensures.value
      (grind arith);
}

pub returns-then-is_star_pair-clause-none : goal.returns-then-is_star_pair-clause-none
returns-then-is_star_pair-clause-none c =
    none_between c.args.lines.now c.args.at (c.loop-end.end - 1) (λ k low high. c.loop-end.invariant.none k low (omega (arith, high)))

pub returns-clause-none : goal.returns-clause-none
returns-clause-none c = none_between c.args.lines.now c.args.at c.loop-end.end c.loop-end.invariant.none
