-- A blank line, or another one.
use Rattle.std.proofs.Common.{◌++◌, List, Bool, sym, ◌∙◌, ap, false, arith}
use Rattle.ud_passes.specs.declared.squeezing.places.Place.{Place}
use Rattle.ud_passes.specs.squeezing.SqueezedTexts.{bare_place}
use Rattle.ud_passes.proofs.SqueezeLemmas.{blank_next, other_next}
use Rattle.ud_passes.proofs.squeezing.stretches.stay_flags.Goals as goal

abbrev no_place : Place
no_place = bare_place false false

pub loop-at-preserved-then-place : goal.loop-at-preserved-then-place
loop-at-preserved-then-place c = let i = c.loop-at.invariant in record {
  flags = ap (λ (x : List Bool). c.loop-at.flags.items ++ x) (sym (blank_next c.args.places.now c.loop-at.start c.loop-at.at no_place i.start c.loop-at-test.true c.loop-at.above c.if-place.true)) ∙ i.flags;
  start = omega (arith, i.start);
}

pub loop-at-preserved : goal.loop-at-preserved
loop-at-preserved c = let i = c.loop-at.invariant in record {
  flags = other_next c.args.places.now c.loop-at.start c.loop-at.at no_place i.start c.loop-at-test.true c.loop-at.above c.loop-at.flags.items c.push_stretch.new.flags.items c.if-place.false c.in_ok-push_stretch.ensures ∙ i.flags;
  start = omega arith;
}
