-- A line more.
use Rattle.std.proofs.Common.{◌≡◌, false, get_or, if◌then◌else◌, ◌∙◌, arith}
use Rattle.ud_passes.specs.declared.squeezing.places.Place.{Place}
use Rattle.ud_passes.specs.squeezing.SqueezedTexts.{bare_place}
use Rattle.ud_passes.proofs.SqueezeLemmas.{last_more}
use Rattle.ud_passes.proofs.squeezing.stretches.last_part.Goals.{then-place, else-place}
use Rattle.ud_passes.proofs.squeezing.stretches.last_part.Goals as goal

pub loop-place-preserved : goal.loop-place-preserved
loop-place-preserved c = let i = c.loop-place.invariant in
    let none : Place = bare_place false false in
    let count : c.if-place.count ≡ (if (get_or c.args.stretch.now c.loop-place.place-index none).gap then 0 else c.loop-place.count) =
    elim c.if-place.branch [ then-place w ↦ grind (arith, w.if-place, w.count-is) | else-place w ↦ grind (arith, w.if-place, w.count-is) ] in
    record {
      parts = last_more c.args.stretch.now c.loop-place.place-index c.loop-place.count _ none c.args.below c.loop-place-test.true count ∙ i.parts;
      few = grind (arith, count, i.few);
    }
