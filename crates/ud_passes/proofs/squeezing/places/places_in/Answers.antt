-- From the first line to the last.
use Rattle.std.proofs.Common.{sym, ◌∙◌, subst, List}
use Rattle.ud_model.specs.declared.kind.Mode.TheVariants.{C}
use Rattle.ud_text.proofs.lemmas.scan.PassLemmas.{nothing_left}
use Rattle.ud_passes.specs.declared.squeezing.places.Place.{Place}
use Rattle.ud_passes.specs.squeezing.Squeezing.{Placed}
use Rattle.ud_passes.proofs.SqueezeLemmas.{none_placed, all_placed}
use Rattle.ud_passes.proofs.squeezing.places.places_in.Goals as goal

pub lines-init : goal.lines-init
lines-init c = subst (λ (out : List Place). Placed c.args.text.now c.args.marks.now c.new-walk.result c.args.marks.now out) (sym c.new-places.ensures.items)
    (none_placed c.args.text.now c.args.marks.now c.new-walk.result (c.new-walk.ensures.walked C))

pub returns : goal.returns
returns c = all_placed c.args.text.now c.args.marks.now c.lines.walk c.lines.left.now c.lines.places.items c.lines.invariant
    (nothing_left c.lines.walk.rest.now (sym c.is_at_end.ensures ∙ c.lines-test.false)) _ c.is_gap.ensures _ c.bare_place.ensures _ c.in_ok-push.ensures.items
