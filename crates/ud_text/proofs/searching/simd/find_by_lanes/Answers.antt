-- The first of the bytes is among these lanes, or after them.
use Rattle.std.proofs.Common.{refl, arith}
use Rattle.ud_text.specs.searching.Searches.{is_one_of}
use Rattle.ud_text.proofs.lemmas.searching.SimdLemmas.{first_here, first_later, first_at_last}
use Rattle.ud_text.proofs.searching.simd.find_by_lanes.Goals as goal

pub returns-then-count : goal.returns-then-count
returns-then-count g c =
    first_here (is_one_of c.args.set) g.row.N c.args.bytes.now c.loop-at.at c.find_in_lanes-count.result c.find_in_lanes-count.ensures.value
    c.loop-at.invariant
    (omega (arith, c.find_in_lanes-count.ensures.bound, c.if-count.true))

pub loop-at-preserved : goal.loop-at-preserved
loop-at-preserved g c = grind (arith, first_later)

pub returns : goal.returns
returns g c =
    first_at_last (is_one_of c.args.set) g.row.N c.args.bytes.now _ c.find_in_lanes.result c.find_in_lanes.ensures.value c.requires.fits refl
    (omega (arith, c.loop-at.invariant, c.loop-at-test.false))
