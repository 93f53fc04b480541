-- The lowest bit is that of the first lane that is one of the bytes.
use Rattle.std.proofs.Common.{◌≡◌, length, take, drop, get_or}
use Rattle.std.proofs.lemmas.Simd.{length-chunk}
use Rattle.ud_text.specs.searching.Searches.{is_one_of}
use Rattle.ud_text.proofs.lemmas.searching.SimdLemmas.{lanes_equal, lanes_or, lowest_lane, among_bound}
use Rattle.ud_text.proofs.searching.simd.find_in_lanes.Goals as goal

pub returns-clause-value : goal.returns-clause-value
returns-clause-value g c = let v = take g.row.N (drop c.args.at c.args.bytes.now) in
    let long : length v ≡ g.row.N = length-chunk c.args.at g.row.N c.args.bytes.now c.requires.fits in
    lowest_lane (is_one_of c.args.set) v g.row.N _ _ long c.requires.few
    (lanes_or v _ _ (lanes_or v _ _ (lanes_or v _ _ (lanes_or v _ _
    (lanes_equal v g.row.N (get_or c.args.set 0 0) long) (lanes_equal v g.row.N (get_or c.args.set 1 0) long))
    (lanes_equal v g.row.N (get_or c.args.set 2 0) long)) (lanes_equal v g.row.N (get_or c.args.set 3 0) long))
    (lanes_equal v g.row.N (get_or c.args.set 4 0) long)) c.lowest_set_bit.ensures

pub returns-clause-bound : goal.returns-clause-bound
returns-clause-bound g c = among_bound (is_one_of c.args.set) g.row.N c.args.bytes.now c.args.at c.lowest_set_bit.result (returns-clause-value g c)
