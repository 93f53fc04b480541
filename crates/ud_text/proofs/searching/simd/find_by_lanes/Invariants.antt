-- None of the bytes is before `at`.
use Rattle.std.proofs.Common.{◌≤◌, ◌-◌, length}
use Rattle.std.specs.List.{position_or_len}
use Rattle.ud_text.specs.searching.Searches.{is_one_of}
use Rattle.ud_text.proofs.searching.simd.find_by_lanes.Given as goal

abbrev pub invariant-loop-at : goal.invariant-loop-at
invariant-loop-at g l = l.at ≤ position_or_len (is_one_of l.set) l.bytes

abbrev pub decreases-loop-at : goal.decreases-loop-at
decreases-loop-at g l = length l.initial.bytes - l.at
