-- The flags so far, and those of the later lines.
use Rattle.std.proofs.Common.{◌≡◌, ◌≤◌, ◌++◌, [], true, false, drop, slice_range}
use Rattle.ud_passes.specs.squeezing.SqueezedTexts.{bare_place, stay_flags}
use Rattle.ud_passes.specs.squeezing.Squeezing.{gaps_of}
use Rattle.ud_passes.proofs.squeezing.stretches.stay_flags.Given as goal

abbrev pub invariant-loop-at : goal.invariant-loop-at
invariant-loop-at l = record {
  flags : l.flags.items ++ stay_flags l.above (gaps_of (slice_range l.places l.start l.at)) (drop l.at l.places) ≡ stay_flags (bare_place false true) [] l.places;
  start : l.start ≤ l.at;
}
