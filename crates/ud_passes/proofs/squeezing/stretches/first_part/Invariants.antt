-- No gap so far.
use Rattle.std.proofs.Common.{◌≡◌, drop, Bool}
use Rattle.ud_passes.specs.squeezing.SqueezedTexts.{parts, first_part}
use Rattle.ud_passes.specs.squeezing.Squeezing.{gaps_of}
use Rattle.ud_passes.proofs.squeezing.stretches.first_part.Given as goal

abbrev pub invariant-loop-place : goal.invariant-loop-place
invariant-loop-place l = record {
  parts : (below : Bool) → first_part (parts l.count (gaps_of (drop l.place-index l.stretch)) below) ≡ first_part (parts 0 (gaps_of l.stretch) below);
  count : l.count ≡ l.place-index;
}
