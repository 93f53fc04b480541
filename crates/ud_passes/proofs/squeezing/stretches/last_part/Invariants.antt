-- The last part has the lines after the last gap so far, or ends later.
use Rattle.std.proofs.Common.{◌≡◌, ◌≤◌, drop}
use Rattle.ud_passes.specs.squeezing.SqueezedTexts.{parts, last_part}
use Rattle.ud_passes.specs.squeezing.Squeezing.{gaps_of}
use Rattle.ud_passes.proofs.squeezing.stretches.last_part.Given as goal

abbrev pub invariant-loop-place : goal.invariant-loop-place
invariant-loop-place l = record {
  parts : last_part (parts l.count (gaps_of (drop l.place-index l.stretch)) l.below) ≡ last_part (parts 0 (gaps_of l.stretch) l.below);
  few : l.count ≤ l.place-index;
}
