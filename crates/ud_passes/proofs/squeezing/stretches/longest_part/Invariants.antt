-- The longest part so far, and those of the later lines.
use Rattle.std.proofs.Common.{◌≡◌, ◌≤◌, max, drop}
use Rattle.ud_passes.specs.squeezing.SqueezedTexts.{parts, longest_part}
use Rattle.ud_passes.specs.squeezing.Squeezing.{gaps_of}
use Rattle.ud_passes.proofs.squeezing.stretches.longest_part.Given as goal

abbrev pub invariant-loop-place : goal.invariant-loop-place
invariant-loop-place l = record {
  parts : max l.longest (longest_part (parts l.count (gaps_of (drop l.place-index l.stretch)) l.below)) ≡ longest_part (parts 0 (gaps_of l.stretch) l.below);
  few : l.count ≤ l.place-index;
}
