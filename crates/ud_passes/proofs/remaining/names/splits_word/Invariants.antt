-- No backslash before `at` splits a word.
use Rattle.std.proofs.Common.{◌≡◌, ◌-◌, ◌≤◌, length, drop, false}
use Rattle.ud_passes.specs.remaining.ListedNames.{splits_word}
use Rattle.ud_passes.proofs.remaining.names.splits_word.Given as goal

abbrev pub invariant-loop-at : goal.invariant-loop-at
invariant-loop-at l = record {
  within : l.at ≤ length l.text;
  same : splits_word false l.text ≡ splits_word false (drop l.at l.text);
}

abbrev pub decreases-loop-at : goal.decreases-loop-at
decreases-loop-at l = length l.text - l.at
