-- None of the bytes from `begin` up to `at` is significant.
use Rattle.std.proofs.Common.{◌≡◌, ◌≤◌, ◌+◌, ◌-◌, length, drop}
use Rattle.std.specs.List.{position_or_len}
use Rattle.ud_text.specs.bulk.BulkLexemes.{is_significant}
use Rattle.ud_text.proofs.bulk.blocks.significant_from.Given as goal

abbrev pub invariant-loop-at : goal.invariant-loop-at
invariant-loop-at l = record {
  within : l.at ≤ length l.bytes;
  same : l.begin + position_or_len is_significant (drop l.begin l.bytes) ≡ l.at + position_or_len is_significant (drop l.at l.bytes);
}

abbrev pub decreases-loop-at : goal.decreases-loop-at
decreases-loop-at l = length l.initial.bytes - l.at
