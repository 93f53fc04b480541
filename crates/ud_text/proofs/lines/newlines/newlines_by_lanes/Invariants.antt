-- The newlines before `at` are counted.
use Rattle.std.proofs.Common.{◌≡◌, ◌≤◌, ◌-◌, length, take}
use Rattle.std.specs.List.{count_by}
use Rattle.ud_text.specs.lines.Consuming.{is_newline}
use Rattle.ud_text.proofs.lines.newlines.newlines_by_lanes.Given as goal

abbrev pub invariant-loop-at : goal.invariant-loop-at
invariant-loop-at l = record {
  within : l.at ≤ length l.bytes;
  counted : l.newlines ≡ count_by is_newline (take l.at l.bytes);
  low : l.newlines ≤ l.at;
}

abbrev pub decreases-loop-at : goal.decreases-loop-at
decreases-loop-at l = length l.initial.bytes - l.at
