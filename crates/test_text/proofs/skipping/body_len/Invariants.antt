-- The bytes before the position have no newline.
use Rattle.std.proofs.Common.{◌≤◌, ◌-◌, length, take}
use Rattle.ud_model.specs.text.Lines.{NoNewline}
use Rattle.test_text.proofs.skipping.body_len.Given as goal

abbrev pub invariant-loop-at : goal.invariant-loop-at
invariant-loop-at l = record { within : l.at ≤ length l.bytes; one_line : NoNewline (take l.at l.bytes) }

abbrev pub decreases-loop-at : goal.decreases-loop-at
decreases-loop-at l = length l.bytes - l.at
