-- The bytes from `at` on are white.
use Rattle.std.proofs.Common.{◌≡◌, ◌≤◌, length, drop, true}
use Rattle.ud_model.specs.text.Bytes.{are_white}
use Rattle.ud_text.proofs.bulk.hash_sign.trailing_white_start.Given as goal

abbrev pub invariant-loop-at : goal.invariant-loop-at
invariant-loop-at l = record { within : l.at ≤ length l.bytes; white : are_white (drop l.at l.bytes) ≡ true }

abbrev pub decreases-loop-at : goal.decreases-loop-at
decreases-loop-at l = l.at
