-- The literal is read up to `at`.
use Rattle.std.proofs.Common.{◌≤◌, ◌-◌, length, take, Bool}
use Rattle.ud_text.proofs.lemmas.bulk.LexemeLemmas.{LiteralFront}
use Rattle.ud_text.proofs.bulk.lexeme_lengths.literal_len.Given as goal

abbrev pub invariant-loop-at : goal.invariant-loop-at
invariant-loop-at l = record { low : 1 ≤ l.at; within : l.at ≤ length l.rest; read : (white : Bool) → LiteralFront white l.quote (take l.at l.rest) }

abbrev pub decreases-loop-at : goal.decreases-loop-at
decreases-loop-at l = length l.rest - l.at
