-- The leading word continues in `rest`.
use Rattle.std.proofs.Common.{◌≡◌, ◌+◌, length}
use Rattle.ud_model.specs.text.Bytes.{leading_word}
use Rattle.ud_model.proofs.bytes.word_len.Given as goal

abbrev pub invariant-fours : goal.invariant-fours
invariant-fours l = (length (leading_word l.bytes) ≡ l.at + length (leading_word l.rest)) × (l.at + length l.rest ≡ length l.bytes)

abbrev pub decreases-fours : goal.decreases-fours
decreases-fours l = length l.rest
