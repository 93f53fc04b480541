-- The line is read up to `at`, where no block comment begins.
use Rattle.std.proofs.Common.{◌≡◌, ◌≤◌, ◌-◌, length, Bool, false}
use Rattle.ud_text.proofs.lemmas.bulk.QuotedLemmas.{QuotedTo, opens_at}
use Rattle.ud_text.proofs.bulk.lexeme_lengths.quoted_line_len.Given as goal

abbrev pub invariant-loop-at : goal.invariant-loop-at
invariant-loop-at l = record {
  low : 1 ≤ l.at;
  within : l.at ≤ length l.rest;
  begun : l.begun ≤ l.at;
  few : l.slashes ≤ 2;
  opens : opens_at l.rest l.at ≡ false;
  read : (white : Bool) → QuotedTo white l.begun l.rest l.at;
}

abbrev pub decreases-loop-at : goal.decreases-loop-at
decreases-loop-at l = length l.rest - l.at
