-- No star pair comes before `end`, a significant byte, or the end of the bytes.
use Rattle.std.proofs.Common.{◌≡◌, ◌≤◌, ◌<◌, ◌+◌, ◌-◌, ℕ, length, get_or, false}
use Rattle.ud_text.specs.bulk.BulkLexemes.{is_star_pair}
use Rattle.ud_text.specs.bulk.Blocks.{IsBlock}
use Rattle.ud_text.proofs.bulk.fast_path.find_star_pair.Given as goal

abbrev pub invariant-loop-end : goal.invariant-loop-end
invariant-loop-end l = record {
  block : IsBlock l.block l.lines;
  later : l.at ≤ l.end;
  within : l.end ≤ length l.lines;
  none : (k : ℕ) → l.at ≤ k → k + 1 < l.end → is_star_pair (get_or l.lines k 0) (get_or l.lines (k + 1) 0) ≡ false;
}

abbrev pub decreases-loop-end : goal.decreases-loop-end
decreases-loop-end l = length l.lines - l.end
