-- The newlines of the blocks so far are counted, each lane at most once a block.
use Rattle.std.proofs.Common.{◌≡◌, ◌≤◌, ◌*◌, take}
use Rattle.std.specs.List.{count_by}
use lib.Lanes.{Each1, sum_l}
use Rattle.ud_text.specs.lines.Consuming.{is_newline}
use Rattle.ud_text.proofs.lines.newlines.newlines_in_blocks.Given as goal

abbrev pub invariant-loop-block : goal.invariant-loop-block
invariant-loop-block l = record {
  counted : sum_l l.counts ≡ count_by is_newline (take (l.block * 64) l.bytes);
  low : Each1 (λ n. n ≤ l.block) l.counts;
}
