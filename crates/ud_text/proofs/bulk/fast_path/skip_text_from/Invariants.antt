-- The bytes up to `p.at` are read.
use Rattle.std.proofs.Common.{◌-◌, length}
use Rattle.ud_text.specs.bulk.Reaching.{InReach, Reached}
use Rattle.ud_text.specs.bulk.Blocks.{IsBlock}
use Rattle.ud_text.specs.bulk.BulkStates.{BulkState}
use Rattle.ud_text.proofs.bulk.fast_path.skip_text_from.Given as goal

abbrev pub invariant-loop-p : goal.invariant-loop-p
invariant-loop-p l = record {
  block : IsBlock l.block l.lines;
  order : InReach l.p l.lines;
  read : (start : BulkState) → Reached start l.lines l.fn.begun → Reached start l.lines l.p;
}

abbrev pub decreases-loop-p : goal.decreases-loop-p
decreases-loop-p l = length l.lines - l.p.at
