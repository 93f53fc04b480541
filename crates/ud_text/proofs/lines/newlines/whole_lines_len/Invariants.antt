-- The bytes before `at` are whole lines that fit.
use Rattle.std.proofs.Common.{◌≤◌, ◌-◌, length, take}
use Rattle.ud_model.specs.text.Lines.{whole_lines}
use Rattle.ud_text.specs.bulk.BulkScanning.{AreWholeLines}
use Rattle.ud_text.specs.lines.Consuming.{EachFits}
use Rattle.ud_text.proofs.lines.newlines.whole_lines_len.Given as goal

abbrev pub invariant-loop-at : goal.invariant-loop-at
invariant-loop-at l = record {
  within : l.at ≤ length l.chunk;
  ends : AreWholeLines (take l.at l.chunk);
  fits : EachFits (whole_lines (take l.at l.chunk));
}

abbrev pub decreases-loop-at : goal.decreases-loop-at
decreases-loop-at l = length l.initial.chunk - l.at
