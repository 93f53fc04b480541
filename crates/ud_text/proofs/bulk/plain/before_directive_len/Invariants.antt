-- None of the bytes before `at` begins a directive.
use Rattle.std.proofs.Common.{◌≤◌, ◌-◌, length, take, true}
use Rattle.ud_text.specs.bulk.PlainText.{NoneBeginsDirective}
use Rattle.ud_text.proofs.bulk.plain.before_directive_len.Given as goal

abbrev pub invariant-loop-at : goal.invariant-loop-at
invariant-loop-at l = record {
  within : l.at ≤ length l.lines;
  text : NoneBeginsDirective true (take l.at l.lines);
}

abbrev pub decreases-loop-at : goal.decreases-loop-at
decreases-loop-at l = length l.initial.lines - l.at
