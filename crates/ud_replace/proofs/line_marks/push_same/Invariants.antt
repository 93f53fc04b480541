-- The marks so far.
use Rattle.std.proofs.Common.{◌≡◌, ◌++◌, replicate}
use Rattle.ud_passes.specs.declared.diff.script.TheConstants.{SAME}
use Rattle.ud_replace.proofs.line_marks.push_same.Given as goal

abbrev pub invariant-loop-line : goal.invariant-loop-line
invariant-loop-line l = l.marks.items ≡ l.fn.marks.items ++ replicate l._line SAME
