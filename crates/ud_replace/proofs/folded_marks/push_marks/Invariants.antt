use Rattle.std.proofs.Common.{◌≡◌, ◌-◌, ◌++◌}
use Rattle.ud_replace.specs.FoldedMarks.{first_stay}
use Rattle.ud_replace.proofs.folded_marks.push_marks.Given as goal

abbrev pub invariant-loop-line : goal.invariant-loop-line
invariant-loop-line l = (l.marks.items ≡ l.initial.marks.items ++ first_stay l._line l.stay) × (l.left ≡ l.stay - l._line)
