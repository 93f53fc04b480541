use Rattle.std.proofs.Common.{◌≡◌, ◌++◌, drop}
use Rattle.ud_model.specs.text.Lines.{texts_of}
use Rattle.ud_replace.specs.FoldedMarks.{unfolded}
use Rattle.ud_replace.proofs.folded_marks.marks_by.Given as goal

-- the marks so far, and those of the later lines
abbrev pub invariant-loop-mark : goal.invariant-loop-mark
invariant-loop-mark l = l.marks.items ++ unfolded (drop l.mark-index l.folded_marks) (texts_of l.rest) (texts_of l.printed) ≡
    unfolded l.folded_marks (texts_of l.folded) (texts_of l.output)
