use Rattle.std.proofs.Common.{◌≡◌, ◌++◌, length}
use Rattle.ud_model.specs.text.Lines.{texts_of}
use Rattle.ud_replace.specs.Marks.{read_marks}
use Rattle.ud_replace.proofs.line_marks.marks_in.Given as goal

-- the marks so far, and those of the later lines
abbrev pub invariant-loop-rest : goal.invariant-loop-rest
invariant-loop-rest l = l.marks.items ++ read_marks (texts_of l.rest) (texts_of l.printed) ≡
    read_marks (texts_of l.text) (texts_of l.marked)

abbrev pub decreases-loop-rest : goal.decreases-loop-rest
decreases-loop-rest l = length l.printed
