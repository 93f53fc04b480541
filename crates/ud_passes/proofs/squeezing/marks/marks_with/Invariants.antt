-- The marks so far, and those of the later lines.
use Rattle.std.proofs.Common.{◌≡◌, ◌++◌, drop}
use Rattle.ud_passes.specs.squeezing.SqueezedTexts.{marks_with}
use Rattle.ud_passes.proofs.squeezing.marks.marks_with.Given as goal

abbrev pub invariant-loop-mark : goal.invariant-loop-mark
invariant-loop-mark l = l.with.items ++ marks_with (drop l.mark-index l.marks) l.rest ≡ marks_with l.marks l.flags
