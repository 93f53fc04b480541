-- The lines so far, and the later ones that stay.
use Rattle.std.proofs.Common.{◌≡◌, ◌++◌, length}
use Rattle.std.specs.List.{concat}
use Rattle.ud_model.specs.text.Lines.{texts_of}
use Rattle.ud_passes.specs.squeezing.SqueezedTexts.{kept_lines}
use Rattle.ud_passes.proofs.squeezing.texts.kept_lines.Given as goal

abbrev pub invariant-loop-rest : goal.invariant-loop-rest
invariant-loop-rest l = l.out.items ++ concat (kept_lines l.left (texts_of l.rest)) ≡ concat (kept_lines l.flags (texts_of l.output))

abbrev pub decreases-loop-rest : goal.decreases-loop-rest
decreases-loop-rest l = length l.rest
