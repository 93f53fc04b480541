use Rattle.ud_passes.specs.diff.Scripts.{Extends}
use Rattle.ud_passes.proofs.diff.script.script_of.Given as goal

abbrev pub invariant-loop-mark : goal.invariant-loop-mark
invariant-loop-mark l = Extends l.initial.script l.script
