use Rattle.ud_passes.specs.diff.Scripts.{Extends}
use Rattle.ud_passes.proofs.diff.script.Script.add_pending.Given as goal

abbrev pub invariant-loop : goal.invariant-loop
invariant-loop l = Extends l.initial.self l.self
