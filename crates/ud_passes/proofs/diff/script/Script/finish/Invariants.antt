use Rattle.std.proofs.Common.{◌≡◌, [], length}
use Rattle.ud_passes.specs.diff.Scripts.{Extends}
use Rattle.ud_passes.proofs.diff.script.Script.finish.Given as goal

abbrev pub invariant-loop-self : goal.invariant-loop-self
invariant-loop-self l = Extends l.initial.self l.self

abbrev pub decreases-loop-self : goal.decreases-loop-self
decreases-loop-self l = length l.self.old_rest.now

abbrev pub invariant-loop-self-2 : goal.invariant-loop-self-2
invariant-loop-self-2 l = Extends l.initial.self l.self × (l.self.old_rest.now ≡ [])

abbrev pub decreases-loop-self-2 : goal.decreases-loop-self-2
decreases-loop-self-2 l = length l.self.new_rest.now
