use Rattle.ud_passes.proofs.ContextLemmas.{ChangesUpto}
use Rattle.ud_passes.proofs.diff.hunks.changes_len.Given as goal

abbrev pub invariant-loop-at : goal.invariant-loop-at
invariant-loop-at l = ChangesUpto l.lines l.at l.last
