use Rattle.std.proofs.Common.{length}
use Rattle.ud_replace.proofs.TakesLemmas.{TakesAllBut}
use Rattle.ud_replace.proofs.append.append_all.Given as goal

abbrev pub invariant-loop-rest : goal.invariant-loop-rest
invariant-loop-rest g l = TakesAllBut l.name (g.F.Directory.history l.initial.directory) l.bytes l.rest (g.F.Directory.history l.directory)

abbrev pub decreases-loop-rest : goal.decreases-loop-rest
decreases-loop-rest g l = length l.rest
