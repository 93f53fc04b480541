use Rattle.std.proofs.Common.{◌≡◌, [], false, length}
use Rattle.ud_io.specs.Buffering.{AppendsAllBut}
use Rattle.ud_io.proofs.write.write_all.Given as goal

abbrev pub invariant-loop-rest : goal.invariant-loop-rest
invariant-loop-rest g l = record {
  not_failed : l.out.failed ≡ false;
  sent : AppendsAllBut (g.W.Write.contents l.initial.out.inner) (g.W.Write.contents l.out.inner) l.bytes l.rest;
  empty : l.bytes ≡ [] → l.out ≡ l.initial.out;
}

abbrev pub decreases-loop-rest : goal.decreases-loop-rest
decreases-loop-rest g l = length l.rest
