use Rattle.std.proofs.Common.{◌≤◌, length}
use Rattle.ud_tree.specs.Sampling.{ReadsOn}
use Rattle.ud_tree.proofs.disk.sampling.read_most.Given as goal

abbrev pub invariant-loop-block : goal.invariant-loop-block
invariant-loop-block g l = record {
  reads : ReadsOn (g.F.Read.remaining l.initial.file) (g.F.Read.remaining l.file) l.initial.text.items l.text.items;
  within : length l.text.items ≤ l.maximum;
  many : l._block ≤ length l.text.items;
}
