use Rattle.std.specs.Io.KnownBytes.{Keeps}
use Rattle.ud_tree.proofs.disk.reading.read_retrying.Given as goal

abbrev pub invariant-loop-try : goal.invariant-loop-try
invariant-loop-try g l =
    Keeps (g.F.Read.remaining l.initial.file) (g.F.Read.remaining l.file)
