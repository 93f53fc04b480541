use Rattle.std.specs.Io.KnownBytes.{Keeps}
use Rattle.ud_tree.proofs.disk.naming.read_some_names.Given as goal

abbrev pub invariant-loop-try : goal.invariant-loop-try
invariant-loop-try g l =
    Keeps (g.S.Looks.looking.unread l.initial.names) (g.S.Looks.looking.unread l.names)
