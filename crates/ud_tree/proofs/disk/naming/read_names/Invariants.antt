use Rattle.std.proofs.Common.{◌≤◌, length}
use Rattle.std.specs.Io.KnownBytes.{Consumes}
use Rattle.ud_tree.proofs.disk.naming.read_names.Given as goal

abbrev pub invariant-loop-block : goal.invariant-loop-block
invariant-loop-block g l = record {
  consumed : Consumes (g.S.Looks.looking.unread l.initial.names) (g.S.Looks.looking.unread l.names) l.packed.items;
  many : l._block ≤ length l.packed.items;
}
