use Rattle.std.proofs.Common.{take}
use Rattle.ud_io.specs.Streams.{stream_of}
use Rattle.ud_tree.specs.Visible.{Shows}
use Rattle.ud_tree.proofs.send.send_part.Given as goal

abbrev pub invariant-loop-byte : goal.invariant-loop-byte
invariant-loop-byte g l = Shows l.held (take l.byte-index l.bytes) l.waits (stream_of g.W.Write.contents l.initial.out) (stream_of g.W.Write.contents l.out)
