use Rattle.std.proofs.Common.{false, take}
use Rattle.std.specs.List.{flat_map}
use Rattle.ud_io.specs.Streams.{stream_of}
use Rattle.ud_tree.specs.Visible.{Shows}
use Rattle.ud_tree.proofs.send.send_visible_parts.Given as goal

abbrev pub invariant-loop-part : goal.invariant-loop-part
invariant-loop-part g l = Shows false (flat_map (λ p. p.now) (take l.part-index l.parts)) l.waits (stream_of g.W.Write.contents l.initial.out) (stream_of g.W.Write.contents l.out)
