-- The lines of the files so far were sent.
use Rattle.std.proofs.Common.{take}
use Rattle.std.specs.List.{flat_map}
use Rattle.ud_io.specs.Streams.{Sends, stream_of}
use Rattle.ud_tree.specs.Others.{other_line}
use Rattle.ud_tree.proofs.other_files.write_others.Given as goal

abbrev pub invariant-loop-found : goal.invariant-loop-found
invariant-loop-found g l = Sends (stream_of g.W.Write.contents l.initial.out) (stream_of g.W.Write.contents l.out) (flat_map other_line (take l.found-index l.others))
