use Rattle.std.proofs.Common.{map, take}
use Rattle.std.specs.List.{flat_map}
use Rattle.std.specs.Prelude.{filter}
use Rattle.ud_cond.specs.symbols.Marks.{is_marked}
use Rattle.ud_io.specs.Streams.{Sends, stream_of}
use Rattle.ud_tree.specs.Summaries.{unnamed_line}
use Rattle.ud_tree.proofs.report.unnamed.report_marked.Given as goal

abbrev pub invariant-loop-name : goal.invariant-loop-name
invariant-loop-name g l = Sends (stream_of g.E.Write.contents l.fn.err) (stream_of g.E.Write.contents l.err)
    (flat_map unnamed_line (filter (is_marked l.symbols l.marks) (map (λ n. n.items) (take l.name-index l.names))))
