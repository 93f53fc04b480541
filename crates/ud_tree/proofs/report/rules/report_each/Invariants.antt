use Rattle.std.proofs.Common.{map, take}
use Rattle.std.specs.List.{flat_map}
use Rattle.ud_io.specs.Streams.{Sends, stream_of}
use Rattle.ud_tree.specs.Unmatched.{rule_line}
use Rattle.ud_tree.proofs.report.rules.report_each.Given as goal

abbrev pub invariant-loop-rule : goal.invariant-loop-rule
invariant-loop-rule g l = Sends (stream_of g.E.Write.contents l.fn.err) (stream_of g.E.Write.contents l.err)
    (flat_map rule_line (map (λ r. r.items) (take l.rule-index l.rules)))
