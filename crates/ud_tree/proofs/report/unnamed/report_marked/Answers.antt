-- By whether the next name is marked.
use Rattle.std.proofs.Common.{◌∙◌, sym, ap, subst, map, take, ◌+◌}
use Rattle.std.specs.List.{flat_map}
use Rattle.std.specs.Prelude.{filter}
use Rattle.ud_io.specs.Streams.{Sends, stream_of}
use Rattle.ud_cond.specs.symbols.Marks.{is_marked}
use Rattle.ud_tree.specs.Summaries.{unnamed_line}
use Rattle.ud_tree.proofs.SummaryLemmas.{unnamed_passed, unnamed_sent}
use Rattle.ud_tree.proofs.report.unnamed.report_marked.Goals as goal
use Rattle.ud_tree.proofs.report.unnamed.report_marked.Goals.{then-is_marked, else-is_marked}

pub loop-name-preserved : goal.loop-name-preserved
loop-name-preserved g c =
    let i = c.loop-name.name-index in let p = is_marked c.args.symbols.now c.args.marks.now in
    let lines = flat_map unnamed_line (filter p (map (λ n. n.items) (take (i + 1) c.args.names.now))) in
    elim c.if-is_marked.branch [
      | then-is_marked w ↦ subst (λ e. Sends (stream_of g.E.Write.contents c.args.err.now) (stream_of g.E.Write.contents e) lines) (sym w.err-is)
          (unnamed_sent (λ n. n.items) p c.args.names.now i c.name-item.result w.as_slice-then-is_marked.result.now c.loop-name-test.true c.name-item.is w.as_slice-then-is_marked.ensures.value
          (ap p (w.as_slice-then-is_marked.ensures.value ∙ sym c.as_slice.ensures.value) ∙ sym c.is_marked.ensures ∙ w.if-is_marked.true) c.loop-name.invariant w.report_line.ensures)
      | else-is_marked w ↦ subst (λ e. Sends (stream_of g.E.Write.contents c.args.err.now) (stream_of g.E.Write.contents e) lines) (sym w.err-is)
          (unnamed_passed (λ n. n.items) p c.args.names.now i c.name-item.result c.loop-name-test.true c.name-item.is
          (ap p (sym c.as_slice.ensures.value) ∙ sym c.is_marked.ensures ∙ w.if-is_marked.false) c.loop-name.invariant)
    ]
