-- One line after another.
use Rattle.std.proofs.Common.{ℕ, List, ◌++◌, codes, ap, ◌∙◌, arith}
use Rattle.ud_io.specs.Streams.{stream_of}
use Rattle.ud_io.proofs.StreamLemmas.{sends_none, sends_part, sends_parts, sends_same}
use Rattle.ud_tree.specs.Others.{other_line}
use Rattle.ud_tree.proofs.other_files.write_others.Goals as goal

pub loop-found-init : goal.loop-found-init
loop-found-init g c = sends_none (stream_of g.W.Write.contents c.args.out.now)

pub loop-found-preserved : goal.loop-found-preserved
loop-found-preserved g c =
    let is = ap (λ (p : List ℕ). p ++ codes ": is not processed, and names a symbol\n") c.as_bytes.ensures.value ∙ ap other_line c.found-item.is in
    sends_part other_line c.args.others.now c.loop-found.found-index c.found-item.result c.loop-found-test.true c.loop-found.invariant (sends_same is c.send_parts.ensures)

pub returns : goal.returns
returns g c = sends_parts other_line c.args.others.now c.loop-found.found-index (omega arith) c.loop-found.invariant
