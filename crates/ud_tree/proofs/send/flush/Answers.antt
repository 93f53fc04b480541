use Rattle.std.proofs.Common.{[], sym, ◌∙◌}
use Rattle.ud_io.specs.Streams.{stream_of}
use Rattle.ud_io.proofs.StreamLemmas.{sends_failed, sends_flushed}
use Rattle.ud_tree.proofs.send.flush.Goals as goal

pub returns-then-failed-clause-sent : goal.returns-then-failed-clause-sent
returns-then-failed-clause-sent g c = sends_failed (stream_of g.W.Write.contents c.args.out.now) [] (sym c.failed.ensures ∙ c.if-failed.true)

pub returns-clause-sent : goal.returns-clause-sent
returns-clause-sent g c = sends_flushed (sym c.failed.ensures ∙ c.if-failed.false) c.flush.ensures.unchanged
