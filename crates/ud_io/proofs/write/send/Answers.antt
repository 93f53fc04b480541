use Rattle.std.proofs.Common.{sym, ◌∙◌}
use Rattle.ud_io.proofs.StreamLemmas.{sends_failed, sends_written}
use Rattle.ud_io.specs.Streams.{stream_of}
use Rattle.ud_io.proofs.write.send.Goals as goal

pub returns-then-failed : goal.returns-then-failed
returns-then-failed g c = sends_failed (stream_of g.W.Write.contents c.args.out.now) c.args.bytes.now (sym c.failed.ensures ∙ c.if-failed.true)

pub returns : goal.returns
returns g c = sends_written (sym c.failed.ensures ∙ c.if-failed.false) c.write_all.ensures.written
