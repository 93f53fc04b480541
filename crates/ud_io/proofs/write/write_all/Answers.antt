use Rattle.std.proofs.Common.{rules, subst, sym}
use Rattle.ud_io.specs.Buffering.{AppendsAllBut}
use Rattle.ud_io.proofs.BufferingLemmas.{appends_all_but_bytes, appends_all_but_empty, range_from, empty_len}
use Rattle.ud_io.proofs.write.write_all.Goals as goal

pub loop-rest-preserved : goal.loop-rest-preserved
loop-rest-preserved g c = record {
  not_failed = search rules;
  sent = subst (λ r. AppendsAllBut (g.W.Write.contents c.args.out.now.inner) (g.W.Write.contents c.write.new.self.inner) c.args.bytes.now r)
      (sym (range_from c.loop-rest.rest.now c.in-Some.count))
      (appends_all_but_bytes (g.W.Write.contents c.args.out.now.inner) (g.W.Write.contents c.loop-rest.out.inner) (g.W.Write.contents c.write.new.self.inner)
      c.args.bytes.now c.loop-rest.rest.now c.in-Some.count c.loop-rest.invariant.sent c.in-Some.ensures.once.1);
  empty = λ e. absurd (empty_len c.loop-rest.rest.now
      (appends_all_but_empty (g.W.Write.contents c.args.out.now.inner) (g.W.Write.contents c.loop-rest.out.inner) c.args.bytes.now c.loop-rest.rest.now c.loop-rest.invariant.sent e)
      c.loop-rest-test.ensures);
}
