use Rattle.std.proofs.Common.{refl, sym, subst}
use Rattle.unifdef_c.specs.Streams.{FeedsStream}
use Rattle.unifdef_c.specs.Streams as streams
use Rattle.unifdef_c.proofs.StreamLemmas.{was_ended, not_ended}
use Rattle.unifdef_c.proofs.stream.Stream.feed.Goals as goal

pub returns-then-is_some : goal.returns-then-is_some
returns-then-is_some c = was_ended c.args.self.now c.args.chunk.now c.args.self.now.ended refl (sym c.if-is_some.ensures)

pub returns-then-failed : goal.returns-then-failed
returns-then-failed c = streams.FeedsStream.has_failed (not_ended c.args.self.now.ended (sym c.if-is_some.ensures)) (sym c.if-failed.ensures) refl

pub returns : goal.returns
returns c =
    subst (λ f. FeedsStream c.args.self.now (record c.args.self.now { engine = c.feed.new.self; output = c.feed.new.out }) c.args.chunk.now f) (sym c.fed_of.ensures)
    (streams.FeedsStream.by_engine c.feed.result (not_ended c.args.self.now.ended (sym c.if-is_some.ensures)) (sym c.if-failed.ensures) (record {
      feeds = c.feed.ensures.feeds;
      writer = c.feed.ensures.writer;
      records_fault = c.feed.ensures.records_fault;
      fused = c.feed.ensures.fused;
      rest = refl;
    }))
