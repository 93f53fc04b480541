use Rattle.std.proofs.Common.{refl, sym}
use Rattle.unifdef_c.specs.Streams.{by_end, after_failure}
use Rattle.unifdef_c.proofs.stream.Stream.finish.Goals as goal

pub returns-then-failed : goal.returns-then-failed
returns-then-failed c = after_failure (sym c.if-failed.ensures) refl

pub returns : goal.returns
returns c = by_end c.finish_in_place-ended.result (sym c.if-failed.ensures) (record {
  finishes = c.finish_in_place-ended.ensures.finishes;
  writer = c.finish_in_place-ended.ensures.writer;
  fused = c.finish_in_place-ended.ensures.fused;
  rest = refl;
})
