use Rattle.ud_io.proofs.StreamLemmas.{stream_buffered}
use Rattle.std.proofs.Common.{rules, arith, append-nil}
use Rattle.ud_engine.proofs.NameListingLemmas.{name_put}
use Rattle.ud_engine.proofs.listing.append_names.Goals as goal

pub loop-name-init : goal.loop-name-init
loop-name-init g c = record {
  can = search rules;
  ends = search rules;
  put = grind (arith, append-nil, stream_buffered, c.into_iter-name-iterator.ensures.into_iter_gives);
}

pub loop-name-preserved : goal.loop-name-preserved
loop-name-preserved g c = grind (arith, name_put)
