use Rattle.ud_io.specs.Streams.{stream_of}
use Rattle.ud_engine.proofs.NameListingLemmas.{NamesPut}
use Rattle.ud_engine.proofs.listing.append_names.Given as goal

abbrev pub invariant-loop-name : goal.invariant-loop-name
invariant-loop-name g l = record {
  can : (goal.iterator-loop-name g).can_next l.name-iterator;
  ends : (goal.iterator-loop-name g).is_finite l.name-iterator;
  put : NamesPut (stream_of g.W.Write.contents l.initial.out) (stream_of g.W.Write.contents l.out) l.prefix l.fn.names l.name-iterator l.initial.output l.output;
}
