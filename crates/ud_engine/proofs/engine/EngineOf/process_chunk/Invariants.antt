use Rattle.std.proofs.Common.{◌≡◌, ◌++◌, [], take}
use Rattle.ud_engine.specs.Advancing.{EngineAdvances, IsCursor, slice_between, measure}
use Rattle.ud_engine.specs.Feeding.{Session, IsInSession}
use Rattle.ud_io.specs.Streams.{stream_of}
use Rattle.ud_engine.proofs.engine.EngineOf.process_chunk.Given as goal

abbrev pub invariant-loop-cursor : goal.invariant-loop-cursor
invariant-loop-cursor g l = record {
  place : IsCursor g.H.LineBuffer.CAPACITY l.self.lines l.chunk l.cursor;
  fault : l.self.fault ≡ l.initial.self.fault;
  taken : (s : Session) → IsInSession g.S.Show.represents g.S.Show.piece l.initial.self s →
      EngineAdvances g.S.Show.represents g.S.Show.piece l.self s.options s.pieces s.text s.printed (take l.cursor.pos l.chunk)
      (stream_of g.W.Write.contents l.initial.out) (stream_of g.W.Write.contents l.out) [] (l.self.buffered ++ slice_between l.chunk l.cursor.pending_start l.cursor.pos);
}

abbrev pub decreases-loop-cursor : goal.decreases-loop-cursor
decreases-loop-cursor g l = measure l.chunk l.cursor
