use Rattle.std.proofs.Common.{rules, refl, sym, ap, subst, ◌∙◌, ◌++◌, ℕ, [], take, arith}
use Rattle.ud_engine.specs.Advancing.{EngineAdvances, IsCursor, slice_between}
use Rattle.ud_engine.specs.Feeding.{EngineState, longer}
use Rattle.ud_io.specs.Streams.{stream_of, Accepts}
use Rattle.ud_engine.specs.declared.engine.Cursor.{Cursor}
use Rattle.ud_engine.proofs.FeedLemmas.{feed_begins, feed_goes_on, feed_stops, feed_ends, unchanged_sent}
use Rattle.ud_engine.proofs.engine.EngineOf.process_chunk.Goals as goal

pub loop-cursor-init : goal.loop-cursor-init
loop-cursor-init g c = record {
  place = subst (λ (e : EngineState g.row.S.Denot). IsCursor g.H.LineBuffer.CAPACITY e.lines c.args.chunk.now c.cursor_at-cursor.result) c.self.view_is c.cursor_at-cursor.ensures.cursor;
  fault = refl;
  taken = λ s h.
      let a = stream_of g.W.Write.contents c.args.out.now in
      let begun = λ (at from : ℕ). EngineAdvances g.S.Show.represents g.S.Show.piece c.args.self.now s.options s.pieces s.text s.printed (take at c.args.chunk.now) a a []
      (c.args.self.now.buffered ++ slice_between c.args.chunk.now from at) in
      subst (λ n. begun n c.cursor_at-cursor.result.pending_start) (sym c.cursor_at-cursor.ensures.at)
      (subst (λ n. begun 0 n) (sym c.cursor_at-cursor.ensures.from)
      (feed_begins g.S.Show.represents g.S.Show.piece s.options s.pieces s.text s.printed c.args.self.now a c.args.chunk.now h));
}

pub loop-cursor-preserved : goal.loop-cursor-preserved
loop-cursor-preserved g c = record {
  place = c.in_default.ensures.next.cursor;
  fault = c.in_default.ensures.step.fault_unchanged ∙ c.loop-cursor.invariant.fault;
  taken = λ s h.
      let k = c.loop-cursor.invariant.taken s h in
      feed_goes_on g.S.Show.represents g.S.Show.piece s.options s.pieces s.text s.printed c.loop-cursor.self c.advance.new.self
      (stream_of g.W.Write.contents c.args.out.now) (stream_of g.W.Write.contents c.loop-cursor.out) (stream_of g.W.Write.contents c.advance.new.out)
      c.args.chunk.now c.loop-cursor.cursor.pos c.advance.new.cursor.pos _ _ (let f = c.in_default.ensures.next.forward in omega (arith, f)) k
      (c.in_default.ensures.moves (longer s (take c.loop-cursor.cursor.pos c.args.chunk.now) k.more) k.taken);
}

pub returns-in-Err-clause-feeds : goal.returns-in-Err-clause-feeds
returns-in-Err-clause-feeds g c = λ s h.
    let k = c.loop-cursor.invariant.taken s h in
    let pending = slice_between c.args.chunk.now c.loop-cursor.cursor.pending_start c.loop-cursor.cursor.pos in
    let same =
    ap (λ (r : Cursor). slice_between c.args.chunk.now r.pending_start r.pos)
    c.in-Err.ensures.stays in
    feed_stops g.S.Show.represents g.S.Show.piece s.options s.pieces s.text s.printed c.loop-cursor.self
    (stream_of g.W.Write.contents c.args.out.now) (stream_of g.W.Write.contents c.loop-cursor.out) (stream_of g.W.Write.contents c.end_chunk.new.out) c.args.chunk.now c.loop-cursor.cursor.pos _ k
    c.requires.not_failed
    (unchanged_sent g.W.Write.contents c.loop-cursor.out c.advance.new.out c.end_chunk.new.out c.loop-cursor.self.buffered c.advance.new.self.buffered pending []
    c.in-Err.fault c.in-Err.ensures.step.output_unchanged
    (subst (λ x. Accepts g.W.Write.contents c.advance.new.self.buffered [] c.advance.new.out
    c.end_chunk.new.out x) same c.end_chunk.ensures.written))
    c.end_chunk.new.self c.end_chunk.new.out.failed refl c.in-Err.fault c.end_chunk.result c.end_chunk.ensures.ended
    (c.in-Err.ensures.moves (longer s (take c.loop-cursor.cursor.pos c.args.chunk.now) k.more) k.taken)

pub returns-clause-feeds : goal.returns-clause-feeds
returns-clause-feeds g c = λ s h.
    let k = c.loop-cursor.invariant.taken s h in
    feed_ends g.S.Show.represents g.S.Show.piece s.options s.pieces s.text s.printed c.loop-cursor.self
    (stream_of g.W.Write.contents c.args.out.now) (stream_of g.W.Write.contents c.loop-cursor.out) (stream_of g.W.Write.contents c.end_chunk-2.new.out) c.args.chunk.now c.loop-cursor.cursor.pos _ k
    c.requires.not_failed c.end_chunk-2.ensures.written
    c.end_chunk-2.new.self c.end_chunk-2.ensures.flushed (c.loop-cursor.invariant.fault ∙ h.works) (search rules) c.end_chunk-2.new.out.failed refl _ c.end_chunk-2.result c.end_chunk-2.ensures.ended

pub returns-clause-writer : goal.returns-clause-writer
returns-clause-writer g c = grind (arith, c.end_chunk-2.ensures.ended)
