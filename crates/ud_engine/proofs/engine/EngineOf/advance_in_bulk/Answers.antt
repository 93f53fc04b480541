use Rattle.std.proofs.Common.{rules, refl, sym, subst, ◌++◌, ◌+◌, arith}
use Rattle.ud_engine.specs.Advancing.{EngineAdvances, IsCursor, slice_between}
use Rattle.ud_engine.specs.Feeding.{EngineState, EngineRepresentsBuffered}
use Rattle.ud_io.specs.Streams.{stream_of}
use Rattle.ud_engine.proofs.CursorLemmas.{next_after, passed_kept, passed_dropped}
use Rattle.ud_engine.proofs.engine.EngineOf.advance_in_bulk.Goals as goal

pub returns-then-skipped-clause-next : goal.returns-then-skipped-clause-next
returns-then-skipped-clause-next g c =
    let place = subst (λ (e : EngineState g.row.S.Denot). IsCursor g.H.LineBuffer.CAPACITY e.lines c.args.chunk.now c.args.cursor) (sym c.self.view_is) c.requires.cursor in
    let from = c.requires.cursor.from in
    next_after g.H.LineBuffer.CAPACITY c.self.inside.lines c.skip_text-skipped.new.lines c.args.chunk.now c.args.cursor place c.requires.some c.skip_text-skipped.result.count
    c.skip_text-skipped.ensures.bound c.skip_text-skipped.ensures.ends c.skip_text-skipped.ensures.consumed c.requires.untried c.args.cursor.pending_start (omega (arith, from))

pub returns-clause-next : goal.returns-clause-next
returns-clause-next g c =
    let place = subst (λ (e : EngineState g.row.S.Denot). IsCursor g.H.LineBuffer.CAPACITY e.lines c.args.chunk.now c.args.cursor) (sym c.self.view_is) c.requires.cursor in
    next_after g.H.LineBuffer.CAPACITY c.self.inside.lines c.skip_text-skipped.new.lines c.args.chunk.now c.args.cursor place c.requires.some c.skip_text-skipped.result.count
    c.skip_text-skipped.ensures.bound c.skip_text-skipped.ensures.ends c.skip_text-skipped.ensures.consumed c.requires.untried (c.args.cursor.pos + c.skip_text-skipped.result.count) (omega arith)

pub returns-then-skipped-clause-moves : goal.returns-then-skipped-clause-moves
returns-then-skipped-clause-moves g c = λ s old.
    let h = subst (λ (e : EngineState g.row.S.Denot). EngineRepresentsBuffered g.S.Show.represents g.S.Show.piece e s.options s.pieces s.text s.printed) (sym c.self.view_is) old in
    let place = subst (λ (e : EngineState g.row.S.Denot). IsCursor g.H.LineBuffer.CAPACITY e.lines c.args.chunk.now c.args.cursor) (sym c.self.view_is) c.requires.cursor in
    let out = stream_of g.W.Write.contents c.args.out.now in
    let f : EngineState g.row.S.Denot = record { symbols = (g.P.PlanSource.plan c.self.inside.plan).symbols; lines = c.skip_text-skipped.new.lines; printer = c.skip_text-skipped.new.self; buffered = c.self.inside.output; fault = c.self.inside.fault } in
    subst (λ (e : EngineState g.row.S.Denot). EngineAdvances g.S.Show.represents g.S.Show.piece f s.options s.pieces s.text s.printed
    (slice_between c.args.chunk.now c.args.cursor.pos (c.args.cursor.pos + c.skip_text-skipped.result.count)) out out
    (e.buffered ++ slice_between c.args.chunk.now c.args.cursor.pending_start c.args.cursor.pos)
    (c.self.inside.output ++ slice_between c.args.chunk.now c.args.cursor.pending_start (c.args.cursor.pos + c.skip_text-skipped.result.count))) c.self.view_is
    (passed_kept g.S.Show.represents g.S.Show.piece s.options s.pieces _ f s.text s.printed h c.args.chunk.now c.args.cursor.pos c.args.cursor.whole_end c.skip_text-skipped.result
    (place.ready c.requires.some) c.skip_text-skipped.ensures.bound c.skip_text-skipped.ensures.ends refl c.skip_text-skipped.ensures.consumed (c.skip_text-skipped.ensures.represents s.text h.took)
    (c.skip_text-skipped.ensures.printed s.options s.pieces h.items h.tree h.has) out out c.args.cursor.pending_start c.requires.cursor.from c.if-skipped.true refl)

pub returns-clause-moves : goal.returns-clause-moves
returns-clause-moves g c = λ s old.
    let h = subst (λ (e : EngineState g.row.S.Denot). EngineRepresentsBuffered g.S.Show.represents g.S.Show.piece e s.options s.pieces s.text s.printed) (sym c.self.view_is) old in
    let place = subst (λ (e : EngineState g.row.S.Denot). IsCursor g.H.LineBuffer.CAPACITY e.lines c.args.chunk.now c.args.cursor) (sym c.self.view_is) c.requires.cursor in
    let out = stream_of g.W.Write.contents c.args.out.now in
    let f : EngineState g.row.S.Denot = record { symbols = (g.P.PlanSource.plan c.self.inside.plan).symbols; lines = c.skip_text-skipped.new.lines; printer = c.skip_text-skipped.new.self; buffered = c.append.new.self; fault = c.self.inside.fault } in
    let now = stream_of g.W.Write.contents c.append.new.out in
    subst (λ (e : EngineState g.row.S.Denot). EngineAdvances g.S.Show.represents g.S.Show.piece f s.options s.pieces s.text s.printed
    (slice_between c.args.chunk.now c.args.cursor.pos (c.args.cursor.pos + c.skip_text-skipped.result.count)) out now
    (e.buffered ++ slice_between c.args.chunk.now c.args.cursor.pending_start c.args.cursor.pos)
    (c.append.new.self ++ slice_between c.args.chunk.now (c.args.cursor.pos + c.skip_text-skipped.result.count) (c.args.cursor.pos + c.skip_text-skipped.result.count))) c.self.view_is
    (passed_dropped g.S.Show.represents g.S.Show.piece s.options s.pieces _ f s.text s.printed h c.args.chunk.now c.args.cursor.pos c.args.cursor.whole_end c.skip_text-skipped.result
    (place.ready c.requires.some) c.skip_text-skipped.ensures.bound c.skip_text-skipped.ensures.ends refl c.skip_text-skipped.ensures.consumed (c.skip_text-skipped.ensures.represents s.text h.took)
    (c.skip_text-skipped.ensures.printed s.options s.pieces h.items h.tree h.has) out now c.args.cursor.pending_start c.requires.cursor.from (search rules) c.append.ensures)
