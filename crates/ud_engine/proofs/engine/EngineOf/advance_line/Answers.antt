use Rattle.std.proofs.Common.{rules, refl, sym, ap, subst, ◌++◌, ◌+◌, length, drop, List, ℕ, arith, length-append}
use Rattle.ud_cond.specs.symbols.SymbolTable.{TableRepresents}
use Rattle.ud_text.specs.lines.LinesState.{LinesState}
use Rattle.ud_model.specs.aids.LineViews.{as_line}
use Rattle.ud_engine.specs.Advancing.{StepFails, IsCursor}
use Rattle.ud_engine.specs.Feeding.{EngineState, EngineRepresentsBuffered}
use Rattle.ud_io.specs.Streams.{stream_of}
use Rattle.ud_engine.proofs.StepLemmas.{lent_put, lent_kept, lent_refused, held_taken}
use Rattle.ud_engine.proofs.CursorLemmas.{next_after_line}
use Rattle.ud_engine.proofs.engine.EngineOf.advance_line.Goals as goal
use Rattle.ud_io.proofs.BufferingLemmas.{range_from}

pub returns-in-Err-clause-moves : goal.returns-in-Err-clause-moves
returns-in-Err-clause-moves g c = λ s old.
    let h = subst (λ (e : EngineState g.row.S.Denot). EngineRepresentsBuffered g.S.Show.represents g.S.Show.piece e s.options s.pieces s.text s.printed) (sym c.self.view_is) old in
    let k = subst (λ (l : LinesState). EngineRepresentsBuffered g.S.Show.represents g.S.Show.piece
    (record { symbols = (g.P.PlanSource.plan c.self.inside.plan).symbols; lines = l; printer = c.self.inside.printer; buffered = c.self.inside.output; fault = c.self.inside.fault }) s.options s.pieces s.text s.printed)
    (sym c.in_default.ensures.unchanged) h in
    subst (λ (x : List ℕ). StepFails s.options s.pieces (s.text ++ x) s.printed c.in-Err.fault) (range_from c.args.chunk.now c.args.cursor.now.pos)
    (c.in-Err.ensures.takes s k)

pub returns-in-Ok-clause-moves : goal.returns-in-Ok-clause-moves
returns-in-Ok-clause-moves g c = grind (arith, held_taken, range_from)

pub returns-in-Err-print-clause-moves : goal.returns-in-Err-print-clause-moves
returns-in-Err-print-clause-moves g c = λ s old.
    let h = subst (λ (e : EngineState g.row.S.Denot). EngineRepresentsBuffered g.S.Show.represents g.S.Show.piece e s.options s.pieces s.text s.printed) (sym c.self.view_is) old in
    let len = length-append c.in-Some.line.body.now c.in-Some.line.ending.now in
    lent_refused g.S.Show.represents g.S.Show.piece s.options s.pieces _ s.text s.printed h (stream_of g.W.Write.contents c.args.out.now) (stream_of g.W.Write.contents c.print.new.out)
    c.args.self.now.buffered (ap (λ (e : EngineState g.row.S.Denot). e.buffered) c.self.view_is) c.args.chunk.now
    (drop c.args.cursor.now.pos c.args.chunk.now) c.args.cursor.now.pending_start c.args.cursor.now.pos
    (c.args.cursor.now.pos + (length c.in-Some.line.body.now + length c.in-Some.line.ending.now)) refl
    c.requires.cursor.from (omega arith)
    (record { symbols = (g.P.PlanSource.plan c.self.inside.plan).symbols; lines = c.next_line.new.lines; printer = c.print.new.self; buffered = c.print.new.output; fault = c.self.inside.fault })
    (as_line c.in-Some.line) c.in-Some.ensures.borrowed c.in-Some.ensures.bytes (omega (arith, len)) c.in-Some.ensures.value c.in-Some.ensures.counted refl
    (c.in-Some.ensures.represents s.text h.took) c.in-Err-print.fault
    (c.in-Err-print.ensures.prints s.options s.pieces h.items h.tree (subst (λ x. TableRepresents x s.options.table) (sym c.symbols-symbols.ensures) h.symbols) h.has)

pub returns-then-put-clause-moves : goal.returns-then-put-clause-moves
returns-then-put-clause-moves g c = λ s old.
    let h = subst (λ (e : EngineState g.row.S.Denot). EngineRepresentsBuffered g.S.Show.represents g.S.Show.piece e s.options s.pieces s.text s.printed) (sym c.self.view_is) old in
    let len = length-append c.in-Some.line.body.now c.in-Some.line.ending.now in
    lent_put g.S.Show.represents g.S.Show.piece s.options s.pieces _ s.text s.printed h (stream_of g.W.Write.contents c.args.out.now) (stream_of g.W.Write.contents c.print.new.out)
    c.args.self.now.buffered (ap (λ (e : EngineState g.row.S.Denot). e.buffered) c.self.view_is) c.args.chunk.now
    (drop c.args.cursor.now.pos c.args.chunk.now) c.args.cursor.now.pending_start c.args.cursor.now.pos
    (c.args.cursor.now.pos + (length c.in-Some.line.body.now + length c.in-Some.line.ending.now)) refl
    c.requires.cursor.from (omega arith)
    _ (as_line c.in-Some.line) c.in-Some.ensures.borrowed c.in-Some.ensures.bytes (omega (arith, len)) c.in-Some.ensures.value c.in-Some.ensures.counted refl
    (c.in-Some.ensures.represents s.text h.took)
    c.in-Ok-print.put (search rules)
    (c.in-Ok-print.ensures.prints s.options s.pieces h.items h.tree (subst (λ x. TableRepresents x s.options.table) (sym c.symbols-symbols.ensures) h.symbols) h.has)

pub returns-clause-moves : goal.returns-clause-moves
returns-clause-moves g c = λ s old.
    let h = subst (λ (e : EngineState g.row.S.Denot). EngineRepresentsBuffered g.S.Show.represents g.S.Show.piece e s.options s.pieces s.text s.printed) (sym c.self.view_is) old in
    let len = length-append c.in-Some.line.body.now c.in-Some.line.ending.now in
    lent_kept g.S.Show.represents g.S.Show.piece s.options s.pieces _ s.text s.printed h (stream_of g.W.Write.contents c.args.out.now) (stream_of g.W.Write.contents c.print.new.out)
    c.args.self.now.buffered (ap (λ (e : EngineState g.row.S.Denot). e.buffered) c.self.view_is) c.args.chunk.now
    (drop c.args.cursor.now.pos c.args.chunk.now) c.args.cursor.now.pending_start c.args.cursor.now.pos
    (c.args.cursor.now.pos + (length c.in-Some.line.body.now + length c.in-Some.line.ending.now)) refl
    c.requires.cursor.from (omega arith)
    _ (as_line c.in-Some.line) c.in-Some.ensures.borrowed c.in-Some.ensures.bytes (omega (arith, len)) c.in-Some.ensures.value c.in-Some.ensures.counted refl
    (c.in-Some.ensures.represents s.text h.took)
    c.in-Ok-print.put (search rules)
    (c.in-Ok-print.ensures.prints s.options s.pieces h.items h.tree (subst (λ x. TableRepresents x s.options.table) (sym c.symbols-symbols.ensures) h.symbols) h.has)

pub returns-then-put-clause-next : goal.returns-then-put-clause-next
returns-then-put-clause-next g c =
    let place = subst (λ (e : EngineState g.row.S.Denot). IsCursor g.H.LineBuffer.CAPACITY e.lines c.args.chunk.now c.args.cursor.now) (sym c.self.view_is) c.requires.cursor in
    let len = length-append c.in-Some.line.body.now c.in-Some.line.ending.now in
    next_after_line g.H.LineBuffer.CAPACITY c.self.inside.lines c.next_line.new.lines c.args.chunk.now
    (drop c.args.cursor.now.pos c.args.chunk.now) c.args.cursor.now refl c.requires.some place
    (as_line c.in-Some.line) c.in-Some.ensures.borrowed
    (c.args.cursor.now.pos + (length c.in-Some.line.body.now + length c.in-Some.line.ending.now)) (omega (arith, len)) c.in-Some.ensures.counted
    (c.args.cursor.now.pos + (length c.in-Some.line.body.now + length c.in-Some.line.ending.now)) (omega arith)

pub returns-clause-next : goal.returns-clause-next
returns-clause-next g c =
    let place = subst (λ (e : EngineState g.row.S.Denot). IsCursor g.H.LineBuffer.CAPACITY e.lines c.args.chunk.now c.args.cursor.now) (sym c.self.view_is) c.requires.cursor in
    let len = length-append c.in-Some.line.body.now c.in-Some.line.ending.now in
    let from = c.requires.cursor.from in
    next_after_line g.H.LineBuffer.CAPACITY c.self.inside.lines c.next_line.new.lines c.args.chunk.now
    (drop c.args.cursor.now.pos c.args.chunk.now) c.args.cursor.now refl c.requires.some place
    (as_line c.in-Some.line) c.in-Some.ensures.borrowed
    (c.args.cursor.now.pos + (length c.in-Some.line.body.now + length c.in-Some.line.ending.now)) (omega (arith, len)) c.in-Some.ensures.counted
    c.args.cursor.now.pending_start (omega (arith, from))
