use Rattle.std.proofs.Common.{rules, refl, sym, ap, subst, suc, Option, IfNone, arith}
use Rattle.ud_cond.specs.symbols.SymbolTable.{TableRepresents}
use Rattle.ud_model.specs.text.Lines.{Line, NoNewline, IsWhole}
use Rattle.ud_text.specs.lines.LinesState.{LinesState, BreaksLimit}
use Rattle.ud_model.specs.aids.LineViews.{as_line}
use Rattle.ud_text.specs.declared.lines.fault.TextFault.{TextFault}
use Rattle.ud_text.proofs.lemmas.lines.NewlineLemmas.{up_to_newline-some, whole_newlineless}
use Rattle.ud_engine.specs.Feeding.{EngineState, EngineRepresentsBuffered}
use Rattle.ud_io.specs.Streams.{stream_of}
use Rattle.ud_engine.proofs.LinePartLemmas.{limit_stops}
use Rattle.ud_engine.proofs.StepLemmas.{held_whole, is_within, still_open, open_step, line_step, line_refused}
use Rattle.ud_engine.proofs.engine.EngineOf.push_line_part.Goals as goal
use Rattle.std.proofs.lemmas.Grind.{common_steps}

pub returns-in-Err-clause-takes : goal.returns-in-Err-clause-takes
returns-in-Err-clause-takes g c = λ s old.
    let h = subst (λ (e : EngineState g.row.S.Denot). EngineRepresentsBuffered g.S.Show.represents g.S.Show.piece e s.options s.pieces s.text s.printed) (sym c.self.view_is) old in
    limit_stops g.S.Show.represents g.S.Show.piece s.options s.pieces _ s.text s.printed h c.args.rest.now c.in-Err.fault
    (subst (λ (r : Option TextFault). IfNone r (BreaksLimit c.self.inside.lines c.args.rest.now c.in-Err.fault)) h.no_fault c.in-Err.ensures.breaks_limit)

pub invariant_of-self-then-not-taken : goal.invariant_of-self-then-not-taken
invariant_of-self-then-not-taken g c = search (rules, still_open)

pub returns-then-not-taken-clause-takes : goal.returns-then-not-taken-clause-takes
returns-then-not-taken-clause-takes g c = λ s old.
    let h = subst (λ (e : EngineState g.row.S.Denot). EngineRepresentsBuffered g.S.Show.represents g.S.Show.piece e s.options s.pieces s.text s.printed) (sym c.self.view_is) old in
    open_step g.S.Show.represents g.S.Show.piece s.options s.pieces _ s.text s.printed h (stream_of g.W.Write.contents c.args.out.now) (stream_of g.W.Write.contents c.append.new.out)
    c.args.self.now.buffered c.args.pending.now c.args.rest.now (ap (λ (e : EngineState g.row.S.Denot). e.buffered) c.self.view_is)
    _ c.in-Ok.taken.used c.in-Ok.taken.whole (search rules) c.in-Ok.ensures.used refl refl c.in-Ok.ensures.value (c.in-Ok.ensures.represents s.text h.took) c.in-Ok.ensures.no_fault
    (c.in-Ok.ensures.limits (up_to_newline-some c.args.rest.now c.in-Ok.taken.used c.in-Ok.taken.whole c.in-Ok.ensures.used c.requires.some)) c.append.ensures

pub put_line-printed-requires-clause-within : goal.put_line-printed-requires-clause-within
put_line-printed-requires-clause-within g c = grind (arith, common_steps, up_to_newline-some, is_within)

pub put_line-printed-requires-clause-one_line : goal.put_line-printed-requires-clause-one_line
put_line-printed-requires-clause-one_line g c =
    subst (λ (l : Line). NoNewline l.body) (sym c.line.ensures.value)
    (whole_newlineless (suc c.take.new.self.before) c.take.new.self.held
    (subst IsWhole (sym (ap (λ (l : LinesState). l.held) c.in-Ok.ensures.value))
    (held_whole c.self.inside.lines.held c.args.rest.now c.in-Ok.taken.used c.in-Ok.taken.whole (search rules) c.self.invariant.no_newline c.in-Ok.ensures.used)))

pub returns-in-Err-printed-clause-takes : goal.returns-in-Err-printed-clause-takes
returns-in-Err-printed-clause-takes g c = λ s old.
    let h = subst (λ (e : EngineState g.row.S.Denot). EngineRepresentsBuffered g.S.Show.represents g.S.Show.piece e s.options s.pieces s.text s.printed) (sym c.self.view_is) old in
    line_refused g.S.Show.represents g.S.Show.piece s.options s.pieces _ s.text s.printed h (stream_of g.W.Write.contents c.args.out.now) (stream_of g.W.Write.contents c.put_line-printed.new.out)
    c.args.self.now.buffered c.args.pending.now c.args.rest.now (ap (λ (e : EngineState g.row.S.Denot). e.buffered) c.self.view_is)
    c.take.new.self c.in-Ok.taken.used c.in-Ok.taken.whole (as_line c.line.result) c.in-Err-printed.fault (search rules) c.in-Ok.ensures.used c.in-Ok.ensures.value c.line.ensures.value
    (c.in-Err-printed.ensures.prints s.options s.pieces h.items h.tree (subst (λ x. TableRepresents x s.options.table) (sym c.symbols.ensures) h.symbols) h.has)

pub returns-clause-takes : goal.returns-clause-takes
returns-clause-takes g c = λ s old.
    let h = subst (λ (e : EngineState g.row.S.Denot). EngineRepresentsBuffered g.S.Show.represents g.S.Show.piece e s.options s.pieces s.text s.printed) (sym c.self.view_is) old in
    line_step g.S.Show.represents g.S.Show.piece s.options s.pieces _ s.text s.printed h (stream_of g.W.Write.contents c.args.out.now) (stream_of g.W.Write.contents c.put_line-printed.new.out)
    c.args.self.now.buffered c.args.pending.now c.args.rest.now (ap (λ (e : EngineState g.row.S.Denot). e.buffered) c.self.view_is)
    _ c.take.new.self c.in-Ok.taken.used c.in-Ok.taken.whole (as_line c.line.result) (search rules) c.in-Ok.ensures.used refl c.in-Ok.ensures.value c.clear.ensures.value
    (c.clear.ensures.represents _ (c.in-Ok.ensures.represents s.text h.took)) c.in-Ok.ensures.no_fault
    (c.in-Ok.ensures.limits (up_to_newline-some c.args.rest.now c.in-Ok.taken.used c.in-Ok.taken.whole c.in-Ok.ensures.used c.requires.some)).1 c.line.ensures.value
    (c.in_default.ensures.prints s.options s.pieces h.items h.tree (subst (λ x. TableRepresents x s.options.table) (sym c.symbols.ensures) h.symbols) h.has)
