use Rattle.std.proofs.Common.{rules, sym, subst}
use Rattle.ud_sections.specs.sections.SectionFaults.{fault_of}
use Rattle.ud_engine.specs.Feeding.{EngineState, IsInSession}
use Rattle.ud_engine.proofs.EndLemmas.{rests, ends_at, ends_well}
use Rattle.ud_engine.proofs.engine.EngineOf.finish_in_place.Goals as goal

pub returns-in-Err-finish-clause-finishes : goal.returns-in-Err-finish-clause-finishes
returns-in-Err-finish-clause-finishes g c = λ s old.
    let h = subst (λ (e : EngineState g.row.S.Denot). IsInSession g.S.Show.represents g.S.Show.piece e s) (sym c.self.view_is) old in
    let all = c.in_default-ended.ensures.last s (rests g.S.Show.represents g.S.Show.piece s.options s.pieces _ s.text s.printed h c.symbols.result.now c.symbols.ensures) in (
      search rules,
      ends_at g.S.Show.represents g.S.Show.piece c.print_last_line-ended.new.printer s.options s.pieces s.text s.printed (g.W.Write.contents c.args.out.now.inner) (g.W.Write.contents c.print_last_line-ended.new.out.inner) all
          (fault_of c.in-Err-finish.fault) (c.in-Err-finish.ensures s.options s.pieces all.items all.tree all.has),
    )

pub returns-clause-finishes : goal.returns-clause-finishes
returns-clause-finishes g c = λ s old.
    let h = subst (λ (e : EngineState g.row.S.Denot). IsInSession g.S.Show.represents g.S.Show.piece e s) (sym c.self.view_is) old in
    let all = c.in_default-ended.ensures.last s (rests g.S.Show.represents g.S.Show.piece s.options s.pieces _ s.text s.printed h c.symbols.result.now c.symbols.ensures) in
    ends_well g.S.Show.represents g.S.Show.piece c.print_last_line-ended.new.printer s.options s.pieces s.text s.printed (g.W.Write.contents c.args.out.now.inner) (g.W.Write.contents c.print_last_line-ended.new.out.inner) all
    c.differs.result (c.in_default-finish.ensures s.options s.pieces all.items all.tree all.has) (c.differs.ensures s.options s.pieces all.items all.tree all.has)
