use Rattle.std.proofs.Common.{rules, ◌≡◌, false, ◌++◌, take, sym, ◌∙◌, ap, subst}
use Rattle.ud_text.specs.lines.LinesState.{LinesState, LinesRepresent}
use Rattle.ud_text.specs.contracts.lines.Lines.{the_view}
use Rattle.ud_text.proofs.lemmas.lines.LinesLemmas.{represent_take}
use Rattle.ud_text.proofs.lines.Lines.take.Goals as goal

pub returns-clause-represents : goal.returns-clause-represents
returns-clause-represents g c = λ text took.
    let added : g.H.LineBuffer.items c.try_append.new.self ≡ (g.H.LineBuffer.items c.self.inside.buffer) ++ take c.up_to_newline-taken.result.used c.args.chunk.now = search rules in
    let part : (the_view g.row.H g.H.LineBuffer c.self.inside).whole ≡ false = ap (λ (l : LinesState). l.whole) c.self.view_is ∙ c.requires.no_whole_line in
    let before : LinesRepresent (the_view g.row.H g.H.LineBuffer c.self.inside) text = subst (λ (l : LinesState). LinesRepresent l text) (sym c.self.view_is) took in
    rw added (represent_take (the_view g.row.H g.H.LineBuffer c.self.inside) text c.args.chunk.now c.up_to_newline-taken.result.used c.up_to_newline-taken.result.whole part c.up_to_newline-taken.ensures before)
