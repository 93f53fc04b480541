-- The line is that of the chunk's prefix, and is taken and consumed at once.
use Rattle.std.proofs.Common.{rules, arith, Option, Some, IfNone, take, ◌≡◌, suc, ◌+◌, [], ◌++◌, length, None, false, add-one, sym, ◌∙◌, ap, subst}
use Rattle.ud_model.specs.text.Lines.{line_at}
use Rattle.ud_text.specs.lines.LinesState.{LinesState, LinesRepresent, IsLineOf}
use Rattle.ud_text.specs.lines.Borrowing.{CanBorrow}
use Rattle.ud_text.specs.contracts.lines.Lines.{the_view}
use Rattle.ud_text.proofs.lemmas.lines.BorrowLemmas.{none_held, borrowed_value, borrowed_bytes, borrowed_no_newline, can_borrow, represent_borrowed}
use Rattle.ud_text.proofs.lines.Lines.whole_in.Goals as goal

none_is : {T P : Type 0} (o : Option T) → P → IfNone o P
none_is None p = p
none_is (Some x) p = tt

pub returns-in_err-line-clause-none : goal.returns-in_err-line-clause-none
returns-in_err-line-clause-none g c = none_is c.from_residual.result (λ used can. let k = c.in_err-line.ensures.none used can.prefix in omega (arith, k, can.fits))

pub returns-clause-value : goal.returns-clause-value
returns-clause-value g c =
    subst (λ (l : LinesState). IsLineOf c.split_ending.result.0.now c.split_ending.result.1.now (c.self.inside.consumed + 1)
    (line_at (suc l.before) (take (length (c.split_ending.result.0.now ++ c.split_ending.result.1.now)) c.args.chunk.now))) c.self.view_is
    (rw add-one (borrowed_value c.args.chunk.now c.split_ending.result.0.now c.split_ending.result.1.now c.in_ok-line.line.now (suc c.self.inside.consumed)
    c.in_ok-line.ensures.some (c.split_ending.ensures.value (suc c.self.inside.consumed))))

pub returns-clause-bytes : goal.returns-clause-bytes
returns-clause-bytes g c =
    borrowed_bytes c.args.chunk.now c.split_ending.result.0.now c.split_ending.result.1.now c.in_ok-line.line.now 1
    c.in_ok-line.ensures.some (c.split_ending.ensures.value 1)

pub returns-clause-one_line : goal.returns-clause-one_line
returns-clause-one_line g c =
    borrowed_no_newline c.args.chunk.now c.split_ending.result.0.now c.split_ending.result.1.now c.in_ok-line.line.now 1
    c.in_ok-line.ensures.some (c.split_ending.ensures.value 1)

pub returns-clause-borrowed : goal.returns-clause-borrowed
returns-clause-borrowed g c =
    let unheld : g.H.LineBuffer.items c.self.inside.buffer ≡ [] = sym c.as_slice.ensures.value ∙ none_held c.as_slice.result.now c.is_empty.result c.is_empty.ensures (search rules) in
    let no_fault : c.self.inside.fault ≡ None = search rules in
    subst (λ (l : LinesState). CanBorrow l c.args.chunk.now (length (c.split_ending.result.0.now ++ c.split_ending.result.1.now))) c.self.view_is
    (can_borrow (the_view g.row.H g.H.LineBuffer c.self.inside) c.args.chunk.now c.split_ending.result.0.now c.split_ending.result.1.now c.in_ok-line.line.now 1
    unheld no_fault c.if-self.false c.in_ok-line.ensures.some (c.split_ending.ensures.value 1))

pub returns-clause-represents : goal.returns-clause-represents
returns-clause-represents g c = λ text took.
    let unheld : g.H.LineBuffer.items c.self.inside.buffer ≡ [] = sym c.as_slice.ensures.value ∙ none_held c.as_slice.result.now c.is_empty.result c.is_empty.ensures (search rules) in
    let part : (the_view g.row.H g.H.LineBuffer c.self.inside).whole ≡ false = ap (λ (l : LinesState). l.whole) c.self.view_is ∙ c.requires.no_whole_line in
    let before : LinesRepresent (the_view g.row.H g.H.LineBuffer c.self.inside) text = subst (λ (l : LinesState). LinesRepresent l text) (sym c.self.view_is) took in
    represent_borrowed (the_view g.row.H g.H.LineBuffer c.self.inside) text c.args.chunk.now c.split_ending.result.0.now c.split_ending.result.1.now c.in_ok-line.line.now 1
    unheld part c.in_ok-line.ensures.some (c.split_ending.ensures.value 1) before
