-- The first line is taken and consumed at once.
use Rattle.std.proofs.Common.{arith, take, ◌≤◌, suc, ◌+◌, ◌++◌, length, add-one, sym, ap, subst}
use Rattle.ud_model.specs.text.Lines.{line_at}
use Rattle.ud_model.proofs.text.LinesLemmas.{split_lines-open}
use Rattle.ud_text.specs.lines.LinesState.{LinesState, LinesRepresent, IsLineOf}
use Rattle.ud_text.specs.lines.Borrowing.{CanBorrow}
use Rattle.ud_text.specs.lines.Consuming.{CanConsume}
use Rattle.ud_text.specs.contracts.lines.Lines.{the_view}
use Rattle.ud_text.proofs.lemmas.lines.BorrowLemmas.{borrowed_value, borrowed_bytes, borrowed_no_newline, can_borrow, represent_borrowed}
use Rattle.ud_text.proofs.lemmas.lines.NextLineLemmas.{first_numbered, is_first}
use Rattle.ud_text.proofs.lines.Lines.next_in.Goals as goal

pub invariant_of-self : goal.invariant_of-self
invariant_of-self g c = let view = the_view g.row.H g.H.LineBuffer c.self.inside in
    let can : CanConsume view c.args.lines.now =
    subst (λ (l : LinesState). CanConsume l c.args.lines.now) (sym c.self.view_is)
    c.requires.whole_lines in
    let n =
    first_numbered view c.args.lines.now _ can (is_first _ _ c.in-Some.ensures.found c.requires.whole_lines.fits) in
    let none = ap length can.unheld in (
      c.self.invariant.0,
      omega (arith, n),
      λ some. absurd (omega (arith, some, none)),
      c.self.invariant.3,
      c.self.invariant.4,
    )

pub returns-clause-borrowed : goal.returns-clause-borrowed
returns-clause-borrowed g c = let view = the_view g.row.H g.H.LineBuffer c.self.inside in
    let body = c.split_newline.result.0.now in
    let ending = c.split_newline.result.1.now in
    let can : CanConsume view c.args.lines.now =
    subst (λ (l : LinesState). CanConsume l c.args.lines.now) (sym c.self.view_is)
    c.requires.whole_lines in
    let n =
    first_numbered view c.args.lines.now _ can (is_first _ _ c.in-Some.ensures.found c.requires.whole_lines.fits) in
    subst (λ (l : LinesState). CanBorrow l c.args.lines.now (length (body ++ ending)))
    c.self.view_is
    (can_borrow view c.args.lines.now body ending _ 1 can.unheld can.no_fault n
    (is_first _ _ c.in-Some.ensures.found c.requires.whole_lines.fits) (c.split_newline.ensures.value 1))

pub returns-clause-value : goal.returns-clause-value
returns-clause-value g c = let body = c.split_newline.result.0.now in
    let ending = c.split_newline.result.1.now in
    let number = c.self.inside.consumed in
    subst (λ (l : LinesState). IsLineOf body ending (number + 1)
    (line_at (suc l.before) (take (length (body ++ ending)) c.args.lines.now))) c.self.view_is
    (rw add-one (borrowed_value c.args.lines.now body ending _ (suc number)
    (is_first _ _ c.in-Some.ensures.found c.requires.whole_lines.fits) (c.split_newline.ensures.value (suc number))))

pub returns-clause-bytes : goal.returns-clause-bytes
returns-clause-bytes g c =
    borrowed_bytes c.args.lines.now c.split_newline.result.0.now c.split_newline.result.1.now
    _ 1 (is_first _ _ c.in-Some.ensures.found c.requires.whole_lines.fits) (c.split_newline.ensures.value 1)

pub returns-clause-one_line : goal.returns-clause-one_line
returns-clause-one_line g c = borrowed_no_newline c.args.lines.now c.split_newline.result.0.now
    c.split_newline.result.1.now _ 1 (is_first _ _ c.in-Some.ensures.found c.requires.whole_lines.fits)
    (c.split_newline.ensures.value 1)

pub returns-clause-bound : goal.returns-clause-bound
returns-clause-bound g c = let view = the_view g.row.H g.H.LineBuffer c.self.inside in
    let can : CanConsume view c.args.lines.now =
    subst (λ (l : LinesState). CanConsume l c.args.lines.now) (sym c.self.view_is)
    c.requires.whole_lines in
    let n =
    first_numbered view c.args.lines.now _ can (is_first _ _ c.in-Some.ensures.found c.requires.whole_lines.fits) in
    subst (λ (l : LinesState). c.self.inside.consumed + 1 ≤ l.last_line) c.self.view_is
    (omega (arith, n))

pub returns-clause-represents : goal.returns-clause-represents
returns-clause-represents g c = λ text took.
    let view = the_view g.row.H g.H.LineBuffer c.self.inside in
    let can : CanConsume view c.args.lines.now =
    subst (λ (l : LinesState). CanConsume l c.args.lines.now) (sym c.self.view_is)
    c.requires.whole_lines in
    let before : LinesRepresent view text =
    subst (λ (l : LinesState). LinesRepresent l text) (sym c.self.view_is) took in
    represent_borrowed view text c.args.lines.now c.split_newline.result.0.now
    c.split_newline.result.1.now _ 1 can.unheld can.part (is_first _ _ c.in-Some.ensures.found c.requires.whole_lines.fits)
    (c.split_newline.ensures.value 1) before

pub unreachable-requires : goal.unreachable-requires
unreachable-requires g c = grind (arith, split_lines-open, c.requires.whole_lines.ends, c.requires.some, c.in_default.ensures.none)
