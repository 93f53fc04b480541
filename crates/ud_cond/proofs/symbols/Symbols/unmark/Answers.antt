-- By the row of the name.
use Rattle.std.proofs.Common.{false, bytes_eq, subst, arith}
use Rattle.std.proofs.lemmas.List.{set_past}
use Rattle.ud_cond.specs.symbols.Marks.{Unmarks}
use Rattle.ud_cond.proofs.lemmas.symbols.MarkLemmas.{none-unmarked, row-unmarked}
use Rattle.ud_cond.proofs.symbols.Symbols.unmark.Goals as goal

pub returns-then-row-len : goal.returns-then-row-len
returns-then-row-len c = row-unmarked c.args.self.now c.args.marks.now.items c.in-Some.row c.args.name.now c.in-Some.ensures.found c.in-Some.ensures.first

pub returns-else-row-len : goal.returns-else-row-len
returns-else-row-len c = subst (Unmarks c.args.self.now (λ n. bytes_eq n c.args.name.now) c.args.marks.now.items) (set_past c.args.marks.now.items c.in-Some.row false (omega (arith, c.if-row-len.false)))
    (row-unmarked c.args.self.now c.args.marks.now.items c.in-Some.row c.args.name.now c.in-Some.ensures.found c.in-Some.ensures.first)

pub returns-in_default : goal.returns-in_default
returns-in_default c = none-unmarked c.args.self.now c.args.marks.now.items c.args.name.now c.in_default.ensures.absent
