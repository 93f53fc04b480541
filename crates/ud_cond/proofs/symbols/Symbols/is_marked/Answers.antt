-- By the row of the name.
use Rattle.std.proofs.Common.{is_some, ap, arith}
use Rattle.std.proofs.lemmas.Grind.{common_steps}
use Rattle.ud_cond.proofs.lemmas.symbols.MarkLemmas.{row-lists}
use Rattle.ud_cond.proofs.symbols.Symbols.is_marked.Goals as goal

pub returns-then-row-marks : goal.returns-then-row-marks
returns-then-row-marks c = grind (arith, common_steps, c.in-Some.ensures.first, row-lists c.args.self.now c.in-Some.ensures.sorted c.in-Some.row c.args.name.now c.in-Some.ensures.found)

pub returns-else-row-marks : goal.returns-else-row-marks
returns-else-row-marks c = grind (arith, common_steps, c.in-Some.ensures.first, c.if-row-marks.false)

pub returns-in-None : goal.returns-in-None
returns-in-None c = grind (arith, ap is_some c.in-None.ensures.absent)
