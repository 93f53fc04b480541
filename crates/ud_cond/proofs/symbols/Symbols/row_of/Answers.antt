use Rattle.std.proofs.Common.{None, arith}
use Rattle.ud_cond.proofs.lemmas.symbols.TableLemmas.{entry_from-none}
use Rattle.ud_cond.proofs.lemmas.symbols.FilterLemmas.{none-unmarked}
use Rattle.ud_cond.proofs.lemmas.symbols.MarkLemmas.{row-first}
use Rattle.ud_cond.proofs.lemmas.symbols.SortedLemmas.{none-at_all}
use Rattle.ud_cond.proofs.symbols.Symbols.row_of.Goals as goal
use Rattle.std.proofs.lemmas.Grind.{common_steps}

-- a name whose slot isn't set has no row
pub returns-then-not-may_contain-clause-absent : goal.returns-then-not-may_contain-clause-absent
returns-then-not-may_contain-clause-absent c = grind (arith, common_steps, none-unmarked, entry_from-none)

-- nor has a name with a gap
pub returns-in-Err-clause-absent : goal.returns-in-Err-clause-absent
returns-in-Err-clause-absent c = entry_from-none None c.args.self.now c.args.name.now (none-at_all c.args.self.now c.in-Err.field-0 c.args.name.now c.in-Err.ensures.absent)

pub returns-in-Ok-clause-first : goal.returns-in-Ok-clause-first
returns-in-Ok-clause-first c = row-first c.args.self.now c.in-Ok.ensures.sorted c.in-Ok.i c.args.name.now c.in-Ok.ensures.found
