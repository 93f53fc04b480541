-- The row keeps its name.
use Rattle.std.proofs.Math.ListN.{set}
use Rattle.std.proofs.lemmas.List.{length-set, get_or-set_other, get_or-set_same}
use Rattle.std.proofs.lemmas.Bool.{cases_lt}
use Rattle.std.proofs.Common.{arith}
use Rattle.ud_cond.proofs.lemmas.symbols.FilterLemmas.{noted-set}
use Rattle.ud_cond.proofs.symbols.Symbols.replace_at.Goals as goal
use Rattle.std.proofs.lemmas.Grind.{common_steps}

pub invariant_of-self : goal.invariant_of-self
invariant_of-self c = grind (arith, common_steps, cases_lt, length-set, set, get_or-set_other, get_or-set_same, noted-set)
