-- The lines so far stay.
use Rattle.std.proofs.Common.{List, length}
use Rattle.ud_model.specs.conditions.Table.{Argument}
use Rattle.ud_cond.specs.symbols.SymbolTable.{TableRepresents}
use Rattle.ud_cond.specs.CondViews.{as_rules}
use Rattle.ud_passes.specs.UntouchedTexts.{StayedTo}
use Rattle.ud_passes.proofs.untouched.is_untouched.Given as goal

abbrev pub invariant-loop-walk : goal.invariant-loop-walk
invariant-loop-walk l = (calls : List Argument) → TableRepresents l.symbols calls → StayedTo calls (as_rules l.rules) l.text l.walk

abbrev pub decreases-loop-walk : goal.decreases-loop-walk
decreases-loop-walk l = length l.walk.rest.now
