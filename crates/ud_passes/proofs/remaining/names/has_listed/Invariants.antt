-- No word before `rest` is listed.
use Rattle.std.proofs.Common.{◌≡◌, List, false, length}
use Rattle.ud_model.specs.conditions.Table.{Argument}
use Rattle.ud_cond.specs.symbols.SymbolTable.{TableRepresents}
use Rattle.ud_passes.specs.remaining.ListedNames.{has_listed}
use Rattle.ud_passes.proofs.remaining.names.has_listed.Given as goal

abbrev pub invariant-loop-first : goal.invariant-loop-first
invariant-loop-first l = (calls : List Argument) → TableRepresents l.symbols calls → has_listed calls false l.text ≡ has_listed calls false l.rest

abbrev pub decreases-loop-first : goal.decreases-loop-first
decreases-loop-first l = length l.rest
