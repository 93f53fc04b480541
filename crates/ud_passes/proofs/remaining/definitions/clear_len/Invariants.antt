-- No `#` before `at` has a definition after it.
use Rattle.std.proofs.Common.{◌-◌, ◌≤◌, List, length}
use Rattle.ud_model.specs.conditions.Table.{Argument}
use Rattle.ud_cond.specs.symbols.SymbolTable.{TableRepresents}
use Rattle.ud_passes.specs.remaining.Definitions.{IsClear}
use Rattle.ud_passes.proofs.remaining.definitions.clear_len.Given as goal

abbrev pub invariant-loop-at : goal.invariant-loop-at
invariant-loop-at l = record {
  within : l.at ≤ length l.text;
  clear : (calls : List Argument) → TableRepresents l.symbols calls → IsClear calls l.at l.text;
}

abbrev pub decreases-loop-at : goal.decreases-loop-at
decreases-loop-at l = length l.text - l.at
