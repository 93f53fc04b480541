-- The rest of the lines so far was appended.
use Rattle.std.proofs.Common.{◌≤◌, ◌+◌, List, [], length}
use Rattle.ud_model.specs.conditions.Table.{Argument}
use Rattle.ud_cond.specs.symbols.SymbolTable.{TableRepresents}
use Rattle.ud_cond.specs.CondViews.{as_rules}
use Rattle.ud_passes.specs.pruning.Passing.{Pruned}
use Rattle.ud_passes.proofs.pruning.texts.prune.Given as goal

abbrev pub invariant-loop-walk : goal.invariant-loop-walk
invariant-loop-walk l = record {
  room : l.edited + length l.walk.rest.now ≤ length l.text;
  pruned : (calls : List Argument) → TableRepresents l.symbols calls →
      Pruned calls (as_rules l.rules) l.text [] l.edited l.walk l.left.items;
}

abbrev pub decreases-loop-walk : goal.decreases-loop-walk
decreases-loop-walk l = length l.walk.rest.now
