-- No name before those that are left is listed.
use Rattle.std.proofs.Common.{◌≡◌, List}
use Rattle.std.specs.List.{list_any}
use Rattle.ud_model.specs.conditions.Conditions.{is_listed}
use Rattle.ud_model.specs.conditions.Names.{names_of}
use Rattle.ud_model.specs.conditions.Table.{Argument}
use Rattle.ud_cond.specs.symbols.SymbolTable.{TableRepresents}
use Rattle.ud_passes.proofs.remaining.names.has_listed_operand.Given as goal

abbrev pub invariant-loop-name : goal.invariant-loop-name
invariant-loop-name l = record {
  can : goal.iterator-loop-name.can_next l.name-iterator;
  ends : goal.iterator-loop-name.is_finite l.name-iterator;
  same : (calls : List Argument) → TableRepresents l.symbols calls →
      list_any (is_listed calls) (names_of l.fn.kind l.text) ≡ list_any (is_listed calls) l.name-iterator;
}
