-- The table represents the rows so far.
use Rattle.ud_cond.specs.symbols.SymbolTable.{TableRepresents}
use Rattle.ud_cond.proofs.symbols.Symbols.from_rows.Given as goal

abbrev pub invariant-rows : goal.invariant-rows
invariant-rows l = TableRepresents l.symbols l.yielded
