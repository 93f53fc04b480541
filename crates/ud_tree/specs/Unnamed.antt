-- Unnamed: the search for the symbols that no condition names.
--
--   Seeks args old new               a report begins to look for them
--   FindsNames args text old new     the rows that a condition of the text names lost their marks
--
-- `old` and `new` are the report before and after.
use Rattle.std.specs.Prelude.{◌≡◌, ℕ, List, [], true, false, not, ◌&&◌}
use Rattle.ud_model.specs.conditions.Conditions.{is_listed}
use Rattle.ud_model.specs.conditions.Table.{Argument}
use Rattle.ud_cond.specs.symbols.Marks.{is_marked, Unmarks}
use Rattle.ud_cond.specs.symbols.SymbolTable.{TableRepresents}
use Rattle.ud_tree.specs.declared.arguments.Arguments.{Arguments}
use Rattle.ud_tree.specs.Remainders.{has_condition}
use Rattle.ud_tree.specs.Reports.{ReportState, KeepsScreen}

-- `Seeks args old new`: all rows are marked, unless the run is quiet; none was before. Nothing was
-- written.
pub record Seeks (args : Arguments) (old new : ReportState) : Type 0 where
  pub screen : KeepsScreen old new
  pub remaining : new.remaining ≡ old.remaining
  pub kept : old.lacks_memory ≡ true → new.lacks_memory ≡ true
  pub marks : old.unnamed ≡ [] → new.lacks_memory ≡ false → (name : List ℕ) →
      is_marked args.plan.run.symbols new.unnamed name ≡
      (not args.quiet && is_listed args.plan.run.symbols name)

-- `FindsNames args text old new`: the rows whose names a condition of the text has lost their
-- marks, and no other row. If memory ran out, the report records that.
pub record FindsNames (args : Arguments) (text : List ℕ) (old new : ReportState) : Type 0 where
  pub kept : old.lacks_memory ≡ true → new.lacks_memory ≡ true
  pub removed : new.lacks_memory ≡ false → (calls : List Argument) →
      TableRepresents args.plan.run.symbols calls → Unmarks args.plan.run.symbols
      (has_condition calls args text) old.unnamed new.unnamed
  pub remaining : new.remaining ≡ old.remaining
