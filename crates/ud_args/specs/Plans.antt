-- Plans: the plan of a run, as set by the arguments of a command line.
use Rattle.std.specs.Prelude.{◌≡◌, ℕ, List, Bool, Option, None}
use Rattle.std.specs.List.{filter_map}
use Rattle.ud_model.specs.declared.settings.Settings.{Settings}
use Rattle.ud_model.specs.conditions.Table.{Argument}
use Rattle.ud_model.specs.sections.Items.{Options}
use Rattle.ud_model.specs.answer.CommandLine.{ParsedArg, Operand, first_fault, settings_in}
use Rattle.ud_model.specs.answer.CommandLine.{argument_in, operand_in, operand_index, usage_fault}
use Rattle.ud_model.specs.answer.CommandLine.{options_of, operand_of}
use Rattle.ud_cond.specs.symbols.SymbolTable.{TableRepresents}
use Rattle.ud_args.specs.declared.parse.Operand as declared

-- `PlanState`: a plan, as callers see it.
pub record PlanState : Type 0 where
  pub settings : Settings
  pub symbols : List Argument
  -- the operand's index, counted from 0.
  pub operand : Option ℕ

-- `IsPlanOf args plan`: the arguments have no fault, and the plan has their settings, symbols and
-- operand.
pub record IsPlanOf (args : List (List ℕ)) (plan : PlanState) : Type 0 where
  pub right : usage_fault args ≡ None
  pub said : plan.settings ≡ (options_of args).settings
  pub represents : TableRepresents plan.symbols (options_of args).table
  pub index : plan.operand ≡ operand_of args

-- `PlanRepresents plan gs`: the options and operands `gs` have no fault, and the plan has their
-- settings, symbols and operand.
pub record PlanRepresents (plan : PlanState) (gs : List ParsedArg) : Type 0 where
  pub right : first_fault gs ≡ None
  pub said : plan.settings ≡ settings_in gs
  pub represents : TableRepresents plan.symbols (filter_map argument_in gs)
  pub index : plan.operand ≡ operand_index (operand_in gs)

-- `with_unpadded unpadded plan`: the plan, without spaces for lost bytes if `unpadded`.
abbrev pub with_unpadded : Bool → PlanState → PlanState
with_unpadded unpadded plan =
    record plan { settings = record plan.settings { unpadded = unpadded } }

-- `ForOptionsOf plan P`: `P` is true of the options that the plan represents.
abbrev pub ForOptionsOf : PlanState → (Options → Type 0) → Type 0
ForOptionsOf plan P =
    (o : Options) → o.settings ≡ plan.settings → TableRepresents plan.symbols o.table → P o

-- `as_operand o`: the code's operand, as one of the definitions.
abbrev pub as_operand : declared.Operand → Operand
as_operand o = record { index = o.index; name = o.name.now }
