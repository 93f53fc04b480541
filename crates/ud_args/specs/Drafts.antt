-- Drafts: adding an option or operand to the draft of a plan.
use Rattle.std.specs.Prelude.{List, [], ◌∷◌, ◌++◌, Result, OnOk, IfErr}
use Rattle.ud_model.specs.answer.CommandLine.{ParsedArg}
use Rattle.ud_args.specs.ParsedSettings.{IsUsageOf}
use Rattle.ud_args.specs.Plans.{PlanState, PlanRepresents}
use Rattle.ud_args.specs.declared.usage.Usage.{Usage}

-- `AddsGiven g old new result`: whatever the draft `old` represents, `new` represents that and `g`,
-- unless the result is an error.
abbrev pub AddsGiven : ParsedArg → PlanState → PlanState → Result (Unit {0}) Usage → Type 0
AddsGiven g old new result = (gs : List ParsedArg) → PlanRepresents old gs →
    OnOk result (PlanRepresents new (gs ++ g ∷ []))

-- `FailsAt g old result`: an error is the first one of what the draft `old` represents, `g`, and
-- whatever follows; or memory was refused.
abbrev pub FailsAt : ParsedArg → PlanState → Result (Unit {0}) Usage → Type 0
FailsAt g old result = (gs : List ParsedArg) → PlanRepresents old gs → (more : List ParsedArg) →
    IfErr result (IsUsageOf (gs ++ g ∷ more))
