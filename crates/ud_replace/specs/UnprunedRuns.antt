-- UnprunedRuns: the run over a text in memory, before its conditions are pruned.
use Rattle.std.specs.Prelude.{◌≡◌, ℕ, List, ◌++◌, Bool, true, false, None}
use Rattle.ud_model.specs.sections.Items.{Options, rules_of}
use Rattle.ud_model.specs.answer.Outcomes.{Outcome, HasOutcome}
use Rattle.ud_engine.specs.declared.fault.RunFault.{RunFault}
use Rattle.ud_engine.specs.Finishing.{text_fault_of}
use Rattle.ud_cond.specs.symbols.SymbolTable.{LacksNames}
use Rattle.ud_passes.specs.UntouchedTexts.{IsUntouched}
use Rattle.ud_replace.specs.declared.error.ReplaceError.{ReplaceError}
use Rattle.ud_replace.specs.declared.error.ReplaceError.TheVariants.{Text, OutOfMemory}
use Rattle.ud_replace.specs.TextOutcomes.{TextOptions}

-- `RunsUnpruned o text old new differs`: `text` has no fault, and the output of the run over it was
-- appended to the bytes `old`, which are then `new`. `differs` says whether some line differs.
pub record RunsUnpruned (o : Options) (text old new : List ℕ) (differs : Bool) : Type 0 where
  pub outcome : Outcome
  pub runs : HasOutcome o text outcome
  pub faultless : outcome.fault ≡ None
  pub appended : new ≡ old ++ outcome.output
  pub differs_is : differs ≡ outcome.differs

-- `FailsUnpruned o text e`: the outcome of the run over `text` has the fault of `e`. Or memory
-- couldn't be allocated.
pub data FailsUnpruned (o : Options) (text : List ℕ) : ReplaceError → Type 0 where
  run_faulty : (outcome : Outcome) (f : RunFault) → HasOutcome o text outcome →
      outcome.fault ≡ text_fault_of f → ¬ (outcome.fault ≡ None) → FailsUnpruned o text (Text f)
  no_memory_left : FailsUnpruned o text OutOfMemory

-- `IsSpared o text`: pruning, if it is on, leaves `text` as it is.
abbrev pub IsSpared : TextOptions → List ℕ → Type 0
IsSpared o text =
    o.prunes ≡ true → IsUntouched o.run.table (rules_of o.run.settings) text

-- `IsUnnamed o text`: no symbol's name stands in `text`, constants decide nothing, and the lines
-- that stay are printed.
pub record IsUnnamed (o : TextOptions) (text : List ℕ) : Type 0 where
  pub lacks : LacksNames o.run.table text
  pub undecided : o.run.settings.constants ≡ false
  pub uncomplemented : o.run.settings.complement ≡ false
