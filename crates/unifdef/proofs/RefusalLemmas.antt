-- Faults of the arguments, and the messages that report them.
use Rattle.std.proofs.Common.{◌≡◌, ◌⊎◌, List, Bool, true, false, Option, Some, arith}
use Rattle.ud_model.specs.answer.CommandLine.{ParsedArg, UsageFault, first_fault, usage_message}
use Rattle.ud_model.specs.answer.Messages.{out_of_memory}
use Rattle.unifdef.specs.UsageMessages.{usage_text}
use Rattle.ud_args.specs.SymbolStorage.{StoresSymbol}
use Rattle.ud_args.specs.ParsedSettings.{IsUsageOf}
use Rattle.ud_args.specs.declared.usage.Usage.{Usage}

-- the arguments have this fault, and the text is its message
pub record TellsFault (fault : Option UsageFault) (u : Usage) : Type 0 where
  pub reported : UsageFault
  pub is : fault ≡ Some reported
  pub text : usage_text u ≡ usage_message reported

-- an error of `plan` is a fault of the arguments with its message, or memory for a symbol couldn't
-- be allocated
pub tells-IsUsageOf : (gs : List ParsedArg) (u : Usage) → IsUsageOf gs u → TellsFault (first_fault gs) u ⊎ (StoresSymbol gs × (usage_text u ≡ out_of_memory))
tells-IsUsageOf gs u h = grind arith

-- a stream that works hasn't failed
pub works_fails : (failed : Bool) → failed ≡ false → failed ≡ true → ⊥
works_fails true works fails = cc
works_fails false works fails = cc
