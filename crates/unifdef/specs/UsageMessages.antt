-- UsageMessages: the messages of faults of the arguments.
use Rattle.std.specs.Prelude.{◌≡◌, ◌⊎◌, ℕ, List, Bool, Option}
use Rattle.ud_model.specs.answer.CommandLine.{ParsedArg, UsageFault, unknown_option}
use Rattle.ud_model.specs.answer.CommandLine.{missing_argument, bad_symbol_in, bad_mode_in}
use Rattle.ud_model.specs.answer.CommandLine.{too_many_files, usage_message}
use Rattle.ud_model.specs.answer.Messages.{out_of_memory}
use Rattle.ud_args.specs.SymbolStorage.{StoresSymbol}
use Rattle.ud_args.specs.declared.usage.Usage.{Usage}
use Rattle.ud_args.specs.declared.usage.Usage.TheVariants.{UnknownOption, MissingArgument}
use Rattle.ud_args.specs.declared.usage.Usage.TheVariants.{BadSymbol, BadMode, TooManyFiles}
use Rattle.ud_args.specs.declared.usage.Usage.TheVariants.{OutOfMemory}
use Rattle.ud_io.specs.Watched.{AppendsAllOrPrefix}

-- `usage_text u`: the message of this fault of the arguments, or of a lack of memory.
abbrev pub usage_text : Usage → List ℕ
usage_text (UnknownOption letter) = usage_message (unknown_option letter)
usage_text (MissingArgument letter) = usage_message (missing_argument letter)
usage_text (BadSymbol word) = usage_message (bad_symbol_in word)
usage_text (BadMode word) = usage_message (bad_mode_in word)
usage_text TooManyFiles = usage_message too_many_files
usage_text OutOfMemory = out_of_memory

-- `ReportsUsage gs fault failed old new status`: `status` is 2, and the message of `fault` was
-- appended, or a prefix if `failed`. Or memory for a symbol before the fault couldn't be allocated,
-- and the message about that was.
pub record ReportsUsage (gs : List ParsedArg) (fault : UsageFault) (failed : Bool)
    (old new : Option (List ℕ)) (status : ℕ) : Type 0 where
  pub message : AppendsAllOrPrefix failed old new (usage_message fault) ⊎
      (StoresSymbol gs × AppendsAllOrPrefix failed old new out_of_memory)
  pub answered : status ≡ 2
