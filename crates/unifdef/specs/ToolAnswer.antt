-- ToolAnswer: what a call of the tool gives, compared with the definitions' answers.
use Rattle.std.specs.Prelude.{◌≡◌, ◌⊎◌, ℕ, List, false, IfSome}
use Rattle.std.specs.Io.KnownBytes.{Appends}
use Rattle.ud_model.specs.answer.Answer.{Answer, IsAnswer, memory_answer}
use Rattle.ud_model.specs.answer.CommandLine.{UsageFault, parsed_args, usage_fault}
use Rattle.ud_args.specs.SymbolStorage.{StoresSymbol}
use Rattle.ud_io.specs.Watched.{AppendsAllOrPrefix}
use Rattle.unifdef.specs.UsageMessages.{ReportsUsage}
use Rattle.unifdef.specs.ToolCall.{Call}

module _ {R W : Type 0} where
  -- `Reports call message`: `message` was appended to the error stream, or a prefix if that has
  -- failed.
  abbrev pub Reports : Call R W → List ℕ → Type 0
  Reports call message =
      AppendsAllOrPrefix call.err_failed call.old_message call.new_message message

  -- `Answers call a`: the output of `a` was appended, its message was reported, and the status is
  -- the one of `a`.
  pub record Answers (call : Call R W) (a : Answer) : Type 0 where
    pub output : Appends call.old_output call.new_output a.output
    pub message : Reports call a.message
    pub answered : call.status ≡ a.status

  -- `AnswersSpec call input`: output, message and status are those of the answer that the
  -- definitions give to the arguments and `input`.
  abbrev pub AnswersSpec : Call R W → List ℕ → Type 0
  AnswersSpec call input = (a : Answer) × IsAnswer call.args input a × Answers call a

  -- `ReportsOrAnswers call message`: `message` was reported, or the definitions' answer was given.
  abbrev pub ReportsOrAnswers : Call R W → List ℕ → Type 0
  ReportsOrAnswers call message =
      IfSome call.input (λ input. Reports call message ⊎ AnswersSpec call input)

  -- `FailsForMemory call`: memory for a symbol of the arguments couldn't be allocated, which was
  -- reported. Nothing was read, and the output was left alone.
  pub record FailsForMemory (call : Call R W) : Type 0 where
    pub asked : StoresSymbol (parsed_args call.args)
    pub unread : call.new_reader ≡ call.old_reader
    pub unwritten : call.new_out ≡ call.old_out
    pub gave : Answers call memory_answer

  -- `RefusesArgs call fault`: nothing was read, and the output was left alone. `fault` was
  -- reported, or that memory for an earlier symbol couldn't be allocated.
  pub record RefusesArgs (call : Call R W) (fault : UsageFault) : Type 0 where
    pub unread : call.new_reader ≡ call.old_reader
    pub unwritten : call.new_out ≡ call.old_out
    pub reported : ReportsUsage (parsed_args call.args) fault call.err_failed call.old_message
        call.new_message call.status

  -- `RefusesFaultyArgs call`: arguments with a fault are refused.
  abbrev pub RefusesFaultyArgs : Call R W → Type 0
  RefusesFaultyArgs call = IfSome (usage_fault call.args) (RefusesArgs call)

  -- `AnswersAsDefined call`: if no read and no write failed, the definitions' answer was given. Or
  -- memory for a symbol couldn't be allocated, before anything was read or written.
  abbrev pub AnswersAsDefined : Call R W → Type 0
  AnswersAsDefined call = call.new_reader.failed ≡ false → call.new_out.failed ≡ false →
      IfSome call.input (λ input. AnswersSpec call input ⊎ FailsForMemory call)

  -- `LeavesFlushed call`: if nothing was unflushed before, nothing is now; or the output has
  -- failed.
  abbrev pub LeavesFlushed : Call R W → Type 0
  LeavesFlushed call = call.old_out.unflushed ≡ false → call.new_out.failed ≡ false →
      call.new_out.unflushed ≡ false
