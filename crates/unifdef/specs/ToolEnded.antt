-- ToolEnded: how the tool ended, whatever failed.
use Rattle.std.specs.Prelude.{◌≡◌, ◌⊎◌, Bool, true, false, not, ◌||◌, None, Result, Ok, Err}
use Rattle.ud_model.specs.answer.CommandLine.{options_of, display_name, usage_fault}
use Rattle.ud_engine.specs.declared.fault.RunFault.{RunFault}
use Rattle.ud_engine.specs.declared.fault.RunFault.TheVariants.{Text, Section, Read, Write}
use Rattle.ud_engine.specs.Runs.{RunEnded, LagsOneRead}
use Rattle.ud_io.specs.Watched.{AppendsAllOrPrefix}
use Rattle.unifdef.specs.RunMessages.{final_result, result_message, result_status}
use Rattle.unifdef.specs.ToolCall.{Call}
use Rattle.unifdef.specs.ToolAnswer.{FailsForMemory, RefusesFaultyArgs}

-- `is_read_error r`: the run returned `r` because a read failed.
abbrev pub is_read_error : Result Bool RunFault → Bool
is_read_error (Ok differs) = false
is_read_error (Err (Text f)) = false
is_read_error (Err (Section f)) = false
is_read_error (Err Read) = true
is_read_error (Err Write) = false

-- `is_write_error r`: the run returned `r` because a write failed.
abbrev pub is_write_error : Result Bool RunFault → Bool
is_write_error (Ok differs) = false
is_write_error (Err (Text f)) = false
is_write_error (Err (Section f)) = false
is_write_error (Err Read) = false
is_write_error (Err Write) = true

module _ {R W : Type 0} where
  -- `ToolEnded call`: a run ended with `ran`, and then its output was flushed, or the flush failed.
  -- A failed flush is a failed write if the run had no fault, and changes nothing else. The reader
  -- has failed if a read did, and the output if a write or the flush did. Message and status report
  -- this end.
  pub record ToolEnded (call : Call R W) : Type 0 where
    pub ran : Result Bool RunFault
    pub flushed : Bool
    pub ended : RunEnded (options_of call.args) call.input call.rest call.old_output
        call.new_output ran
    pub read_failed : call.new_reader.failed ≡ is_read_error ran
    pub write_failed : call.new_out.failed ≡ (is_write_error ran || not flushed)
    pub reported : AppendsAllOrPrefix call.err_failed call.old_message call.new_message
        (result_message (display_name call.args) (final_result ran flushed))
    pub answered : call.status ≡
        result_status (options_of call.args).settings (final_result ran flushed)

  -- `EndsAsRun call`: however the run ends, and whether or not the streams report their contents,
  -- the output matches what was read, and the message and the status match why the run ended. Or
  -- memory for a symbol couldn't be allocated.
  abbrev pub EndsAsRun : Call R W → Type 0
  EndsAsRun call = usage_fault call.args ≡ None → ToolEnded call ⊎ FailsForMemory call

  -- `LagsAsRun call`: however the run ends, the output for all lines before the last read is
  -- written. Or memory for a symbol couldn't be allocated.
  abbrev pub LagsAsRun : Call R W → Type 0
  LagsAsRun call = usage_fault call.args ≡ None →
      LagsOneRead (options_of call.args) call.input call.rest call.old_output call.new_output
      ⊎ FailsForMemory call

  -- `CallEnds call`: what the contract of `tool` says about how a call ends. Before the call, no
  -- stream had failed.
  pub record CallEnds (call : Call R W) : Type 0 where
    pub reader_worked : call.old_reader.failed ≡ false
    pub out_worked : call.old_out.failed ≡ false
    pub usage : RefusesFaultyArgs call
    pub ended : EndsAsRun call
