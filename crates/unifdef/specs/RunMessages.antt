-- RunMessages: the message and the status of a run.
use Rattle.std.specs.Prelude.{ℕ, List, [], Bool, true, false, Result, Ok, Err}
use Rattle.ud_model.specs.answer.Messages.{message_of, read_error, write_error}
use Rattle.ud_model.specs.answer.Answer.{status_under}
use Rattle.ud_model.specs.declared.settings.Settings.{Settings}
use Rattle.ud_text.specs.lines.LimitFaults.{limit_of}
use Rattle.ud_sections.specs.sections.SectionFaults.{fault_of}
use Rattle.ud_engine.specs.declared.fault.RunFault.{RunFault}
use Rattle.ud_engine.specs.declared.fault.RunFault.TheVariants.{Text, Section, Read, Write}

-- `final_result ran flushed`: the result of a run that returned `ran`, after the flush of its
-- output. A failed flush is a failed write, unless there is a fault already.
abbrev pub final_result : Result Bool RunFault → Bool → Result Bool RunFault
final_result (Ok differs) true = Ok differs
final_result (Ok differs) false = Err Write
final_result (Err f) flushed = Err f

-- `fault_message name f`: the message of the fault `f` in the input with this name.
abbrev pub fault_message : List ℕ → RunFault → List ℕ
fault_message name (Text f) = message_of name (limit_of f)
fault_message name (Section f) = message_of name (fault_of f)
fault_message name Read = read_error name
fault_message name Write = write_error name

-- `result_message name e`: the message of the result `e`, which is empty if the run ended well.
abbrev pub result_message : List ℕ → Result Bool RunFault → List ℕ
result_message name (Ok differs) = []
result_message name (Err f) = fault_message name f

-- `result_status s e`: the exit status of the result `e` under the settings `s`.
abbrev pub result_status : Settings → Result Bool RunFault → ℕ
result_status s (Ok differs) = status_under s.listing s.exit_mode differs
result_status s (Err f) = 2
