-- The answer: the output, the message and the exit status for arguments and an input. All other
-- definitions meet here.
--
-- The arguments are parsed (CommandLine). The input is split into lines (Lines). Each line is
-- scanned (Scans), read as text or a directive (Directives) with its condition (Conditions), so the
-- lines have a tree (Tree). The tree is pruned (Pruning) and printed (Printing), or its names are
-- listed (Listing), up to the first fault (Faults, Outcomes).
use Rattle.std.specs.Prelude.{◌≡◌, ℕ, List, [], Bool, true, false, Option, Some, None}
use Rattle.ud_model.specs.answer.CommandLine.{UsageFault, usage_fault, options_of, display_name}
use Rattle.ud_model.specs.answer.CommandLine.{usage_message}
use Rattle.ud_model.specs.sections.Faults.{Fault}
use Rattle.ud_model.specs.answer.Messages.{message_of, out_of_memory}
use Rattle.ud_model.specs.answer.Outcomes.{Outcome, HasOutcome}
use Rattle.ud_model.specs.declared.settings.Settings.{Settings}
use Rattle.ud_model.specs.declared.settings.Listing.{Listing}
use Rattle.ud_model.specs.declared.settings.Listing.TheVariants.{Off, Names, Depths}
use Rattle.ud_model.specs.declared.settings.ExitMode.{ExitMode}
use Rattle.ud_model.specs.declared.settings.ExitMode.TheVariants.{Zero, One, Two}

-- The answer of a run: the bytes on the output, those on the error stream, and the exit status.
pub record Answer : Type 0 where
  pub output : List ℕ
  pub message : List ℕ
  pub status : ℕ

-- `status_by mode differs`: the status for a text without a fault, by whether some line differs.
abbrev pub status_by : ExitMode → Bool → ℕ
status_by Zero true = 1
status_by Zero false = 0
status_by One true = 0
status_by One false = 1
status_by Two d = 0

-- `status_under listing mode differs`: the status for a text without a fault. If names are listed,
-- it is 0 in every mode.
abbrev pub status_under : Listing → ExitMode → Bool → ℕ
status_under Off mode d = status_by mode d
status_under Names mode d = 0
status_under Depths mode d = 0

-- `status_of s differs fault`: the status of a run under the settings `s`, which is 2 after a
-- fault.
abbrev pub status_of : Settings → Bool → Option Fault → ℕ
status_of s d (Some f) = 2
status_of s d None = status_under s.listing s.exit_mode d

-- `message_or_none name fault`: the message of the fault of the input `name`, or no bytes if there
-- is none.
abbrev pub message_or_none : List ℕ → Option Fault → List ℕ
message_or_none name (Some f) = message_of name f
message_or_none name None = []

-- `usage_answer f`: the answer to arguments with the fault `f`. No input is read.
abbrev pub usage_answer : UsageFault → Answer
usage_answer f = record { output = []; message = usage_message f; status = 2 }

-- `run_answer s name r`: the answer of a run under the settings `s` over the input `name`, with the
-- outcome `r`.
abbrev pub run_answer : Settings → List ℕ → Outcome → Answer
run_answer s name r = record {
  output = r.output;
  message = message_or_none name r.fault;
  status =
      status_of s r.differs r.fault;
}

-- `IsAnswer args input a`: `a` is the answer to these arguments and this input: a message on the
-- first fault of the arguments, or the answer of the run.
pub data IsAnswer (args : List (List ℕ)) (input : List ℕ) : Answer → Type 0 where
  refused : (f : UsageFault) → usage_fault args ≡ Some f → IsAnswer args input (usage_answer f)
  ran : (r : Outcome) → usage_fault args ≡ None → HasOutcome (options_of args) input r →
      IsAnswer args input (run_answer (options_of args).settings (display_name args) r)

-- The answer if memory can't be allocated.
abbrev pub memory_answer : Answer
memory_answer = record { output = []; message = out_of_memory; status = 2 }
