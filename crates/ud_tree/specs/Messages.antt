-- Messages: what is written about faults to the error stream.
--
--   fault_line name text             the line with the fault `text` of a path
--   IsFailureOf name text message    that line, perhaps with a reason
--   locked_line name                 the line of a file that another run replaces
--   IsTextMessage name f message     the message of a fault of a file's text
--   IsMessageOf name e message       the message of the error of a file
--   IsTold name update told          that message if the file has an error, else nothing
--   list_message, write_message      the messages of the faults of the output
--   output_messages is_lost is_unwritten   those of them that a run has
--   TellsIf message faulty old new   a message was written, or nothing
--
-- `old` and `new` are the report before and after.
use Rattle.std.specs.Prelude.{◌≡◌, ◌⊎◌, ℕ, List, [], ◌∷◌, ◌++◌, Bool, Result}
use Rattle.std.specs.Prelude.{Ok, Err, codes, if◌then◌else◌}
use Rattle.unifdef.specs.RunMessages.{fault_message}
use Rattle.ud_engine.specs.declared.fault.RunFault.{RunFault}
use Rattle.ud_replace.specs.declared.error.Update.{Update}
use Rattle.ud_replace.specs.declared.error.ReplaceError.{ReplaceError}
use Rattle.ud_replace.specs.declared.error.ReplaceError.TheVariants.{Text, Read, OutOfMemory}
use Rattle.ud_replace.specs.declared.error.ReplaceError.TheVariants.{ReadOnly, SeveralLinks}
use Rattle.ud_replace.specs.declared.error.ReplaceError.TheVariants.{DirectoryDenied, HalfWritten}
use Rattle.ud_replace.specs.declared.error.ReplaceError.TheVariants.{ChangedMeanwhile, Locked}
use Rattle.ud_replace.specs.declared.error.ReplaceError.TheVariants.{Write, NotRenamed}
use Rattle.ud_tree.specs.Reports.{ReportState, Tells}
use Rattle.ud_tree.specs.Paths.{fresh_name}
use Rattle.ud_tree.specs.Summaries.{line_of}
use Rattle.ud_tree.specs.Visible.{visible}

-- `fault_line name text`: the line of the program with the fault `text` of the path `name`.
abbrev pub fault_line : List ℕ → List ℕ → List ℕ
fault_line name text = line_of (name ++ codes ": " ++ text)

-- `IsFailureOf name text message`: `message` is the line with the fault `text` of the path `name`.
-- The system's reason may follow `text`.
pub data IsFailureOf (name text message : List ℕ) : Type 0 where
  no_reason : message ≡ fault_line name text → IsFailureOf name text message
  with_reason : (reason : List ℕ) → message ≡ fault_line name (text ++ codes ": " ++ reason) →
      IsFailureOf name text message

-- `locked_line name`: the line of a file with another run's file beside it. It names that one.
abbrev pub locked_line : List ℕ → List ℕ
locked_line name = fault_line name (codes "Another run is at it; if none is, remove " ++
    fresh_name name)

-- `IsTextMessage name f message`: `message` is unifdef's message for the fault `f` of the file
-- `name`, with control characters of the name shown, unless memory ran out for that.
pub data IsTextMessage (name : List ℕ) (f : RunFault) (message : List ℕ) : Type 0 where
  is_visible : message ≡ fault_message (visible name) f → IsTextMessage name f message
  is_raw : message ≡ fault_message name f → IsTextMessage name f message

-- `IsMessageOf name e message`: `message` is the message of the error `e` of the file `name`. A
-- fault of its text has unifdef's message. If the new file wasn't renamed, the message says how to
-- write into the file, or that another program has changed something meanwhile.
abbrev pub IsMessageOf : List ℕ → ReplaceError → List ℕ → Type 0
IsMessageOf name (Text f) message = IsTextMessage name f message
IsMessageOf name Read message = IsFailureOf name (codes "Cannot be read") message
IsMessageOf name OutOfMemory message = message ≡ fault_line name (codes "Out of memory")
IsMessageOf name ReadOnly message = IsFailureOf name (codes "Cannot be written") message
IsMessageOf name SeveralLinks message =
    message ≡ fault_line name (codes "Has several links; -w writes into it")
IsMessageOf name DirectoryDenied message =
    message ≡ fault_line name (codes "Its directory can't be written; -w writes into the file")
IsMessageOf name ChangedMeanwhile message = message ≡ fault_line name (codes "Changed meanwhile")
IsMessageOf name Locked message = message ≡ locked_line name
IsMessageOf name Write message = IsFailureOf name (codes "Cannot be written") message
IsMessageOf name NotRenamed message =
    IsFailureOf name (codes "Cannot be replaced; -w writes into it") message ⊎
    (message ≡ fault_line name (codes "Changed meanwhile"))
IsMessageOf name HalfWritten message = IsFailureOf name (codes "Half written") message

-- `IsTold name update told`: `told` is the message of the error of the file `name`, or empty if it
-- has none.
abbrev pub IsTold : List ℕ → Result Update ReplaceError → List ℕ → Type 0
IsTold name (Ok u) told = told ≡ []
IsTold name (Err e) told = IsMessageOf name e told

-- `list_message`: the message if memory for a list couldn't be allocated.
abbrev pub list_message : List ℕ
list_message = fault_line (codes "stdout") (codes "Out of memory")

-- `write_message`: the message if the output couldn't be written.
abbrev pub write_message : List ℕ
write_message = fault_line (codes "stdout") (codes "Cannot be written")

-- `output_messages is_lost is_unwritten`: the messages of the faults of the output, by whether
-- memory for a list couldn't be allocated, and whether the output couldn't be written.
abbrev pub output_messages : Bool → Bool → List (List ℕ)
output_messages is_lost is_unwritten = (if is_lost then list_message ∷ [] else []) ++
    (if is_unwritten then write_message ∷ [] else [])

-- `TellsIf message faulty old new`: `message` was written if `faulty`, and else nothing.
abbrev pub TellsIf : List ℕ → Bool → ReportState → ReportState → Type 0
TellsIf message faulty old new = Tells old new (if faulty then message else [])
