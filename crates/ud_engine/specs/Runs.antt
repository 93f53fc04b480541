-- Runs: the state of a run, and its end.
--
--   RepresentsSomeText e                       an engine was fed some text
--   InProgress e o read_old read_new old new   the engine was fed all that the reader gave
--   LagsOneRead o read_old read_new old new    the output lags by at most one read
--   EndsWith o given left old new result       the output fits the bytes read and the result
--   RunEnded .. result                         the output fits what the reader gave
--   RunFinished .. result                      all of this, and the outcome if nothing failed
--   Finished .. o reader reader' out out' result   the same with streams before and after
--   FinishesRun .. e .. result                 each run in progress is finished
--   ContinuesRun .. e f ..                     each run in progress goes on
--   ErrorMatchesStreams reader writer result   the result shows whether a stream failed
use Rattle.std.specs.Prelude.{◌≡◌, ◌⊎◌, ℕ, ◌+◌, ◌*◌, ◌-◌, List, ◌++◌, length, take, Bool, true}
use Rattle.std.specs.Prelude.{false, Option, Some, None, Result, Ok, Err, IfSome, OnOk}
use Rattle.std.specs.Io.KnownBytes.{Appends, Consumes, IsAtEnd}
use Rattle.ud_model.specs.text.Lines.{Line, lines_of}
use Rattle.ud_model.specs.text.Scans.{Reading}
use Rattle.ud_model.specs.sections.Tree.{Item, Tree}
use Rattle.ud_model.specs.sections.Items.{Options}
use Rattle.ud_model.specs.sections.Faults.{Fault}
use Rattle.ud_model.specs.answer.Printing.{piece_after, style_of}
use Rattle.ud_model.specs.answer.Outcomes.{Outcome, HasOutcome, HasOutcomeSoFar, HasNoFault}
use Rattle.ud_model.specs.answer.Outcomes.{lines_so_far, output_by}
use Rattle.ud_model.specs.declared.limits.TheConstants.{MAX_LINE_BYTES, MAX_LINES}
use Rattle.ud_text.specs.lines.LinesState.{LinesState}
use Rattle.ud_sections.specs.printing.Printers.{printer_represents, printer_piece}
use Rattle.ud_sections.specs.sections.SectionFaults.{fault_of}
use Rattle.ud_sections.specs.declared.printing.printer.Printer.{Printer}
use Rattle.ud_engine.specs.declared.fault.RunFault.{RunFault}
use Rattle.ud_engine.specs.declared.fault.RunFault.TheVariants.{Text, Section, Read, Write}
use Rattle.ud_engine.specs.declared.pump.TheConstants.{CHUNK_BYTES}
use Rattle.ud_engine.specs.Finishing.{RunAnswers}
use Rattle.ud_engine.specs.Feeding.{EngineState, EngineRepresents}
use Rattle.ud_text.specs.lines.LimitFaults.{limit_of}
use Rattle.ud_io.specs.Watched.{WatchedState, AppendsPrefix}

-- `all_but_last_chunk given`: `given` without its last `CHUNK_BYTES`, the most that one read gives.
abbrev pub all_but_last_chunk : List ℕ → List ℕ
all_but_last_chunk given = take (length given - CHUNK_BYTES) given

-- `LagsOneRead o read_old read_new old new`: the output begins with the output for all whole lines
-- before the last `CHUNK_BYTES` read. The bytes before it have no fault, as a text that goes on.
pub record LagsOneRead (o : Options) (read_old read_new old new : Option (List ℕ)) : Type 0 where
  pub given : List ℕ
  pub consumed : Consumes read_old read_new given
  pub outcome : Outcome
  pub runs : HasOutcomeSoFar o (all_but_last_chunk given) outcome
  pub right : outcome.fault ≡ None
  pub more : List ℕ
  pub appended : Appends old new (outcome.output ++ more)

-- `RepresentsSomeText e`: `e` was fed some text without a fault.
pub record RepresentsSomeText (e : EngineState Printer) : Type 0 where
  pub options : Options
  pub text : List ℕ
  pub printed : List ℕ
  pub fed : EngineRepresents printer_represents printer_piece e options
      (piece_after (style_of options.settings)) text printed

-- `InProgress e o read_old read_new old new`: since the run began, `e` was fed all bytes that the
-- reader gave, and the output for their whole lines was appended.
pub record InProgress (e : EngineState Printer) (o : Options)
    (read_old read_new old new : Option (List ℕ)) : Type 0 where
  pub given : List ℕ
  pub printed : List ℕ
  pub consumed : Consumes read_old read_new given
  pub fed : EngineRepresents printer_represents printer_piece e o
      (piece_after (style_of o.settings)) given printed
  pub appended : Appends old new printed

-- `bytes_to_limit lines`: at most this many bytes fit before a limit is met.
abbrev pub bytes_to_limit : LinesState → ℕ
bytes_to_limit lines = (MAX_LINE_BYTES + 1) * (MAX_LINES - lines.before) +
    (MAX_LINE_BYTES - length lines.held)

-- `PrintsSoFar o given old new`: `given`, as a text that goes on, has no fault. The output for its
-- whole lines was appended.
pub record PrintsSoFar (o : Options) (given : List ℕ) (old new : Option (List ℕ)) : Type 0 where
  pub outcome : Outcome
  pub runs : HasOutcomeSoFar o given outcome
  pub right : outcome.fault ≡ None
  pub appended : Appends old new outcome.output

-- `AppendsPrefixOfOutput o lines old new`: none of `lines` is faulty, and a prefix of their output
-- was appended.
pub record AppendsPrefixOfOutput (o : Options) (lines : List Line) (old new : Option (List ℕ)) :
    Type 0 where
  pub items : List (Item Reading)
  pub tree : Tree Reading
  pub goes : HasNoFault o lines items tree
  pub prefix : AppendsPrefix old new (output_by o.settings.listing o.settings items tree)

-- `Truncated o given left old new`: `AppendsPrefixOfOutput` for some first whole lines of `given`;
-- or for all lines, if nothing is left to read.
pub data Truncated (o : Options) (given : List ℕ) (left old new : Option (List ℕ)) : Type 0 where
  in_course : (lines later : List Line) → lines_so_far given ≡ lines ++ later →
      AppendsPrefixOfOutput o lines old new → Truncated o given left old new
  at_end : IsAtEnd left → AppendsPrefixOfOutput o (lines_of given) old new →
      Truncated o given left old new

-- `StoppedAtFault o given left old new f`: `given` has the fault `f`, as a text that goes on or, if
-- nothing is left to read, as a whole text. The output for the lines before it was appended.
pub record StoppedAtFault (o : Options) (given : List ℕ) (left old new : Option (List ℕ))
    (f : Fault) : Type 0 where
  pub outcome : Outcome
  pub runs : HasOutcomeSoFar o given outcome ⊎ (IsAtEnd left × HasOutcome o given outcome)
  pub fault : outcome.fault ≡ Some f
  pub appended : Appends old new outcome.output

-- `EndsWith o given left old new result`: the appended bytes fit the bytes read, `given`, and
-- `result`. After `Ok` all bytes are read, and all output is appended. After a fault of the text,
-- the output for the lines before it is appended; after `Read`, for the whole lines; after `Write`,
-- a prefix for some lines.
abbrev pub EndsWith : Options → List ℕ → Option (List ℕ) → Option (List ℕ) → Option (List ℕ) →
    Result Bool RunFault → Type 0
EndsWith o given left old new (Ok differs) = IsAtEnd left × RunAnswers o given old new (Ok differs)
EndsWith o given left old new (Err (Text f)) = StoppedAtFault o given left old new (limit_of f)
EndsWith o given left old new (Err (Section f)) = StoppedAtFault o given left old new (fault_of f)
EndsWith o given left old new (Err Read) = PrintsSoFar o given old new
EndsWith o given left old new (Err Write) = Truncated o given left old new

-- `RunEnded o read_old read_new old new result`: the reader gave some bytes, which satisfy
-- `EndsWith`.
pub record RunEnded (o : Options) (read_old read_new old new : Option (List ℕ))
    (result : Result Bool RunFault) : Type 0 where
  pub given : List ℕ
  pub consumed : Consumes read_old read_new given
  pub ends : EndsWith o given read_new old new result

-- `RunFinished o read_old read_new old new reader writer result`: `LagsOneRead` and `RunEnded`
-- since the run began. If no read and no write failed, `RunAnswers` for all bytes of the reader.
pub record RunFinished (o : Options) (read_old read_new old new : Option (List ℕ))
    (reader writer : Bool) (result : Result Bool RunFault) : Type 0 where
  pub ran : reader ≡ false → writer ≡ false →
      IfSome read_old (λ input. RunAnswers o input old new result)
  pub lag : LagsOneRead o read_old read_new old new
  pub ended : RunEnded o read_old read_new old new result

-- `Finished remaining contents o reader reader' out out' result`: `RunFinished` with these streams
-- before and after the run.
abbrev pub Finished : {R W : Type 0} → (R → Option (List ℕ)) → (W → Option (List ℕ)) → Options →
    WatchedState R → WatchedState R → WatchedState W → WatchedState W → Result Bool RunFault →
    Type 0
Finished remaining contents o reader reader' out out' result =
    RunFinished o (remaining reader.inner) (remaining reader'.inner) (contents out.inner)
    (contents out'.inner) reader'.failed out'.failed result

-- `FinishesRun remaining contents e reader reader' out out' result`: each run that was in progress
-- with the engine `e` is finished with `result` (`RunFinished`).
abbrev pub FinishesRun : {R W : Type 0} → (R → Option (List ℕ)) → (W → Option (List ℕ)) →
    EngineState Printer → WatchedState R → WatchedState R → WatchedState W → WatchedState W →
    Result Bool RunFault → Type 0
FinishesRun remaining contents e reader reader' out out' result =
    (o : Options) → (read written : Option (List ℕ)) →
    InProgress e o read (remaining reader.inner) written (contents out.inner) →
    RunFinished o read (remaining reader'.inner) written (contents out'.inner)
    reader'.failed out'.failed result

-- `ContinuesRun remaining contents e f reader reader' out out'`: each run that was in progress with
-- the engine `e` is in progress with `f`.
abbrev pub ContinuesRun : {R W : Type 0} → (R → Option (List ℕ)) → (W → Option (List ℕ)) →
    EngineState Printer → EngineState Printer → WatchedState R → WatchedState R →
    WatchedState W → WatchedState W → Type 0
ContinuesRun remaining contents e f reader reader' out out' =
    (o : Options) → (read written : Option (List ℕ)) →
    InProgress e o read (remaining reader.inner) written (contents out.inner) →
    InProgress f o read (remaining reader'.inner) written (contents out'.inner)

-- `ErrorMatchesStreams reader writer result`: `result` is `Read` exactly if a read has failed, and
-- `Write` exactly if a write has.
pub record ErrorMatchesStreams (reader writer : Bool) (result : Result Bool RunFault) : Type 0 where
  pub works : OnOk result ((reader ≡ false) × (writer ≡ false))
  pub read_fails : (reader ≡ true → result ≡ Err Read) × (result ≡ Err Read → reader ≡ true)
  pub write_fails : (writer ≡ true → result ≡ Err Write) × (result ≡ Err Write → writer ≡ true)
