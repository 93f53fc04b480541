-- Waiting: bytes read that wait to be fed with the rest of their line.
use Rattle.std.specs.Prelude.{◌≡◌, ◌⊎◌, ◌<◌, ◌≤◌, ℕ, List, [], length, Bool, Option, Result, Err}
use Rattle.std.specs.Io.KnownBytes.{IsAtEnd, prepend_known}
use Rattle.ud_model.specs.text.Lines.{NoNewline}
use Rattle.ud_model.specs.sections.Items.{Options}
use Rattle.ud_model.specs.declared.limits.TheConstants.{MAX_LINES}
use Rattle.ud_text.specs.lines.LinesState.{LinesState}
use Rattle.ud_sections.specs.declared.printing.printer.Printer.{Printer}
use Rattle.ud_engine.specs.declared.fault.RunFault.{RunFault}
use Rattle.ud_io.specs.Watched.{WatchedState}
use Rattle.ud_engine.specs.declared.pump.TheConstants.{CHUNK_BYTES}
use Rattle.ud_engine.specs.Feeding.{EngineState}
use Rattle.ud_engine.specs.Runs.{InProgress, RunFinished, bytes_to_limit}

-- `IsWaiting lines bytes`: `bytes` have no newline, and fit in one read. If any, they begin the
-- line after `lines`, which the text may have.
pub record IsWaiting (lines : LinesState) (bytes : List ℕ) : Type 0 where
  pub no_newline : NoNewline bytes
  pub short : length bytes ≤ CHUNK_BYTES
  pub begins : 0 < length bytes → (lines.held ≡ []) × (lines.before < MAX_LINES)

-- `IsFurther old new end left`: fewer bytes fit below the limits; or none was fed, and all `end`
-- bytes are left.
abbrev pub IsFurther : LinesState → LinesState → ℕ → ℕ → Type 0
IsFurther old new end left = (bytes_to_limit new < bytes_to_limit old)
    ⊎ ((bytes_to_limit new ≤ bytes_to_limit old) × (left ≡ end))

-- `FeedsAllBut contents e f bytes left out out'`: a run in progress with the engine `e` had also
-- read `bytes`. It is now in progress with `f`, and has also read `left`.
abbrev pub FeedsAllBut : {W : Type 0} → (W → Option (List ℕ)) → EngineState Printer →
    EngineState Printer → List ℕ → List ℕ → WatchedState W → WatchedState W → Type 0
FeedsAllBut contents e f bytes left out out' =
    (o : Options) → (read rest written : Option (List ℕ)) →
    InProgress e o read (prepend_known bytes rest) written (contents out.inner) →
    InProgress f o read (prepend_known left rest) written (contents out'.inner)

-- `StopsRun contents e bytes out out' f`: a run in progress with the engine `e` that had also read
-- `bytes` is finished with the fault `f`.
abbrev pub StopsRun : {W : Type 0} → (W → Option (List ℕ)) → EngineState Printer → List ℕ →
    WatchedState W → WatchedState W → RunFault → Type 0
StopsRun contents e bytes out out' f =
    (o : Options) → (read rest written : Option (List ℕ)) → (reader : Bool) →
    InProgress e o read (prepend_known bytes rest) written (contents out.inner) →
    RunFinished o read rest written (contents out'.inner) reader out'.failed (Err f)

-- `EndsRun contents e bytes out out' result`: a run in progress with the engine `e` that had also
-- read `bytes`, the last ones, is finished with `result`.
abbrev pub EndsRun : {W : Type 0} → (W → Option (List ℕ)) → EngineState Printer → List ℕ →
    WatchedState W → WatchedState W → Result Bool RunFault → Type 0
EndsRun contents e bytes out out' result =
    (o : Options) → (read rest written : Option (List ℕ)) → (reader : Bool) → IsAtEnd rest →
    InProgress e o read (prepend_known bytes rest) written (contents out.inner) →
    RunFinished o read rest written (contents out'.inner) reader out'.failed result
