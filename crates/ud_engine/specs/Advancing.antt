-- Advancing: one step through a chunk.
--
--   slice_between piece from at    the bytes between two positions of a chunk
--   IsCursor room lines piece r    a cursor in a chunk
--   measure piece r                how much there is left to do
--   EngineAdvances .. bytes ..     a step took these bytes
--   StepFails .. f                 the next line is faulty
--   ConsumesBytes .. used          an engine took bytes, and is a new one after that
--   StopsIn s rest f               the next line of an engine in this session is faulty
--   ConsumesOrStops .. r           either of these, in each session
--   ConsumesBetween .. next        an engine took the bytes between two cursors
--   AdvancesOrStops .. result      `ConsumesBetween`, or its next line is faulty, in each session
--   IsNext room lines piece at n   a cursor after another one
--   IsPart room lines rest used    the first bytes of `rest` are taken
--   IsStep e f out out' result     the output and the recorded fault after a step
use Rattle.std.specs.Prelude.{ℕ, ◌+◌, ◌-◌, ◌<◌, ◌≤◌, List, ◌++◌, length, take, drop, if◌then◌else◌}
use Rattle.std.specs.Prelude.{◌≡◌, Option, Result, MatchResult, IfErr}
use Rattle.ud_model.specs.sections.Items.{Options}
use Rattle.ud_model.specs.answer.Printing.{Judged}
use Rattle.ud_text.specs.lines.LinesState.{LinesState, HasCapacity}
use Rattle.ud_text.specs.lines.Consuming.{CanConsume}
use Rattle.ud_sections.specs.sections.SectionFaults.{fault_of}
use Rattle.ud_engine.specs.declared.engine.Cursor.{Cursor}
use Rattle.ud_engine.specs.declared.fault.RunFault.{RunFault}
use Rattle.ud_engine.specs.declared.fault.RunFault.TheVariants.{Text, Section, Read, Write}
use Rattle.ud_engine.specs.Feeding.{EngineState, EngineRepresentsBuffered, FaultsAfter}
use Rattle.ud_engine.specs.Feeding.{Session, IsBufferedIn}
use Rattle.ud_engine.specs.FaultEffects.{OutputUnchanged}
use Rattle.ud_text.specs.lines.LimitFaults.{limit_of}
use Rattle.ud_io.specs.Streams.{Stream, stream_of, TakesAllBut}
use Rattle.ud_io.specs.Watched.{WatchedState}

-- `slice_between piece from at`: the bytes of `piece` from the position `from` up to `at`.
abbrev pub slice_between : List ℕ → ℕ → ℕ → List ℕ
slice_between piece from at = take (at - from) (drop from piece)

-- `IsCursor room lines piece r`: the chunk `piece` is processed up to `r.pos`, and its bytes from
-- `r.pending_start` on are pending. Its bytes up to `r.whole_end`, if that is further, are whole
-- lines that can be consumed. The rest of the chunk fits.
pub record IsCursor (room : ℕ) (lines : LinesState) (piece : List ℕ) (r : Cursor) : Type 0 where
  pub from : r.pending_start ≤ r.pos
  pub at : r.pos ≤ length piece
  pub whole : r.whole_end ≤ length piece
  pub ready : r.pos < r.whole_end → CanConsume lines (slice_between piece r.pos r.whole_end)
  pub fits : HasCapacity room lines (length piece - r.pos)

-- `measure piece r`: falls with each step, by bytes consumed or by an attempt to skip text.
abbrev pub measure : List ℕ → Cursor → ℕ
measure piece r = (length piece - r.pos) + (length piece - r.pos) + (if r.bulk_tried then 0 else 1)

-- `EngineAdvances .. e o piece text printed bytes old new pending left`: a step took `bytes`, which
-- follow `text`. `pending` and the output for `bytes` were appended, except `left`, which is now
-- pending.
pub record EngineAdvances {S : Type 0} (represents : S → List Judged → Type 0) (piece_of : S →
    List Judged →
    Judged → List ℕ) (e : EngineState S) (o : Options)
    (piece : List Judged → Judged →
    List ℕ) (text printed : List ℕ) (bytes : List ℕ) (old new : Stream)
    (pending left : List ℕ) : Type 0 where
  pub more : List ℕ
  pub taken : EngineRepresentsBuffered represents piece_of e o piece (text ++ bytes) (printed ++
      more)
  pub sent : TakesAllBut old new (pending ++ more) left

-- `StepFails o piece longer printed f`: the next line of `longer` has the fault `f`, and nothing is
-- printed for it.
abbrev pub StepFails : Options → (List Judged → Judged → List ℕ) → List ℕ → List ℕ → RunFault →
    Type 0
StepFails o piece longer printed (Text f) = FaultsAfter o piece longer printed (limit_of f)
StepFails o piece longer printed (Section f) = FaultsAfter o piece longer printed (fault_of f)
StepFails o piece longer printed Read = ⊥
StepFails o piece longer printed Write = ⊥

-- `ConsumesBytes .. e f s rest pending old new used`: the engine `e` in the session `s` took the
-- first `used` bytes of `rest`, and is `f` after that. Before the output for them, `pending` is
-- appended.
abbrev pub ConsumesBytes : {S : Type 0} → (S → List Judged → Type 0) → (S → List Judged → Judged →
    List ℕ) → EngineState S → EngineState S → Session → List ℕ → List ℕ → Stream → Stream → ℕ →
    Type 0
ConsumesBytes represents piece_of e f s rest pending old new used =
    EngineAdvances represents piece_of f s.options s.pieces s.text s.printed (take used rest) old
    new
    (e.buffered ++ pending) f.buffered

-- `StopsIn s rest f`: the next line of `rest` has the fault `f`, for an engine in the session `s`.
abbrev pub StopsIn : Session → List ℕ → RunFault → Type 0
StopsIn s rest f = StepFails s.options s.pieces (s.text ++ rest) s.printed f

-- `ConsumesOrStops .. contents e f rest pending out out' result`: in each session of `e`, it took
-- bytes of `rest` (`ConsumesBytes`); or the next line is faulty (`StopsIn`).
abbrev pub ConsumesOrStops : {S W : Type 0} → (S → List Judged → Type 0) → (S → List Judged →
    Judged →
    List ℕ) → (W → Option (List ℕ)) → EngineState S → EngineState S → List ℕ → List ℕ →
    WatchedState W → WatchedState W → Result ℕ RunFault → Type 0
ConsumesOrStops represents piece_of contents e f rest pending out out' result =
    (s : Session) → IsBufferedIn represents piece_of e s → MatchResult result
    (ConsumesBytes represents piece_of e f s rest pending (stream_of contents out)
    (stream_of contents out'))
    (StopsIn s rest)

-- `ConsumesBetween .. e f s piece at old new next`: the engine `e` in the session `s` took the
-- bytes of the chunk `piece` from the cursor `at` to the cursor `next`, and is `f` after that.
abbrev pub ConsumesBetween : {S : Type 0} → (S → List Judged → Type 0) → (S → List Judged → Judged →
    List ℕ) → EngineState S → EngineState S → Session → List ℕ → Cursor → Stream → Stream →
    Cursor → Type 0
ConsumesBetween represents piece_of e f s piece at old new next =
    EngineAdvances represents piece_of f s.options s.pieces s.text s.printed
    (slice_between piece at.pos next.pos) old new
    (e.buffered ++ slice_between piece at.pending_start at.pos)
    (f.buffered ++ slice_between piece next.pending_start next.pos)

-- `AdvancesOrStops .. contents e f piece at next out out' result`: in each session of `e`, it took
-- the bytes from the cursor `at` to the cursor `next` (`ConsumesBetween`); or the line after `at`
-- is faulty (`StopsIn`).
abbrev pub AdvancesOrStops : {S W T : Type 0} → (S → List Judged → Type 0) → (S → List Judged →
    Judged →
    List ℕ) → (W → Option (List ℕ)) → EngineState S → EngineState S → List ℕ → Cursor → Cursor →
    WatchedState W → WatchedState W → Result T RunFault → Type 0
AdvancesOrStops represents piece_of contents e f piece at next out out' result =
    (s : Session) → IsBufferedIn represents piece_of e s → MatchResult result
    (λ _. ConsumesBetween represents piece_of e f s piece at (stream_of contents out)
    (stream_of contents out') next)
    (StopsIn s (drop at.pos piece))

-- `IsNext room lines piece at next`: `next` is a cursor in `piece`, not before `at`, with less left
-- to do after it.
pub record IsNext (room : ℕ) (lines : LinesState) (piece : List ℕ) (at next : Cursor) : Type 0 where
  pub cursor : IsCursor room lines piece next
  pub forward : at.pos ≤ next.pos
  pub less : measure piece next < measure piece at

-- `IsPart room lines rest used`: the first `used` bytes of `rest` were taken, at least one. The
-- rest fits.
pub record IsPart (room : ℕ) (lines : LinesState) (rest : List ℕ) (used : ℕ) : Type 0 where
  pub some : 0 < used
  pub within : used ≤ length rest
  pub fits : HasCapacity room lines (length rest - used)

-- `IsStep e f out out' result`: a step from the engine `e` to `f` records no fault. An error leaves
-- the output unchanged.
pub record IsStep {S W T : Type 0} (e f : EngineState S) (out out' : WatchedState W)
    (result : Result T RunFault) : Type 0 where
  pub output_unchanged : IfErr result (OutputUnchanged out out' e.buffered f.buffered)
  pub fault_unchanged : f.fault ≡ e.fault
