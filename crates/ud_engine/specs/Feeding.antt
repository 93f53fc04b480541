-- Feeding: the state of an engine, and the text that it was fed.
--
--   EngineState S                                        the view of an engine
--   IsOpen lines                                         more bytes can be taken
--   EngineRepresentsBuffered .. e o piece text printed   an engine took this text
--   EngineRepresents .. e o piece text printed           the same, and all output is written
--   Session                                              what an engine was fed and has printed
--   Begins .. show settings symbols s                    a session before the first byte
--   IsInSession .. e s                                   an engine was fed and has printed this
--   IsBufferedIn .. e s                                  the same, but some output may be pending
--   longer s bytes more                                  a session after more bytes
--   Continues .. e o piece longer printed old new        the next chunk was fed
--   FeedFails .. old new longer printed f                feeding the next chunk failed
--   Feeds .. e s chunk failed old new result             the next chunk was fed, or feeding failed
--   FeedsChunk .. e f chunk out out' result              the same, in each session
--   WriterMatches failed result                          the error is `Write` if the writer failed
--   RecordsFault fault result                            the fault that an engine records
use Rattle.std.specs.Prelude.{◌≡◌, ℕ, ◌<◌, ◌≤◌, List, [], ◌++◌, length, Bool, true, false, Option}
use Rattle.std.specs.Prelude.{Some, None, Result, Ok, Err}
use Rattle.std.specs.Io.KnownBytes.{Appends}
use Rattle.ud_model.specs.text.Lines.{Line, NoNewline, partial_line}
use Rattle.ud_model.specs.text.Scans.{Reading}
use Rattle.ud_model.specs.conditions.Table.{Argument}
use Rattle.ud_model.specs.sections.Tree.{Item, Tree, depth}
use Rattle.ud_model.specs.sections.Items.{Options}
use Rattle.ud_model.specs.sections.Faults.{Fault}
use Rattle.ud_model.specs.answer.Printing.{Judged}
use Rattle.ud_model.specs.answer.Outcomes.{HasNoFault, ReadsSoFar, lines_so_far}
use Rattle.ud_model.specs.declared.settings.Settings.{Settings}
use Rattle.ud_model.specs.declared.settings.Listing.TheVariants.{Off}
use Rattle.ud_model.specs.declared.limits.TheConstants.{MAX_LINE_BYTES, MAX_LINES, MAX_DEPTH}
use Rattle.ud_cond.specs.symbols.SymbolTable.{TableRepresents}
use Rattle.ud_text.specs.lines.LinesState.{LinesState, LinesRepresent}
use Rattle.ud_text.specs.lines.LimitFaults.{limit_of}
use Rattle.ud_sections.specs.sections.SectionFaults.{fault_of}
use Rattle.ud_engine.specs.declared.fault.RunFault.{RunFault}
use Rattle.ud_engine.specs.declared.fault.RunFault.TheVariants.{Text, Section, Read, Write}
use Rattle.ud_engine.specs.declared.line_processor.LineProcessor.{LineProcessor}
use Rattle.ud_engine.specs.ProcessedLines.{ProcessorRepresents, text_by}
use Rattle.ud_io.specs.Watched.{WatchedState, AppendsPrefix}

-- `EngineState S`: the symbols, the line buffer, the processor, which prints by an `S`, the pending
-- output, and the fault after which the engine is fused.
pub record EngineState (S : Type 0) : Type 0 where
  pub symbols : List Argument
  pub lines : LinesState
  pub printer : LineProcessor S
  pub buffered : List ℕ
  pub fault : Option RunFault

-- `IsOpen lines`: more bytes can be taken. No whole line is buffered, and the text goes on.
pub record IsOpen (lines : LinesState) : Type 0 where
  pub part : lines.whole ≡ false
  pub goes_on : lines.closed ≡ false
  pub limit : lines.last_line ≡ MAX_LINES
  pub short : length lines.held ≤ MAX_LINE_BYTES
  pub no_newline : NoNewline lines.held

-- `EngineRepresentsBuffered .. e o piece text printed`: `e` took `text`, none of whose lines is
-- faulty. `printed` is the output for its whole lines, some of it perhaps pending.
pub record EngineRepresentsBuffered {S : Type 0} (represents : S → List Judged →
    Type 0) (piece_of : S →
    List Judged → Judged → List ℕ) (e : EngineState S) (o : Options)
    (piece : List Judged → Judged → List ℕ) (text printed : List ℕ) : Type 0 where
  pub items : List (Item Reading)
  pub tree : Tree Reading
  pub goes : HasNoFault o (lines_so_far text) items tree
  pub has : ProcessorRepresents represents piece_of e.printer o piece items tree
  pub printed_is : printed ≡ text_by o.settings.listing piece items tree
  pub symbols : TableRepresents e.symbols o.table
  pub opened : IsOpen e.lines
  pub took : LinesRepresent e.lines text
  pub no_fault : e.lines.fault ≡ None
  pub begun : 0 < length e.lines.held → e.lines.before < MAX_LINES
  pub count : e.lines.before ≤ MAX_LINES

-- `EngineRepresents .. e o piece text printed`: `EngineRepresentsBuffered`, no fault occurred, and
-- nothing is pending.
pub record EngineRepresents {S : Type 0} (represents : S → List Judged → Type 0) (piece_of : S →
    List Judged → Judged → List ℕ) (e : EngineState S) (o : Options)
    (piece : List Judged → Judged → List ℕ) (text printed : List ℕ) : Type 0 where
  pub taken : EngineRepresentsBuffered represents piece_of e o piece text printed
  pub works : e.fault ≡ None
  pub written : e.buffered ≡ []

-- `Session`: the options and the printer's pieces of an engine, all bytes that it was fed, and the
-- output for their whole lines.
pub record Session : Type 0 where
  pub options : Options
  pub pieces : List Judged → Judged → List ℕ
  pub text : List ℕ
  pub printed : List ℕ

-- `Begins .. show settings symbols s`: `s` is the session of an engine before the first byte, with
-- these settings and symbols, which prints by `show`. `show` has printed no line yet, unless names
-- are listed.
pub record Begins {S : Type 0} (represents : S → List Judged → Type 0) (piece_of : S →
    List Judged → Judged → List ℕ) (show : S) (settings : Settings) (symbols : List Argument)
    (s : Session) : Type 0 where
  pub settings_are : s.options.settings ≡ settings
  pub symbols_are : TableRepresents symbols s.options.table
  pub show_is_new : s.options.settings.listing ≡ Off → represents show []
  pub pieces_are : (before : List Judged) → (j : Judged) →
      piece_of show before j ≡ s.pieces before j
  pub no_text : s.text ≡ []
  pub no_output : s.printed ≡ []

-- `IsInSession .. e s`: `e` was fed and has printed what `s` records.
abbrev pub IsInSession : {S : Type 0} → (S → List Judged → Type 0) → (S → List Judged → Judged →
    List ℕ) → EngineState S → Session → Type 0
IsInSession represents piece_of e s =
    EngineRepresents represents piece_of e s.options s.pieces s.text s.printed

-- `IsBufferedIn .. e s`: `IsInSession`, but some of the output may be pending.
abbrev pub IsBufferedIn : {S : Type 0} → (S → List Judged → Type 0) → (S → List Judged → Judged →
    List ℕ) → EngineState S → Session → Type 0
IsBufferedIn represents piece_of e s =
    EngineRepresentsBuffered represents piece_of e s.options s.pieces s.text s.printed

-- `longer s bytes more`: the session after `bytes` were fed, and `more` was printed for them.
abbrev pub longer : Session → List ℕ → List ℕ → Session
longer s bytes more =
    record s { text = s.text ++ bytes; printed = s.printed ++ more }

-- `Continues .. e o piece longer printed old new`: `e` was fed `longer`, and the output for its
-- lines after `printed` was appended. The text has no fault so far. Its last, unfinished line and
-- its open sections are within the limits.
pub record Continues {S : Type 0} (represents : S → List Judged → Type 0) (piece_of : S →
    List Judged →
    Judged → List ℕ) (e : EngineState S) (o : Options)
    (piece : List Judged → Judged →
    List ℕ) (longer printed : List ℕ) (old new : Option (List ℕ)) : Type 0 where
  pub more : List ℕ
  pub fed : EngineRepresents represents piece_of e o piece longer (printed ++ more)
  pub appended : Appends old new more
  pub right : ReadsSoFar o longer fed.taken.items fed.taken.tree None
  pub one_line : length (partial_line longer) ≤ MAX_LINE_BYTES
  pub few_sections : depth fed.taken.tree ≤ MAX_DEPTH

-- `FaultsAfter o piece longer printed f`: `longer`, as a text that goes on, has the fault `f`.
-- `printed` is the output for the lines before it.
pub record FaultsAfter (o : Options) (piece : List Judged → Judged →
    List ℕ) (longer printed : List ℕ) (f : Fault) : Type 0 where
  pub items : List (Item Reading)
  pub tree : Tree Reading
  pub reads : ReadsSoFar o longer items tree (Some f)
  pub printed_is : printed ≡ text_by o.settings.listing piece items tree

-- `PrintsPrefix o piece longer printed`: `printed` is the output for some first lines of `longer`,
-- as a text that goes on, none of them faulty.
pub record PrintsPrefix (o : Options) (piece : List Judged → Judged →
    List ℕ) (longer printed : List ℕ) : Type 0 where
  pub items : List (Item Reading)
  pub tree : Tree Reading
  pub lines : List Line
  pub later : List Line
  pub are : lines_so_far longer ≡ lines ++ later
  pub goes : HasNoFault o lines items tree
  pub printed_is : printed ≡ text_by o.settings.listing piece items tree

-- `FeedFails o piece failed old new longer printed f`: feeding failed with `f`. At a faulty line,
-- exactly the output for the lines before it is written. At a failed write, a prefix of the output
-- for some first lines is written.
abbrev pub FeedFails : Options → (List Judged → Judged → List ℕ) → Bool → Option (List ℕ) →
    Option (List ℕ) → List ℕ → List ℕ → RunFault → Type 0
FeedFails o piece failed old new longer printed (Text f) =
    (failed ≡ false) × ((more : List ℕ) ×
    FaultsAfter o piece longer (printed ++ more) (limit_of f) × Appends old new more)
FeedFails o piece failed old new longer printed (Section f) =
    (failed ≡ false) × ((more : List ℕ) ×
    FaultsAfter o piece longer (printed ++ more) (fault_of f) × Appends old new more)
FeedFails o piece failed old new longer printed Read = ⊥
FeedFails o piece failed old new longer printed Write =
    (failed ≡ true) × ((more : List ℕ) × PrintsPrefix o piece longer (printed ++ more) ×
    AppendsPrefix old new more)

-- `ErrorMatchesWriter failed f`: `f` is `Write` exactly if the writer has failed, and never `Read`.
abbrev pub ErrorMatchesWriter : Bool → RunFault → Type 0
ErrorMatchesWriter failed (Text f) = failed ≡ false
ErrorMatchesWriter failed (Section f) = failed ≡ false
ErrorMatchesWriter failed Read = ⊥
ErrorMatchesWriter failed Write = failed ≡ true

-- `Feeds .. e s chunk failed old new result`: an engine in the session `s` was fed `chunk`, and is
-- then `e`; or feeding failed.
abbrev pub Feeds : {S T : Type 0} → (S → List Judged → Type 0) → (S → List Judged → Judged →
    List ℕ) → EngineState S → Session → List ℕ → Bool → Option (List ℕ) → Option (List ℕ) →
    Result T RunFault → Type 0
Feeds represents piece_of e s chunk failed old new (Ok done) =
    Continues represents piece_of e s.options s.pieces (s.text ++ chunk) s.printed old new
Feeds represents piece_of e s chunk failed old new (Err f) =
    FeedFails s.options s.pieces failed old new (s.text ++ chunk) s.printed f

-- `FeedsChunk .. contents e f chunk out out' result`: in each session of `e`, it was fed `chunk`,
-- and is then `f`; or feeding failed (`Feeds`).
abbrev pub FeedsChunk : {S W T : Type 0} → (S → List Judged → Type 0) → (S → List Judged →
    Judged → List ℕ) → (W → Option (List ℕ)) → EngineState S → EngineState S → List ℕ →
    WatchedState W → WatchedState W → Result T RunFault → Type 0
FeedsChunk represents piece_of contents e f chunk out out' result =
    (s : Session) → IsInSession represents piece_of e s → Feeds represents piece_of f s chunk
    out'.failed (contents out.inner) (contents out'.inner) result

-- `WriterMatches failed result`: after `Ok` the writer hasn't failed, and an error satisfies
-- `ErrorMatchesWriter`.
abbrev pub WriterMatches : {T : Type 0} → Bool → Result T RunFault → Type 0
WriterMatches failed (Ok value) = failed ≡ false
WriterMatches failed (Err f) = ErrorMatchesWriter failed f

-- `RecordsFault fault result`: `fault` is the error, if any.
abbrev pub RecordsFault : {T : Type 0} → Option RunFault → Result T RunFault → Type 0
RecordsFault fault (Ok value) = fault ≡ None
RecordsFault fault (Err f) = fault ≡ Some f
