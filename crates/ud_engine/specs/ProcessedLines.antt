-- ProcessedLines: the output for lines, and the state of a line processor.
--
--   text_by listing piece xs t                           the output for these items
--   differs_in listing piece xs t                        some line's output differs from the line
--   ProcessorRepresents stands piece_of p o piece xs t   a processor has read these items
--   BeginsLines .. settings show p                       a processor before the first line
--   HasEndFault .. p fault                               the fault if the text ends here
--   HasDifference .. p differs                           whether some line that it read differs
--   PrintsMore o piece xs t l tree more                  the output for this line
--   IsAppended put old new ..                            the output for a line was appended
--   ShowsLine put old new ..                             the same, if it differs from the line
--   ShowsNext .. show j pending ..                       a printer's piece of the next line
--   IsLeftOf left ending                                 the output is nothing or the ending
--   PrintsLine .. l put ..                               a processor has also printed this line
--   printed_of passed bytes                              the output for skipped text
--   PrintsBulk .. ls more                                a processor has also printed these lines
--   PrintsText .. p q lines bytes more                   the same for any items
--   PrintsNext .. p q l ..                               it printed this line, or it is faulty
use Rattle.std.specs.Prelude.{◌≡◌, ◌⊎◌, ℕ, suc, List, [], ◌∷◌, ◌++◌, take, map, Bool, true, false}
use Rattle.std.specs.Prelude.{not, bytes_eq, if◌then◌else◌, Option, Some, None, Result, MatchResult}
use Rattle.std.specs.List.{concat}
use Rattle.ud_model.specs.text.Lines.{Line, text_of, whole_lines, numbered_from}
use Rattle.ud_model.specs.text.Scans.{Reading}
use Rattle.ud_model.specs.conditions.Table.{Argument}
use Rattle.ud_model.specs.sections.Tree.{Item, Tree, closed, nothing}
use Rattle.ud_model.specs.sections.Pruning.{marks}
use Rattle.ud_model.specs.sections.Items.{Options, line_of, next_item}
use Rattle.ud_model.specs.sections.Faults.{Fault, FaultOf, end_fault}
use Rattle.ud_model.specs.answer.Printing.{Judged, judged_lines, pieces_by, some_other}
use Rattle.ud_model.specs.answer.Listing.{levels, listed}
use Rattle.ud_model.specs.declared.settings.Settings.{Settings}
use Rattle.ud_model.specs.declared.settings.Listing.{Listing}
use Rattle.ud_model.specs.declared.settings.Listing.TheVariants.{Off, Names, Depths}
use Rattle.ud_cond.specs.symbols.SymbolTable.{TableRepresents}
use Rattle.ud_text.specs.lines.LinesState.{LinesState}
use Rattle.ud_sections.specs.sections.SectionFaults.{fault_of}
use Rattle.ud_sections.specs.declared.sections.fault.SectionFault.{SectionFault}
use Rattle.ud_engine.specs.declared.line_processor.LineProcessor.{LineProcessor}
use Rattle.ud_engine.specs.declared.line_processor.SkippedText.{SkippedText}
use Rattle.ud_engine.specs.DecidedLines.{DeciderRepresents}
use Rattle.ud_io.specs.Streams.{Stream, stream_of, TakesAllBut}
use Rattle.ud_io.specs.Watched.{WatchedState}

-- `text_by listing piece xs t`: the output for the items `xs` with the tree `t`: their pieces by
-- the definition `piece`, or their names.
abbrev pub text_by : Listing → (List Judged → Judged → List ℕ) → List (Item Reading) →
    Tree Reading → List ℕ
text_by Off piece xs t = concat (pieces_by piece [] (judged_lines xs (marks t)))
text_by Names piece xs t = listed false xs (levels t)
text_by Depths piece xs t = listed true xs (levels t)

-- `differs_in listing piece xs t`: the piece of some line differs from the line; false if names are
-- listed.
abbrev pub differs_in : Listing → (List Judged → Judged → List ℕ) → List (Item Reading) →
    Tree Reading → Bool
differs_in Off piece xs t = some_other (pieces_by piece [] (judged_lines xs (marks t)))
    (judged_lines xs (marks t))
differs_in Names piece xs t = false
differs_in Depths piece xs t = false

-- `lister_of listing`: the lister, with depths or without, if names are listed.
abbrev pub lister_of : Listing → Option Bool
lister_of Off = None
lister_of Names = Some false
lister_of Depths = Some true

-- `ProcessorRepresents represents piece_of p o piece xs t`: `p` has read the items `xs`, none is
-- faulty, and `t` is their tree. The printer was given each of them, unless names are listed.
pub record ProcessorRepresents {S : Type 0} (represents : S → List Judged → Type 0) (piece_of : S →
    List Judged → Judged → List ℕ) (p : LineProcessor S) (o : Options)
    (piece : List Judged → Judged →
    List ℕ) (xs : List (Item Reading)) (t : Tree Reading) : Type 0 where
  pub has : DeciderRepresents o p.decider xs t
  pub lister : p.lister ≡ lister_of o.settings.listing
  pub shown : o.settings.listing ≡ Off → represents p.printer (judged_lines xs (marks t))
  pub stays : (before : List Judged) → (j : Judged) → piece_of p.printer before j ≡ piece before j
  pub differs : p.differs ≡ differs_in o.settings.listing piece xs t

-- `BeginsLines .. settings show p`: under options with these settings, `p` has read no line, if the
-- printer `show` has printed none or names are listed.
abbrev pub BeginsLines : {S : Type 0} → (S → List Judged → Type 0) → (S → List Judged → Judged →
    List ℕ) → Settings → S → LineProcessor S → Type 0
BeginsLines represents piece_of settings show p =
    (o : Options) → (piece : List Judged → Judged → List ℕ) → o.settings ≡ settings →
    (o.settings.listing ≡ Off → represents show []) →
    ((before : List Judged) → (j : Judged) → piece_of show before j ≡ piece before j) →
    ProcessorRepresents represents piece_of p o piece [] (closed nothing)

-- `HasEndFault .. p fault`: whatever items `p` has read, `fault` is the fault of the text's end.
abbrev pub HasEndFault : {S : Type 0} → (S → List Judged → Type 0) → (S → List Judged → Judged →
    List ℕ) → LineProcessor S → Option Fault → Type 0
HasEndFault represents piece_of p fault =
    (o : Options) → (piece : List Judged → Judged → List ℕ) → (xs : List (Item Reading)) →
    (t : Tree Reading) → ProcessorRepresents represents piece_of p o piece xs t →
    fault ≡ end_fault xs t

-- `HasDifference .. p differs`: whatever items `p` has read, `differs` says whether some line's
-- output differs from the line.
abbrev pub HasDifference : {S : Type 0} → (S → List Judged → Type 0) → (S → List Judged → Judged →
    List ℕ) → LineProcessor S → Bool → Type 0
HasDifference represents piece_of p differs =
    (o : Options) → (piece : List Judged → Judged → List ℕ) → (xs : List (Item Reading)) →
    (t : Tree Reading) → ProcessorRepresents represents piece_of p o piece xs t →
    differs ≡ differs_in o.settings.listing piece xs t

-- `PrintsMore o piece xs t l tree more`: `more` is the output for the line `l` after the items
-- `xs`.
abbrev pub PrintsMore : Options → (List Judged → Judged → List ℕ) → List (Item Reading) →
    Tree Reading → Line → Tree Reading → List ℕ → Type 0
PrintsMore o piece xs t l tree more =
    text_by o.settings.listing piece (xs ++ next_item o xs t l ∷ []) tree ≡
    text_by o.settings.listing piece xs t ++ more

-- `IsAppended put old new buffered left pending more own`: if `put`, then `buffered`, `pending` and
-- the line's output `more` were appended, except `left`. Else `more` is the line itself, `own`, and
-- nothing was appended.
abbrev pub IsAppended : Bool → Stream → Stream → List ℕ → List ℕ → List ℕ → List ℕ → List ℕ → Type 0
IsAppended true old new buffered left pending more own =
    TakesAllBut old new (buffered ++ (pending ++ more)) left
IsAppended false old new buffered left pending more own = (new ≡ old) × (left ≡ buffered) ×
    (more ≡ own)

-- `ShowsLine put old new buffered left pending piece own`: `IsAppended` with `piece`; `put` means
-- that `piece` differs from the line `own`.
abbrev pub ShowsLine : Bool → Stream → Stream → List ℕ → List ℕ → List ℕ → List ℕ → List ℕ → Type 0
ShowsLine put old new buffered left pending piece own = (put ≡ not (bytes_eq piece own)) ×
    IsAppended put old new buffered left pending piece own

-- `ShowsNext .. show j pending ..`: whatever lines `show` has printed, its piece for the line `j`
-- was appended after `pending`, if it differs from the line.
abbrev pub ShowsNext : {S W : Type 0} → (S → List Judged → Type 0) → (S → List Judged → Judged →
    List ℕ) → (W → Option (List ℕ)) → S → Judged → List ℕ → List ℕ → List ℕ → WatchedState W →
    WatchedState W → Bool → Type 0
ShowsNext represents piece_of contents show j pending buffered left out out' put =
    (before : List Judged) → represents show before → ShowsLine put (stream_of contents out)
    (stream_of contents out') buffered left pending (piece_of show before j) (text_of j.line)

-- `IsLeftOf left ending`: the output for a line is nothing or its ending.
abbrev pub IsLeftOf : List ℕ → List ℕ → Type 0
IsLeftOf left ending = (left ≡ []) ⊎ (left ≡ ending)

-- `PrintsLine .. p o piece xs t l put old new buffered left pending`: `p` has also read the line
-- `l`. If `put`, then `buffered`, `pending` and its output were appended, except `left`; else its
-- output is the line itself, and nothing was appended.
pub record PrintsLine {S : Type 0} (represents : S → List Judged → Type 0) (piece_of : S →
    List Judged → Judged → List ℕ) (p : LineProcessor S) (o : Options)
    (piece : List Judged → Judged → List ℕ)
    (xs : List (Item Reading)) (t : Tree Reading) (l : Line) (put : Bool)
    (old new : Stream) (buffered left pending : List ℕ) : Type 0 where
  pub tree : Tree Reading
  pub has : ProcessorRepresents represents piece_of p o piece (xs ++ next_item o xs t l ∷ []) tree
  pub more : List ℕ
  pub is_more : PrintsMore o piece xs t l tree more
  pub goes : IsAppended put old new buffered left pending more (text_of l)

-- `printed_of passed bytes`: the output for skipped text at the beginning of `bytes`: all of the
-- text, or nothing.
abbrev pub printed_of : SkippedText → List ℕ → List ℕ
printed_of passed bytes = if passed.kept then take passed.count bytes else []

-- `PrintsBulk .. p o piece xs t ls more`: `p` has also read the lines `ls`, if any, and `more` is
-- the output for them.
pub record PrintsBulk {S : Type 0} (represents : S → List Judged → Type 0) (piece_of : S →
    List Judged →
    Judged → List ℕ) (p : LineProcessor S) (o : Options)
    (piece : List Judged → Judged →
    List ℕ) (xs : List (Item Reading)) (t : Tree Reading) (ls : List Line) (more : List ℕ) :
    Type 0 where
  pub items : List (Item Reading)
  pub tree : Tree Reading
  pub has : ProcessorRepresents represents piece_of p o piece (xs ++ items) tree
  pub lines_are : map line_of items ≡ ls
  pub is_more : text_by o.settings.listing piece (xs ++ items) tree ≡
      text_by o.settings.listing piece xs t ++ more

-- `PrintsText .. p q lines bytes more`: whatever items `p` has read, `q` has also read the lines of
-- `bytes`, which come after those of `lines`, and `more` is the output for them.
abbrev pub PrintsText : {S : Type 0} → (S → List Judged → Type 0) → (S → List Judged → Judged →
    List ℕ) → LineProcessor S → LineProcessor S → LinesState → List ℕ → List ℕ → Type 0
PrintsText represents piece_of p q lines bytes more =
    (o : Options) → (piece : List Judged → Judged → List ℕ) → (xs : List (Item Reading)) →
    (t : Tree Reading) → ProcessorRepresents represents piece_of p o piece xs t →
    PrintsBulk represents piece_of q o piece xs t
    (numbered_from (suc lines.before) (whole_lines bytes)) more

-- `PrintsNext .. contents symbols p q l pending buffered left out out' put result`: whatever items
-- `p` has read, under options with these symbols, `q` has also read the line `l`. Its output was
-- appended as `PrintsLine` says; or `l` has this fault.
abbrev pub PrintsNext : {S W T : Type 0} → (S → List Judged → Type 0) → (S → List Judged → Judged →
    List ℕ) → (W → Option (List ℕ)) → List Argument → LineProcessor S → LineProcessor S → Line →
    List ℕ → List ℕ → List ℕ → WatchedState W → WatchedState W → (T → Bool) →
    Result T SectionFault → Type 0
PrintsNext represents piece_of contents symbols p q l pending buffered left out out' put result =
    (o : Options) → (piece : List Judged → Judged → List ℕ) → (xs : List (Item Reading)) →
    (t : Tree Reading) → TableRepresents symbols o.table →
    ProcessorRepresents represents piece_of p o piece xs t → MatchResult result
    (λ value. PrintsLine represents piece_of q o piece xs t l (put value) (stream_of contents out)
    (stream_of contents out') buffered left pending)
    (λ f. FaultOf xs (next_item o xs t l) (fault_of f))
