-- NameListing: a line decider that lists the names of lines.
use Rattle.std.specs.Prelude.{◌≡◌, ℕ, List, [], ◌∷◌, ◌++◌, Bool, Option, Result, MatchResult, OnErr}
use Rattle.ud_model.specs.text.Lines.{Line}
use Rattle.ud_model.specs.text.Scans.{Reading}
use Rattle.ud_model.specs.sections.Tree.{Item, Tree}
use Rattle.ud_model.specs.sections.Items.{Options, next_item}
use Rattle.ud_model.specs.sections.Faults.{FaultOf}
use Rattle.ud_model.specs.conditions.Table.{Argument}
use Rattle.ud_cond.specs.symbols.SymbolTable.{TableRepresents}
use Rattle.ud_model.specs.answer.Listing.{levels, listed}
use Rattle.ud_sections.specs.sections.SectionFaults.{fault_of}
use Rattle.ud_sections.specs.declared.sections.fault.SectionFault.{SectionFault}
use Rattle.ud_engine.specs.declared.line_decider.LineDecider.{LineDecider}
use Rattle.ud_engine.specs.DecidedLines.{DeciderRepresents}
use Rattle.ud_io.specs.Streams.{Stream, stream_of, TakesAllBut}
use Rattle.ud_io.specs.Watched.{WatchedState}

-- `ListsMore o xs t l depths tree more`: `more` lists the names of the line `l`, after the items
-- `xs`.
abbrev pub ListsMore : Options → List (Item Reading) → Tree Reading → Line → Bool → Tree Reading →
    List ℕ → Type 0
ListsMore o xs t l depths tree more =
    listed depths (xs ++ next_item o xs t l ∷ []) (levels tree) ≡ listed depths xs (levels t) ++
    more

-- `ListsLine o r xs t l depths old new buffered left pending`: `r` has also read the line `l`.
-- `buffered`, `pending` and the line's names were appended, except `left`, which is now buffered.
pub record ListsLine (o : Options) (r : LineDecider) (xs : List (Item Reading)) (t : Tree Reading)
    (l : Line) (depths : Bool)
    (old new : Stream) (buffered left pending : List ℕ) : Type 0 where
  pub tree : Tree Reading
  pub has : DeciderRepresents o r (xs ++ next_item o xs t l ∷ []) tree
  pub more : List ℕ
  pub is_more : ListsMore o xs t l depths tree more
  pub sent : TakesAllBut old new (buffered ++ (pending ++ more)) left

-- `ListsNext contents symbols r new l depths pending buffered left out out' result`: whatever items
-- `r` has read, under options with these symbols, `new` has also read the line `l`, and its names
-- were listed (`ListsLine`); or `l` has this fault.
abbrev pub ListsNext : {W T : Type 0} → (W → Option (List ℕ)) → List Argument → LineDecider →
    LineDecider → Line → Bool → List ℕ → List ℕ → List ℕ → WatchedState W → WatchedState W →
    Result T SectionFault → Type 0
ListsNext contents symbols r new l depths pending buffered left out out' result =
    (o : Options) → (xs : List (Item Reading)) → (t : Tree Reading) →
    TableRepresents symbols o.table → DeciderRepresents o r xs t → MatchResult result
    (λ done. ListsLine o new xs t l depths (stream_of contents out) (stream_of contents out')
    buffered left pending)
    (λ f. FaultOf xs (next_item o xs t l) (fault_of f))

-- `ListsNames contents symbols r new l depths depths' pending buffered left out out' result`:
-- `ListsNext`. If `l` has a fault, nothing was appended. The lister stays the same.
pub record ListsNames {W T : Type 0} (contents : W → Option (List ℕ)) (symbols : List Argument)
    (r new : LineDecider) (l : Line) (depths depths' : Bool) (pending buffered left : List ℕ)
    (out out' : WatchedState W) (result : Result T SectionFault) : Type 0 where
  pub lists : ListsNext contents symbols r new l depths pending buffered left out out' result
  pub unchanged : OnErr result ((out' ≡ out) × (left ≡ buffered))
  pub stays : depths' ≡ depths
