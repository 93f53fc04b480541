-- Outcomes: the outcome of a text: the output, and the fault.
--
--   ReadsAs o input xs t f      a text that has ended is read as the items `xs` with the tree `t`,
--                               up to the fault `f` or to its end
--   ReadsSoFar o given xs t f   the same for a text that goes on: its whole lines count, and the
--                               rest only for its limits
--   Outcome                     the output, the fault if any, and whether some line
--                               differs
--   outcome_of s xs t f         the outcome of these items with this tree and this fault under the
--                               settings `s`
--   HasOutcome o input r        the outcome of a text that has ended
--   HasOutcomeSoFar o given r   the outcome of a text that goes on
--
-- At a fault the output for the lines before the faulty line is printed; a fault of the end comes
-- after all lines. A text has one outcome, whether it has ended or goes on.
use Rattle.std.specs.Prelude.{◌≡◌, ℕ, suc, List, [], ◌∷◌, ◌++◌, length, map, Bool, true, false}
use Rattle.std.specs.Prelude.{Option, Some, None}
use Rattle.ud_model.specs.text.Lines.{Line, line_at, lines_of, whole_lines, partial_line}
use Rattle.ud_model.specs.text.Lines.{numbered_from}
use Rattle.ud_model.specs.text.Scans.{Reading}
use Rattle.ud_model.specs.sections.Tree.{Item, Tree}
use Rattle.ud_model.specs.sections.Pruning.{marks}
use Rattle.ud_model.specs.sections.Items.{Options, line_of, next_item}
use Rattle.ud_model.specs.sections.Faults.{Fault, Case, FaultOf, AreFaultless, end_fault, past_last}
use Rattle.ud_model.specs.sections.Faults.{too_long}
use Rattle.ud_model.specs.answer.Printing.{printed_by, some_differ_by}
use Rattle.ud_model.specs.answer.Listing.{levels, listed}
use Rattle.ud_model.specs.declared.settings.Settings.{Settings}
use Rattle.ud_model.specs.declared.settings.Listing.{Listing}
use Rattle.ud_model.specs.declared.settings.Listing.TheVariants.{Off, Names, Depths}

-- `FirstFaultAt o ls xs t f`: the lines of `ls` before the first faulty one are the items `xs` with
-- the tree `t`, and the faulty one has the fault `f`.
pub record FirstFaultAt (o : Options) (ls : List Line) (xs : List (Item Reading)) (t : Tree Reading)
    (f : Fault) : Type 0 where
  pub sound : AreFaultless o xs t
  pub faulty : Line
  pub later : List Line
  pub are : ls ≡ map line_of xs ++ faulty ∷ later
  pub fault : FaultOf xs (next_item o xs t faulty) f

-- `HasNoFault o ls xs t`: none of the lines `ls` is faulty, and they are the items `xs` with the
-- tree `t`.
pub record HasNoFault (o : Options) (ls : List Line) (xs : List (Item Reading)) (t : Tree Reading) :
    Type 0 where
  pub sound : AreFaultless o xs t
  pub are : ls ≡ map line_of xs

-- `ReadsAs o input xs t f`: a text that has ended is read as the items `xs` with the tree `t`.
-- These are the lines before its first faulty line, which has the fault `f`; or all lines, and then
-- `f` is the fault of the end, if any. How they are printed is left open.
pub data ReadsAs (o : Options) (input : List ℕ) : List (Item Reading) → Tree Reading →
    Option Fault → Type 0 where
  stops : (xs : List (Item Reading)) (t : Tree Reading) (f : Fault) →
      FirstFaultAt o (lines_of input) xs t f → ReadsAs o input xs t (Some f)
  ends : (xs : List (Item Reading)) (t : Tree Reading) → HasNoFault o (lines_of input) xs t →
      ReadsAs o input xs t (end_fault xs t)

-- `lines_so_far given`: the whole lines of a text that goes on.
abbrev pub lines_so_far : List ℕ → List Line
lines_so_far given = numbered_from 1 (whole_lines given)

-- `line_so_far given`: the rest after the whole lines, as the line that it begins.
abbrev pub line_so_far : List ℕ → Line
line_so_far given = line_at (suc (length (whole_lines given))) (partial_line given)

-- `IsLimit c`: the case `c` is that a limit is exceeded.
pub data IsLimit : Case → Type 0 where
  by_lines : IsLimit past_last
  by_bytes : IsLimit too_long

-- `RestBreaks o given xs t f`: the rest after the whole lines exceeds a limit, with the fault `f`.
pub record RestBreaks (o : Options) (given : List ℕ) (xs : List (Item Reading)) (t : Tree Reading)
    (f : Fault) : Type 0 where
  pub some : (partial_line given ≡ []) → ⊥
  pub fault : FaultOf xs (next_item o xs t (line_so_far given)) f
  pub limit : IsLimit fault.which

-- `ReadsSoFar o given xs t f`: a text that goes on is read as the items `xs` with the tree `t`. No
-- line is faulty so far and the rest exceeds no limit, or `f` is the fault.
pub data ReadsSoFar (o : Options) (given : List ℕ) : List (Item Reading) → Tree Reading →
    Option Fault → Type 0 where
  stops : (xs : List (Item Reading)) (t : Tree Reading) (f : Fault) →
      FirstFaultAt o (lines_so_far given) xs t f → ReadsSoFar o given xs t (Some f)
  breaks : (xs : List (Item Reading)) (t : Tree Reading) (f : Fault) →
      HasNoFault o (lines_so_far given) xs t →
      RestBreaks o given xs t f → ReadsSoFar o given xs t (Some f)
  goes_on : (xs : List (Item Reading)) (t : Tree Reading) → HasNoFault o (lines_so_far given) xs t →
      ((f : Fault) → RestBreaks o given xs t f → ⊥) → ReadsSoFar o given xs t None

-- The outcome of a text: the output, the fault that ended it, and whether some line differs.
pub record Outcome : Type 0 where
  pub output : List ℕ
  pub fault : Option Fault
  pub differs : Bool

-- `output_by listing s xs t`: the output for the lines `xs` with the tree `t`.
abbrev pub output_by : Listing → Settings → List (Item Reading) → Tree Reading → List ℕ
output_by Off s xs t = printed_by s xs (marks t)
output_by Names s xs t = listed false xs (levels t)
output_by Depths s xs t = listed true xs (levels t)

-- `differs_by listing s xs t`: some line differs. If names are listed, none does.
abbrev pub differs_by : Listing → Settings → List (Item Reading) → Tree Reading → Bool
differs_by Off s xs t = some_differ_by s xs (marks t)
differs_by Names s xs t = false
differs_by Depths s xs t = false

-- `outcome_of s xs t f`: the outcome of the lines `xs` with the tree `t`, and then the fault `f`.
abbrev pub outcome_of : Settings → List (Item Reading) → Tree Reading → Option Fault → Outcome
outcome_of s xs t f = record {
  output = output_by s.listing s xs t;
  fault = f;
  differs =
      differs_by s.listing s xs t;
}

-- `HasOutcome o input r`: `r` is the outcome of the items of `input`, a text that has ended.
pub data HasOutcome (o : Options) (input : List ℕ) : Outcome → Type 0 where
  ran_as : {xs : List (Item Reading)} {t : Tree Reading} {f : Option Fault} →
      ReadsAs o input xs t f → HasOutcome o input (outcome_of o.settings xs t f)

-- `HasOutcomeSoFar o given r`: `r` is the outcome of the items of `given`, a text that goes on.
pub data HasOutcomeSoFar (o : Options) (given : List ℕ) : Outcome → Type 0 where
  came_as : {xs : List (Item Reading)} {t : Tree Reading} {f : Option Fault} →
      ReadsSoFar o given xs t f → HasOutcomeSoFar o given (outcome_of o.settings xs t f)
