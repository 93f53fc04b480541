-- Successes: arguments and an input without a fault, and the verdicts on the lines of a text.
use Rattle.std.specs.Prelude.{◌≡◌, ◌≢◌, ℕ, List, false, None, Option}
use Rattle.ud_model.specs.answer.CommandLine.{usage_fault, options_of, display_name}
use Rattle.ud_model.specs.answer.Printing.{Judged, judged_lines}
use Rattle.ud_model.specs.answer.Answer.{Answer, IsAnswer, run_answer}
use Rattle.ud_model.specs.text.Scans.{Reading}
use Rattle.ud_model.specs.sections.Tree.{Item, Tree}
use Rattle.ud_model.specs.sections.Pruning.{marks}
use Rattle.ud_model.specs.sections.Items.{Options}
use Rattle.ud_model.specs.sections.Faults.{Fault}
use Rattle.ud_model.specs.answer.Outcomes.{ReadsAs}

-- `copy_answer args text`: the answer of a run whose output is a copy of its input `text`.
abbrev pub copy_answer : List (List ℕ) → List ℕ → Answer
copy_answer args text =
    run_answer (options_of args).settings (display_name args)
    (record { output = text; fault = None; differs = false })

-- `Succeeds args input a`: `a` is the answer to these arguments and this input, and neither has a
-- fault.
pub record Succeeds (args : List (List ℕ)) (input : List ℕ) (a : Answer) : Type 0 where
  pub answer : IsAnswer args input a
  pub no_fault : a.status ≢ 2

-- `JudgedAs o input js`: the text is read as the lines `js`, with their verdicts.
pub data JudgedAs (o : Options) (input : List ℕ) : List Judged → Type 0 where
  judged_as : {xs : List (Item Reading)} {t : Tree Reading} {f : Option Fault} →
      ReadsAs o input xs t f → JudgedAs o input (judged_lines xs (marks t))

-- `JudgesAs args input js`: the arguments have no fault, and judge the lines of the input as `js`.
pub record JudgesAs (args : List (List ℕ)) (input : List ℕ) (js : List Judged) : Type 0 where
  pub no_fault : usage_fault args ≡ None
  pub judged : JudgedAs (options_of args) input js
