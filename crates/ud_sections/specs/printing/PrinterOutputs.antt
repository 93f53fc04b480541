-- PrinterOutputs: the output for the next line, by its verdict, and a printer after a line.
--
-- `given` relates a printer to the lines it was given, and `piece` is what it prints for a line
-- after others. A printer that reports a line's output needn't be given the line, and stays as it
-- is. So that output is known for any number of lines with one verdict.
--
-- Example: for kept lines after a kept line, the lines themselves are printed, also under `-n`.
use Rattle.std.specs.Prelude.{◌≡◌, ℕ, List, [], ◌∷◌, ◌++◌}
use Rattle.ud_model.specs.text.Lines.{Line, text_of}
use Rattle.ud_model.specs.answer.Printing.{Judged}
use Rattle.ud_model.specs.declared.verdict.Verdict.{Verdict}
use Rattle.ud_sections.specs.declared.printing.line_output.LineOutput.{LineOutput}
use Rattle.ud_sections.specs.declared.printing.line_output.LineOutput.TheVariants.{Whole, Nothing}
use Rattle.ud_sections.specs.declared.printing.line_output.LineOutput.TheVariants.{Ending, Parts}

-- `judged_text verdict l`: the text line `l` with this verdict.
abbrev pub judged_text : Verdict → Line → Judged
judged_text verdict l = record { line = l; verdict = verdict; keyword = record { at = 0; len = 0 } }

-- `GotLine given piece given' piece' j`: a printer with `given` and `piece` before and `given'` and
-- `piece'` after was given the line `j` in between. Its definition stays.
abbrev pub GotLine : (List Judged → Type 0) → (List Judged → Judged → List ℕ) →
    (List Judged → Type 0) → (List Judged → Judged → List ℕ) → Judged → Type 0
GotLine given piece given' piece' j =
    ((before : List Judged) → given before → given' (before ++ j ∷ []))
    × ((before : List Judged) (k : Judged) → piece' before k ≡ piece before k)

-- `PrintsOne given piece verdict own`: whatever lines the printer was given, and whatever line `l`
-- with this verdict comes next, it prints `own l`. The unchanged printer represents it too.
abbrev pub PrintsOne : (List Judged → Type 0) → (List Judged → Judged → List ℕ) → Verdict →
    (Line → List ℕ) → Type 0
PrintsOne given piece verdict own =
    (before : List Judged) → (j : Judged) → given before → j.verdict ≡ verdict →
    (piece before j ≡ own j.line) × given (before ++ j ∷ [])

-- `GivesLineOutput given piece verdict output`: the next line is printed as it is if `output` is
-- `Whole`, not at all if it is `Nothing`, and as its ending if it is `Ending`. `Parts` promises
-- nothing.
abbrev pub GivesLineOutput : (List Judged → Type 0) → (List Judged → Judged → List ℕ) → Verdict →
    LineOutput → Type 0
GivesLineOutput given piece verdict Whole = PrintsOne given piece verdict text_of
GivesLineOutput given piece verdict Nothing = PrintsOne given piece verdict (λ l. [])
GivesLineOutput given piece verdict Ending = PrintsOne given piece verdict (λ l. l.ending)
GivesLineOutput given piece verdict Parts = Unit {0}
