-- Ruling: lines with their steps, as the definitions have them.
use Rattle.ud_model.specs.answer.Printing.{Judged}
use Rattle.ud_sections.specs.sections.StepViews.{judged_step, HoldsKeyword}
use Rattle.test_sections.specs.declared.printing.Ruled.{Ruled}

-- `judged_of ruled`: the line with its verdict and the span of its keyword.
abbrev pub judged_of : Ruled → Judged
judged_of ruled = judged_step ruled.line ruled.step

-- `HoldsItsKeyword ruled`: a directive that is edited has its keyword in its line's body.
abbrev pub HoldsItsKeyword : Ruled → Type 0
HoldsItsKeyword ruled = HoldsKeyword ruled.step ruled.line
