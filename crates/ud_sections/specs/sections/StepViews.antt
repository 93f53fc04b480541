-- StepViews: lines and their steps, as values of the definitions.
--
-- Example: a kept text line becomes that line with Keep and an empty keyword at 0.
use Rattle.std.specs.Prelude.{ℕ, ◌+◌, ◌≤◌, List, length}
use Rattle.ud_model.specs.sections.Directives.{Span as TextSpan}
use Rattle.ud_model.specs.answer.Printing.{Judged}
use Rattle.ud_model.specs.declared.verdict.Verdict.{Verdict}
use Rattle.ud_model.specs.declared.verdict.Verdict.TheVariants.{Keep, Remove, ToIf, ToElse, ToEndif}
use Rattle.ud_model.specs.declared.line.Line.{Line}
use Rattle.ud_model.specs.aids.LineViews.{as_line}
use Rattle.ud_sections.specs.declared.sections.step.Span.{Span}
use Rattle.ud_sections.specs.declared.sections.step.Step.{Step}

-- `as_span s`: a span in a line's body, as one of the definitions.
abbrev pub as_span : Span → TextSpan
as_span s = record { at = s.at; len = s.len }

-- `judged_step line step`: the line with its verdict and the span of its keyword.
abbrev pub judged_step : Line → Step → Judged
judged_step line step = record {
  line = as_line line;
  verdict = step.verdict;
  keyword =
      as_span step.keyword;
}

-- `KeywordIsWithin verdict keyword body`: if this verdict edits the directive, the span of its
-- keyword is in `body`.
abbrev pub KeywordIsWithin : Verdict → Span → List ℕ → Type 0
KeywordIsWithin Keep keyword body = Unit {0}
KeywordIsWithin Remove keyword body = Unit {0}
KeywordIsWithin ToIf keyword body = keyword.at + keyword.len ≤ length body
KeywordIsWithin ToElse keyword body = keyword.at + keyword.len ≤ length body
KeywordIsWithin ToEndif keyword body = keyword.at + keyword.len ≤ length body

-- `HoldsKeyword step line`: an edited directive has its keyword in its line's body.
abbrev pub HoldsKeyword : Step → Line → Type 0
HoldsKeyword step line = KeywordIsWithin step.verdict step.keyword line.body.now
