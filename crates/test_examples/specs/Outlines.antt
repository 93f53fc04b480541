-- Outlines: the output of a printer that leaves out the text lines.
--
-- Example: of `#ifdef X`, `x` and `#endif`, all kept, the first and the last are printed.
use Rattle.std.specs.Prelude.{ℕ, ◌==◌, if◌then◌else◌}
use Rattle.ud_model.specs.answer.Printing.{Judged}
use Rattle.ud_model.specs.declared.verdict.Verdict.{Verdict}
use Rattle.ud_model.specs.declared.verdict.Verdict.TheVariants.{Remove}
use Rattle.test_examples.specs.declared.outline.Outline.{Outline}

-- `outline_verdict length verdict`: the verdict in an outline of a line whose keyword has `length`
-- bytes. A text line has no keyword.
abbrev pub outline_verdict : ℕ → Verdict → Verdict
outline_verdict length verdict = if length == 0 then Remove else verdict

-- `outlined j`: the judged line `j` with its verdict in an outline.
abbrev pub outlined : Judged → Judged
outlined j = record j { verdict = outline_verdict j.keyword.len j.verdict }

-- `inner_of o`: the printer that `o` wraps.
abbrev pub inner_of : {S : Type 0} → Outline S → S
inner_of o = o.inner
