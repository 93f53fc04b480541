-- By the parts of the line.
use Rattle.std.proofs.Common.{◌++◌, codes, ap, ◌∙◌, inl}
use Rattle.ud_io.proofs.StreamLemmas.{sends_same}
use Rattle.ud_tree.specs.Summaries.{line_of}
use Rattle.ud_tree.proofs.report.report_bad_argument.Goals as goal

pub returns-in-Ok : goal.returns-in-Ok
returns-in-Ok g c =
    inl (sends_same (ap (λ x. line_of (x ++ codes ": Argument isn't UTF-8; name its directory")) (c.as_slice-shown.ensures.value ∙ c.in-Ok.ensures)) c.report_line.ensures)
