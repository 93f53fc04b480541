-- The lines are whole and fit, and there are no more of them than bytes.
use Rattle.std.proofs.Common.{arith}
use Rattle.ud_text.proofs.lemmas.lines.ConsumeLemmas.{lines_counted}
use Rattle.ud_text.proofs.lines.Lines.whole_lines_len.Goals as goal
use Rattle.std.proofs.lemmas.Grind.{common_steps}

pub returns-clause-whole_lines : goal.returns-clause-whole_lines
returns-clause-whole_lines g c = grind (arith, common_steps, lines_counted)
