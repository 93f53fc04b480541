-- The lines before the last one.
use Rattle.std.proofs.Common.{arith}
use Rattle.ud_text.proofs.lemmas.bulk.HashLemmas.{lines_before}
use Rattle.ud_text.proofs.bulk.plain.plain_text_len.Goals as goal
use Rattle.std.proofs.lemmas.Grind.{common_steps}

pub returns-clause-text : goal.returns-clause-text
returns-clause-text c = grind (arith, common_steps, lines_before)
