-- The newlines before `at`, and those of the next blocks.
use Rattle.std.proofs.lemmas.List.{take_rest}
use Rattle.ud_text.proofs.lemmas.lines.ConsumeLemmas.{counted_more}
use Rattle.std.proofs.Common.{arith}
use Rattle.ud_text.proofs.lines.newlines.newlines_by_blocks.Goals as goal

pub loop-at-preserved : goal.loop-at-preserved
loop-at-preserved c = grind (arith, counted_more, take_rest)
