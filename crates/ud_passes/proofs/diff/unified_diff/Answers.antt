-- By the script, the names and the hunks.
use Rattle.std.proofs.Common.{arith}
use Rattle.ud_passes.proofs.PatchLemmas.{diff_is}
use Rattle.ud_passes.proofs.diff.unified_diff.Goals as goal

pub returns : goal.returns
returns c = grind (arith, diff_is)
