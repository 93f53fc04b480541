-- The first vertical tab.
use Rattle.std.proofs.Common.{◌∙◌}
use Rattle.ud_passes.proofs.ShownLemmas.{found_tab}
use Rattle.ud_passes.proofs.folding.shown.has_tab.Goals as goal

pub returns : goal.returns
returns c = c.is_some.ensures ∙ found_tab c.args.bytes.now c.memchr.result c.memchr.ensures
