-- By the stage of each section.
use Rattle.ud_laws.proofs.output.PrunedGroups.{pruned_is}
use Rattle.ud_laws.proofs.output_laws.law_pruned.Goals as goal

pub returns : goal.returns
returns c = pruned_is
