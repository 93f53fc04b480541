-- Which lemmas the prover needs for some of the last lines.
use Rattle.ud_tree.proofs.ReportLemmas.{says_none}
use Rattle.ud_tree.proofs.SummaryLemmas.{all_unnamed, defined_told, others_none, some_unnamed, unsearched_told}

-- By whether a line defines a symbol.
pub ruleset defined_steps = (defined_told, says_none)

-- By whether a file of another name couldn't be searched.
pub ruleset unsearched_steps = (unsearched_told, says_none)

-- There is no file of another name.
pub ruleset no_others = (others_none, says_none)

-- By whether all of several symbols are unnamed.
pub ruleset unnamed_steps = (all_unnamed, some_unnamed)
