-- By the search of the path.
use Rattle.std.proofs.Common.{arith}
use Rattle.std.proofs.lemmas.Fn.{always_returns_same}
use Rattle.ud_tree.proofs.OtherLemmas.{is_among_searched}
use Rattle.ud_tree.proofs.other_files.is_among.Goals as goal
use Rattle.std.proofs.lemmas.Grind.{common_steps}

pub returns : goal.returns
returns c = grind (arith, common_steps, always_returns_same, is_among_searched, c.binary_search_by.ensures.position, c.is_ok.ensures.value, c.requires, c.binary_search_by.ensures.bound, c.as_bytes-path.ensures.value)
