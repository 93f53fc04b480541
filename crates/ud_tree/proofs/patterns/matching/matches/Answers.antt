use Rattle.std.proofs.Common.{arith}
use Rattle.ud_tree.proofs.PatternPlaceLemmas.{parts_match, match_parts}
use Rattle.ud_tree.proofs.patterns.matching.matches.Goals as goal

pub returns-in-Star : goal.returns-in-Star
returns-in-Star c = grind (arith, match_parts, parts_match)
