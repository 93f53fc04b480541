use Rattle.std.proofs.Common.{◌≡◌, length, is_some, true}
use Rattle.ud_model.specs.conditions.Parsing.{tokens_of}
use Rattle.ud_cond.specs.list_names.NameLists.{names_in_text}
use Rattle.ud_cond.proofs.list_names.names_iter.next_name.Given as goal

abbrev pub invariant-tokens : goal.invariant-tokens
invariant-tokens l = (names_in_text l.text ≡ names_in_text l.rest) × (is_some (tokens_of l.rest) ≡ true)

abbrev pub decreases-tokens : goal.decreases-tokens
decreases-tokens l = length l.rest
