use Rattle.std.proofs.Common.{◌≡◌, ◌≤◌, ◌+◌, length}
use Rattle.ud_model.specs.conditions.Tokens.{after_matching_paren}
use Rattle.ud_cond.proofs.expressions.tokens.after_matching_paren.Given as goal

abbrev pub invariant-inside : goal.invariant-inside
invariant-inside l = (after_matching_paren 0 l.text ≡ after_matching_paren l.open l.rest) × (l.open + length l.rest ≤ length l.text)

abbrev pub decreases-inside : goal.decreases-inside
decreases-inside l = length l.rest
