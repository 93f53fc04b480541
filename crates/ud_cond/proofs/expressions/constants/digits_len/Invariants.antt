use Rattle.std.proofs.Common.{◌≡◌, ◌≤◌, ◌+◌, ◌-◌, length, drop}
use Rattle.std.specs.List.{prefix_len}
use Rattle.ud_cond.specs.CondViews.{is_digit_of}
use Rattle.ud_cond.proofs.expressions.constants.digits_len.Given as goal

abbrev pub invariant-digits : goal.invariant-digits
invariant-digits l = (l.count ≤ length l.text) × (prefix_len (is_digit_of l.base) l.text ≡ l.count + prefix_len (is_digit_of l.base) (drop l.count l.text))

abbrev pub decreases-digits : goal.decreases-digits
decreases-digits l = length l.text - l.count
