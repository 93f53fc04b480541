use Rattle.std.proofs.Common.{◌≡◌, length}
use Rattle.ud_model.specs.conditions.Constants.{append_digits}
use Rattle.ud_cond.specs.CondViews.{base_of}
use Rattle.ud_cond.proofs.expressions.constants.number.Given as goal

abbrev pub invariant-digits : goal.invariant-digits
invariant-digits l = append_digits (base_of l.fn.base) 0 l.digits ≡ append_digits (base_of l.fn.base) l.number l.rest

abbrev pub decreases-digits : goal.decreases-digits
decreases-digits l = length l.rest
