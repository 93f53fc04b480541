-- PackedAmounts: an amount as a number, and how the number bounds it.
use Rattle.std.specs.Prelude.{ℤ}
use Rattle.ud_model.specs.declared.amount.Amount.{Amount}
use Rattle.ud_model.specs.declared.amount.Amount.TheVariants.{Anything, Exactly, AtLeast}
use Rattle.ud_cond.specs.declared.expressions.packed_value.Bound.{Bound}
use Rattle.ud_cond.specs.declared.expressions.packed_value.Bound.TheVariants.{Unbounded, Exact}
use Rattle.ud_cond.specs.declared.expressions.packed_value.Bound.TheVariants.{Lower}

-- `amount_of bound number`: the amount that `number` bounds so.
abbrev pub amount_of : Bound → ℤ → Amount
amount_of Unbounded z = Anything
amount_of Exact z = Exactly z
amount_of Lower z = AtLeast z
