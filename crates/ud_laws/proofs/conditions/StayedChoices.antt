-- Stayed choices: the numbers for the uses that are left are as the table has them, if those for all
-- uses are; and an expression has one value at most by its numbers.
use Rattle.std.proofs.Common.{Bool, true, false, ◌&&◌, List, arith}
use Rattle.ud_model.specs.conditions.Table.{Argument}
use Rattle.ud_model.specs.conditions.Expressions.{Expression}
use Rattle.ud_model.specs.conditions.Conditions.{Rules}
use Rattle.ud_model.specs.aids.Residuals.{Residual, stands_alone, residual}
use Rattle.ud_laws.specs.conditions.Choices.{Choice, for_unary, for_binary, for_parens, IsAllowed, one_or_both, bare_or_not, stay}
use Rattle.ud_model.specs.declared.cond.Cond.{Cond}
use Rattle.ud_model.specs.declared.operator.Operator.{Operator}
use Rattle.ud_model.specs.declared.operator.Operator.TheVariants.{Or, And, Not}

module _ (table : List Argument) where
  one_allowed : (b d : Bool) (o : Operator) (c : Cond) (x y : Residual) (m : Choice x.tree) (k : Choice y.tree) →
      IsAllowed table m → IsAllowed table k → IsAllowed table (one_or_both b d o c x y m k)
  one_allowed true d o c x y m k p q = q
  one_allowed false true o c x y m k p q = p
  one_allowed false false o c x y m k p q = (p, q)

  bare_allowed : (b : Bool) (x : Residual) (m : Choice x.tree) → IsAllowed table m → IsAllowed table (bare_or_not b x m)
  bare_allowed true x m p = p
  bare_allowed false x m p = p

  module _ (rules : Rules) where
    abbrev left : Expression → Residual
    left e = residual table rules e

    -- The numbers that stay are allowed.
    pub stay_allowed : {e : Expression} (m : Choice e) → IsAllowed table m → IsAllowed table (stay table rules m)
    stay_allowed (for_unary {o = Not} m) p = stay_allowed m p
    stay_allowed (for_binary {o = And} m k) p =
        grind (arith, one_allowed, left, stay_allowed m p.0, stay_allowed k p.1)
    stay_allowed (for_binary {o = Or} m k) p =
        grind (arith, one_allowed, left, stay_allowed m p.0, stay_allowed k p.1)
    stay_allowed (for_parens {a = a} m) p = bare_allowed ((left a).lost && stands_alone (left a).tree) (left a) (stay table rules m) (stay_allowed m p)
    stay_allowed m h = grind arith
