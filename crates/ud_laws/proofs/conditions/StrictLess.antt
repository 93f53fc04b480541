-- Strict: a value that is known under `-K` is known without it, and is the same.
use Rattle.std.proofs.Common.{◌≡◌, ◌≢◌, List, Bool, true, false, inr, refl, arith}
use Rattle.ud_model.specs.conditions.Table.{Argument}
use Rattle.ud_model.specs.conditions.Expressions.{Expression, unary, binary, parens}
use Rattle.ud_model.specs.conditions.Values.{number_of, value_of}
use Rattle.ud_model.specs.conditions.Conditions.{tree_cond}
use Rattle.ud_model.specs.declared.amount.Amount.TheVariants.{Anything}
use Rattle.ud_model.specs.declared.cond.Cond.TheVariants.{Unknown}
use Rattle.ud_laws.proofs.conditions.Refining.{Stays, stays_refines, unary_refines, binary_refines}

module _ (table : List Argument) where
  number_stays : (u : Bool) (e : Expression) → Stays (number_of table true u e) (number_of table false u e)
  number_stays u (unary o a) = grind (arith, unary_refines, stays_refines, number_stays u a)
  number_stays u (binary o a b) =
      grind (arith, binary_refines, stays_refines, number_stays u a, number_stays u b)
  number_stays u (parens a) = number_stays u a
  number_stays _ _ = inr refl

  -- The value of an expression stays known.
  pub value_keeps : (e : Expression) → value_of table true e ≢ Anything → value_of table false e ≡ value_of table true e
  value_keeps e n = grind (arith, number_stays)

  -- A decided condition stays decided alike.
  pub cond_keeps : (e : Expression) (k : Bool) → tree_cond e table (record { constants = k; strict = true }) ≢ Unknown →
      tree_cond e table (record { constants = k; strict = false }) ≡ tree_cond e table (record { constants = k; strict = true })
  cond_keeps e k n = grind (arith, number_stays)
