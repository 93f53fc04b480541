-- Residual same: a table counts for a residual by its entries alone.
use Rattle.std.proofs.Common.{◌≡◌, Bool, true, false, List, ◌∷◌, ap, ap₂, arith}
use Rattle.ud_model.specs.conditions.Table.{Argument}
use Rattle.ud_model.specs.conditions.Expressions.{Expression, unary, binary, parens}
use Rattle.ud_model.specs.conditions.Conditions.{Rules, tree_cond}
use Rattle.ud_model.specs.aids.Residuals.{Residual, is_unit, joined, negated, enclosed, residual, joined_flags, keeps}
use Rattle.ud_model.specs.declared.cond.Cond.{Cond}
use Rattle.ud_model.specs.declared.operator.Operator.TheVariants.{Or, And, Not}
use Rattle.ud_model.proofs.conditions.SymbolLemmas.{SaySame}
use Rattle.ud_model.proofs.conditions.ConditionLemmas.{tree_cond_same}

module _ (t u : List Argument) (same : SaySame t u) (rules : Rules) where
  alone_same : (e : Expression) → ◌≡◌ {A = Residual} (record { cond = tree_cond e t rules; tree = e; lost = false }) (record { cond = tree_cond e u rules; tree = e; lost = false })
  alone_same e = ap (λ (c : Cond). record { cond = c; tree = e; lost = false }) (tree_cond_same t u same e rules)

  -- The residual is the same.
  pub residual_same : (e : Expression) → residual t rules e ≡ residual u rules e
  residual_same (unary Not a) = ap negated (residual_same a)
  residual_same (binary And a b) = ap₂ (joined rules.strict And) (residual_same a) (residual_same b)
  residual_same (binary Or a b) = ap₂ (joined rules.strict Or) (residual_same a) (residual_same b)
  residual_same (parens a) = ap enclosed (residual_same a)
  residual_same e = search (rules, alone_same)

  -- So are the flags of its tokens.
  pub keeps_same : (e : Expression) → keeps t rules e ≡ keeps u rules e
  keeps_same (unary Not a) = ap (λ (fs : List Bool). true ∷ fs) (keeps_same a)
  keeps_same (binary And a b) = λ i. joined_flags (is_unit And (residual_same a i).cond) (is_unit And (residual_same b i).cond) a b (keeps_same a i) (keeps_same b i)
  keeps_same (binary Or a b) = λ i. joined_flags (is_unit Or (residual_same a i).cond) (is_unit Or (residual_same b i).cond) a b (keeps_same a i) (keeps_same b i)
  keeps_same e = grind (arith, residual_same)
