-- Residual operands: a second time no operand goes, and each that stays is undecided.
use Rattle.std.proofs.Common.{◌≡◌, Bool, false, ◌&&◌, if◌then◌else◌, List, [], ◌∷◌, ◌++◌, refl, ap, arith}
use Rattle.ud_model.specs.conditions.Table.{Argument}
use Rattle.ud_model.specs.conditions.Expressions.{Expression, unary, binary, parens}
use Rattle.ud_model.specs.conditions.Conditions.{Rules}
use Rattle.ud_model.specs.aids.Residuals.{Residual, is_unit, settled, joined_if, joined, negated}
use Rattle.ud_model.specs.aids.Residuals.{stands_alone, enclosed, residual, operands, AreUndecided}
use Rattle.ud_model.specs.declared.cond.Cond.TheVariants.{Unknown}
use Rattle.ud_model.specs.declared.operator.Operator.{Operator}
use Rattle.ud_model.specs.declared.operator.Operator.TheVariants.{Or, And, Not}
use Rattle.ud_model.proofs.conditions.DecidedConditions.{negated_unknown}
use Rattle.ud_simplified.proofs.ResidualShape.{left}

-- 4. A second time nothing more is removed.

-- The residual of a residual.
abbrev settled_down : Residual → Residual
settled_down x = record { cond = x.cond; tree = x.tree; lost = false }

joined_again : (strict : Bool) (o : Operator) (b d : Bool) (x y : Residual) (res : Expression → Residual) → is_unit o x.cond ≡ b → is_unit o y.cond ≡ d →
    ((s t : Expression) → res (binary o s t) ≡ joined strict o (res s) (res t)) →
    res x.tree ≡ settled_down x → res y.tree ≡ settled_down y →
    res (joined_if b d o (settled strict o x.cond y.cond) x y).tree
    ≡ settled_down (joined_if b d o (settled strict o x.cond y.cond) x y)
joined_again strict o b d x y res e f r p q = grind arith

enclosed_again : (b : Bool) (x : Residual) (res : Expression → Residual) → ((s : Expression) → res (parens s) ≡ enclosed (res s)) → res x.tree ≡ settled_down x →
    res (if b then x else record x { tree = parens x.tree }).tree ≡ settled_down (if b then x else record x { tree = parens x.tree })
enclosed_again b x res r p = grind arith

module _ (table : List Argument) (rules : Rules) where
  -- Nothing more is removed.
  pub again : (e : Expression) → residual table rules (residual table rules e).tree ≡ settled_down (residual table rules e)
  again (unary Not a) = ap negated (again a)
  again (binary And a b) =
      joined_again rules.strict And (is_unit And (left table rules a).cond) (is_unit And (left table rules b).cond)
      (left table rules a) (left table rules b) (residual table rules) refl refl (λ s t. refl) (again a) (again b)
  again (binary Or a b) =
      joined_again rules.strict Or (is_unit Or (left table rules a).cond) (is_unit Or (left table rules b).cond)
      (left table rules a) (left table rules b) (residual table rules) refl refl (λ s t. refl) (again a) (again b)
  again (parens a) = enclosed_again ((left table rules a).lost && stands_alone (left table rules a).tree) (left table rules a) (residual table rules) (λ s. refl) (again a)
  again _ = refl

-- 5. Each operand that is left is undecided.

module _ (table : List Argument) (rules : Rules) where
  abbrev Alike : Residual → Type 0
  Alike x = x.cond ≡ Unknown → AreUndecided table rules (operands x.tree)

  both_undecided : (xs ys : List Expression) → AreUndecided table rules xs → AreUndecided table rules ys → AreUndecided table rules (xs ++ ys)
  both_undecided [] ys p q = q
  both_undecided (x ∷ xs) ys p q = (p.0, both_undecided xs ys p.1 q)

  enclosed_alike : (b : Bool) (x : Residual) → Alike x → Alike (if b then x else record x { tree = parens x.tree })
  enclosed_alike b x p h = grind arith

  -- Each operand that is left is unknown by itself.
  pub operands_undecided : (e : Expression) → rules.strict ≡ false → Alike (residual table rules e)
  operands_undecided (unary Not a) s h = operands_undecided a s (negated_unknown (left table rules a).cond h)
  operands_undecided (binary And a b) s h = grind (arith, both_undecided, left, operands_undecided a s, operands_undecided b s)
  operands_undecided (binary Or a b) s h = grind (arith, both_undecided, left, operands_undecided a s, operands_undecided b s)
  operands_undecided (parens a) s h = enclosed_alike ((left table rules a).lost && stands_alone (left table rules a).tree) (left table rules a) (operands_undecided a s) h
  operands_undecided _ _ h = (h, tt)
