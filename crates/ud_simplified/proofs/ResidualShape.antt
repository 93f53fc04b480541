-- Residual shape: sublists, and a residual is nested by precedence, like the expression.
use Rattle.std.proofs.Common.{◌≡◌, ℕ, ◌≤◌, Bool, true, ◌&&◌, if◌then◌else◌, List, [], ◌∷◌, ◌++◌}
use Rattle.std.proofs.Common.{refl, arith}
use Rattle.ud_model.specs.conditions.Table.{Argument}
use Rattle.ud_model.specs.conditions.Expressions.{Expression, unary, binary, parens, precedence}
use Rattle.ud_model.specs.conditions.Expressions.{HasPrecedence}
use Rattle.ud_model.specs.conditions.Conditions.{Rules}
use Rattle.ud_model.specs.aids.Residuals.{Residual, stands_alone, residual}
use Rattle.ud_simplified.specs.Sublists.{IsSublist, nothing, without, with_same}
use Rattle.ud_model.specs.declared.operator.Operator.TheVariants.{Or, And, Not}

-- 1. Sublists.

pub all_of_it : {A : Type 0} (xs : List A) → IsSublist xs xs
all_of_it [] = nothing
all_of_it (x ∷ xs) = with_same (all_of_it xs)

pub none_of_it : {A : Type 0} (xs : List A) → IsSublist [] xs
none_of_it [] = nothing
none_of_it (x ∷ xs) = without (none_of_it xs)

pub of_both : {A : Type 0} {ws xs ys zs : List A} → IsSublist ws xs → IsSublist ys zs → IsSublist (ws ++ ys) (xs ++ zs)
of_both nothing q = q
of_both (without p) q = without (of_both p q)
of_both (with_same p) q = with_same (of_both p q)

pub of_left : {A : Type 0} {xs ys : List A} (zs : List A) → IsSublist xs ys → IsSublist xs (ys ++ zs)
of_left zs nothing = none_of_it zs
of_left zs (without p) = without (of_left zs p)
of_left zs (with_same p) = with_same (of_left zs p)

-- 2. The tree is nested by precedence.

looser : (e : Expression) (j k : ℕ) → k ≤ j → HasPrecedence j e → HasPrecedence k e
looser (binary o a b) j k l h = (let m : j ≤ precedence o = h.0 in omega arith, h.1, h.2)
looser _ _ _ _ h = h

any_precedence : (e : Expression) (j k : ℕ) → stands_alone e ≡ true → HasPrecedence j e → HasPrecedence k e
any_precedence (binary o a b) j k s h = cc
any_precedence _ _ _ _ h = h

enclosed_precedence : (b : Bool) (x : Residual) (k : ℕ) → (x.lost && stands_alone x.tree) ≡ b → HasPrecedence 1 x.tree →
    HasPrecedence k (if b then x else record x { tree = parens x.tree }).tree
enclosed_precedence b x k e p = grind (arith, any_precedence)

module _ (table : List Argument) (rules : Rules) where
  abbrev pub left : Expression → Residual
  left e = residual table rules e

  -- The residual is nested by precedence, like the expression.
  pub precedence_stays : (e : Expression) (k : ℕ) → HasPrecedence k e →
      HasPrecedence k (left e).tree
  precedence_stays (unary Not a) k h = (h.0, precedence_stays a 10 h.1)
  precedence_stays (binary And a b) k h = grind (arith, looser, precedence_stays a 2 h.1, precedence_stays b 3 h.2)
  precedence_stays (binary Or a b) k h = grind (arith, looser, precedence_stays a 1 h.1, precedence_stays b 2 h.2)
  precedence_stays (parens a) k h =
      enclosed_precedence ((left a).lost && stands_alone (left a).tree) (left a) k refl
      (precedence_stays a 1 h)
  precedence_stays _ _ h = h
