-- If each state gives each name a number, these numbers decide conditions as C may, and stay.
use Rattle.std.proofs.Common.{◌≡◌, ℕ, List, Bool, true, false, if◌then◌else◌, map, Option, Some}
use Rattle.std.proofs.Common.{None, refl, sym, ◌∙◌, ap, subst, arith}
use Rattle.ud_model.specs.text.Lexemes.{Cell, shown}
use Rattle.ud_model.specs.conditions.Table.{Argument}
use Rattle.ud_model.specs.conditions.Expressions.{Expression, constant, named, is_defined, unary, binary, parens}
use Rattle.ud_model.specs.conditions.Conditions.{Rules}
use Rattle.ud_model.specs.laws.CValues.{Number}
use Rattle.ud_model.specs.aids.Residuals.{Residual, joined_if, residual}
use Rattle.ud_simplified.specs.ResidualTexts.{simplified_cells}
use Rattle.ud_laws.specs.conditions.Choices.{Choice, for_unary, IsAllowed, one_or_both, bare_or_not}
use Rattle.ud_laws.specs.conditions.Choices.{stay}
use Rattle.ud_model.specs.conditions.Parsing.{expression_of}
use Rattle.ud_laws.specs.output.CSelection.{MayBe}
use Rattle.ud_laws.specs.output.Processing.{expression_written, DecidesAsC}
use Rattle.ud_laws.specs.output.DecidedByNumbers.{if_condition, numbers_by, AreTrue, HasTruthBy, decides_by, IsByNumbers, KeepsNumbers}
use Rattle.ud_model.specs.declared.cond.Cond.{Cond}
use Rattle.ud_model.specs.declared.operator.Operator.{Operator}
use Rattle.ud_model.specs.declared.operator.Operator.TheVariants.{Or, And, Not}
use Rattle.ud_laws.proofs.conditions.ChoiceValues.{choice_may}
use Rattle.ud_laws.proofs.conditions.OneValue.{one_value}
use Rattle.ud_laws.proofs.conditions.ResidualTruth.{Tells, tells, truth_kept}
use Rattle.ud_simplified.proofs.ResidualRead.{same_or_left}
use Rattle.ud_laws.proofs.conditions.SpacedTexts.{expression_spaced}

-- 1. The numbers that stay are those of the names.

module _ (value : List ℕ → Number) (is_known : List ℕ → Bool) where
  abbrev by : (e : Expression) → Choice e
  by e = numbers_by value is_known e

  one_by : (b d : Bool) (o : Operator) (c : Cond) (x y : Residual) → one_or_both b d o c x y (by x.tree) (by y.tree) ≡ by (joined_if b d o c x y).tree
  one_by true d o c x y = refl
  one_by false true o c x y = refl
  one_by false false o c x y = refl

  bare_by : (b : Bool) (x : Residual) → bare_or_not b x (by x.tree) ≡ by (if b then x else record x { tree = parens x.tree }).tree
  bare_by true x = refl
  bare_by false x = refl

  module _ (table : List Argument) (rules : Rules) where
    abbrev left : Expression → Residual
    left e = residual table rules e

    pub stay_by : (e : Expression) → stay table rules (by e) ≡ by (left e).tree
    stay_by (unary Not a) = ap (λ (m : Choice (left a).tree). for_unary m) (stay_by a)
    stay_by (binary And a b) = grind (arith, one_by, stay_by a, stay_by b)
    stay_by (binary Or a b) = grind (arith, one_by, stay_by a, stay_by b)
    stay_by (parens a) = grind (arith, bare_by, stay_by a)
    stay_by e = grind arith

  all_allowed : (table : List Argument) → AreTrue table value is_known → (e : Expression) → IsAllowed table (by e)
  all_allowed table h (constant w) = tt
  all_allowed table h (named n arguments) = (h n).0
  all_allowed table h (is_defined n p) = (h n).1
  all_allowed table h (unary o a) = all_allowed table h a
  all_allowed table h (binary o a b) = (all_allowed table h a, all_allowed table h b)
  all_allowed table h (parens a) = all_allowed table h a

  truth_may : (table : List Argument) → AreTrue table value is_known → (e : Option Expression) (b : Bool) → HasTruthBy value is_known e b → MayBe table e b
  truth_may table h None b d = tt
  truth_may table h (Some e) b d = (d.0, choice_may table e (by e) d.0 (all_allowed table h e) d.1, d.2)

-- 2. What such states decide.

module _ {S : Type 0} (table : List Argument) (rules : Rules) (value : S → List ℕ → Number) (is_known : S → List ℕ → Bool) (true_of : (s : S) → AreTrue table (value s) (is_known s)) where
  pub names_as_c : DecidesAsC table (decides_by value is_known)
  names_as_c s c b t d = (truth_may (value s) (is_known s) table (true_of s) (expression_written c) b d.0, λ e. d.1)

  truth_in : (s : S) (cells : List Cell) (e : Expression) (b : Bool) → expression_of (map shown cells) ≡ Some e → HasTruthBy (value s) (is_known s) (expression_written (if_condition cells)) b →
      HasTruthBy (value s) (is_known s) (Some e) b
  truth_in s cells e b p d = subst (λ (x : Option Expression). HasTruthBy (value s) (is_known s) x b) (expression_spaced (map shown cells) ∙ p) d

  truth_of : (s : S) (cells : List Cell) (e : Expression) (b : Bool) → expression_of (map shown cells) ≡ Some e → HasTruthBy (value s) (is_known s) (Some e) b →
      HasTruthBy (value s) (is_known s) (expression_written (if_condition cells)) b
  truth_of s cells e b p d = subst (λ (x : Option Expression). HasTruthBy (value s) (is_known s) x b) (sym (expression_spaced (map shown cells) ∙ p)) d

  module _ (s : S) (cells : List Cell) (e : Expression) (b : Bool) (p : expression_of (map shown cells) ≡ Some e) (h : HasTruthBy (value s) (is_known s) (Some e) b) where
    abbrev numbers : Choice e
    numbers = numbers_by (value s) (is_known s) e

    abbrev now : List Cell
    now = simplified_cells table rules cells

    tell : Tells (residual table rules e) (stay table rules numbers) h.0
    tell = tells table rules (all_allowed (value s) (is_known s) table (true_of s) e) h.1

    by_names : IsByNumbers table rules (decides_by value is_known) s cells e b
    by_names = record {
      numbers = numbers;
      allowed = all_allowed (value s) (is_known s) table (true_of s) e;
      value = h.0;
      has = h.1;
      truth = h.2;
      left = λ c n v t.
          (grind (arith, same_or_left, truth_of, truth_kept, tell, one_value, stay_by), refl);
    }

  pub names_keep : KeepsNumbers table rules (decides_by value is_known)
  names_keep s t cells e b p d = by_names s cells e b p (truth_in s cells e b p d.0)
