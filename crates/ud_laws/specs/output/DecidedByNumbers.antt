-- Decided by numbers: conditions whose uses of names have numbers, also after other operands were
-- removed.
-- C11 6.10.1p4, p6.
--
--   if_condition cells       the condition of an `#if` with these cells after its keyword
--   KeepsNumbers table rules decides
--                            a use of a name has the same number if other operands are removed
--   MayDecide o prunes decides
--                            C may decide so if the options `o` are true, and if `prunes`, by such
--                            numbers
--   numbers_by value is_known e
--                            the choice of numbers that gives each name its number
--   AreTrue table value is_known
--                            these numbers are those that the table decides
--   decides_by value is_known
--                            each state gives each name a number, and conditions are decided so
--
-- A name may have another number at each use, as with arguments. If the table decides `A`, the
-- condition `A || F(1) > X` becomes `F(1) > X`, in which `F(1)` and `X` have the numbers that they
-- have in the whole.
--
-- Example: if the macros of each state give each name a number, conditions are decided so.
use Rattle.std.specs.Prelude.{◌≡◌, ℕ, List, map, Bool, true, false, Option, Some, None}
use Rattle.ud_model.specs.aids.SpacedBytes.{spaced}
use Rattle.ud_model.specs.text.Lexemes.{Cell, shown}
use Rattle.ud_model.specs.sections.Items.{Options, rules_of}
use Rattle.ud_model.specs.conditions.Table.{Argument}
use Rattle.ud_model.specs.conditions.Expressions.{Expression, constant, named, is_defined, unary}
use Rattle.ud_model.specs.conditions.Expressions.{binary, parens}
use Rattle.ud_model.specs.conditions.Conditions.{Rules}
use Rattle.ud_model.specs.laws.CValues.{Number}
use Rattle.ud_laws.specs.conditions.Choices.{Choice, for_constant, for_name, for_defined, for_unary}
use Rattle.ud_laws.specs.conditions.Choices.{for_binary, for_parens, IsAllowed, HasValue, stay}
use Rattle.ud_model.specs.aids.Residuals.{residual}
use Rattle.ud_simplified.specs.ResidualTexts.{simplified_cells}
use Rattle.ud_model.specs.conditions.Parsing.{expression_of}
use Rattle.ud_laws.specs.output.CSelection.{HasTruth}
use Rattle.ud_model.specs.laws.WrittenConditions.{Condition}
use Rattle.ud_laws.specs.output.Processing.{expression_written, DecidesAsC}
use Rattle.ud_model.specs.declared.kind.Test.TheVariants.{Nonzero}

-- `if_condition cells`: the condition of an `#if` or `#elif` with these cells after its keyword.
abbrev pub if_condition : List Cell → Condition
if_condition cells = record {
  test = Nonzero;
  text = spaced true (map shown cells);
  goes_on = false;
}

module _ {S : Type 0} (table : List Argument) (rules : Rules)
    (decides : S → Condition → Bool → S → Type 0) where
  -- In the state `s` numbers for the uses of its names give the condition `e` with these cells the
  -- truth `b`. The rest of it is then decided by the numbers of the uses that are left.
  pub record IsByNumbers (s : S) (cells : List Cell) (e : Expression) (b : Bool) : Type 0 where
    pub numbers : Choice e
    pub allowed : IsAllowed table numbers
    pub value : Number
    pub has : HasValue e numbers value
    pub truth : HasTruth b value
    pub left : (c : Bool) (n : Number) →
        HasValue (residual table rules e).tree (stay table rules numbers) n → HasTruth c n →
        decides s (if_condition (simplified_cells table rules cells)) c s

  -- `KeepsNumbers table rules decides`: each decision on an expression is by numbers, so a use has
  -- the same number whether or not other operands are removed.
  abbrev pub KeepsNumbers : Type 0
  KeepsNumbers = (s t : S) (cells : List Cell) (e : Expression) (b : Bool) →
      expression_of (map shown cells) ≡ Some e → decides s (if_condition cells) b t →
      IsByNumbers s cells e b

-- `MayDecide o prunes decides`: each decision is one that C may make if the options `o` are true.
-- If `prunes`, it is by numbers, so that the rest of a condition is decided as the condition.
pub record MayDecide {S : Type 0} (o : Options) (prunes : Bool)
    (decides : S → Condition → Bool → S → Type 0) : Type 0 where
  pub as_c : DecidesAsC o.table decides
  pub by_numbers : prunes ≡ true → KeepsNumbers o.table (rules_of o.settings) decides

-- `numbers_by value is_known e`: the choice that gives each use of a name in `e` the number of the
-- name, and decides each `defined`.
abbrev pub numbers_by : (List ℕ → Number) → (List ℕ → Bool) → (e : Expression) → Choice e
numbers_by value is_known (constant w) = for_constant {w = w}
numbers_by value is_known (named n arguments) = for_name (value n)
numbers_by value is_known (is_defined n p) = for_defined (is_known n)
numbers_by value is_known (unary o a) = for_unary (numbers_by value is_known a)
numbers_by value is_known (binary o a b) =
    for_binary (numbers_by value is_known a) (numbers_by value is_known b)
numbers_by value is_known (parens a) = for_parens (numbers_by value is_known a)

-- `AreTrue table value is_known`: each name that the table decides has the table's number, and is
-- defined if it is in the table. Each other one has a number in range.
abbrev pub AreTrue : List Argument → (List ℕ → Number) → (List ℕ → Bool) → Type 0
AreTrue table value is_known = (n : List ℕ) →
    IsAllowed table (for_name {n = n} {arguments = false} (value n)) ×
    IsAllowed table (for_defined {n = n} {p = false} (is_known n))

-- `HasTruthBy value is_known e b`: the names' numbers give the condition `e` the truth `b`. A
-- condition that isn't understood may be either.
abbrev pub HasTruthBy : (List ℕ → Number) → (List ℕ → Bool) → Option Expression → Bool → Type 0
HasTruthBy value is_known None b = Unit {0}
HasTruthBy value is_known (Some e) b =
    (c : Number) × HasValue e (numbers_by value is_known e) c × HasTruth b c

-- `decides_by value is_known`: in the state `s` a name `n` has the number `value s n`, and is
-- defined if `is_known s n`. These numbers decide conditions, which changes no state.
abbrev pub decides_by : {S : Type 0} → (S → List ℕ → Number) → (S → List ℕ → Bool) →
    S → Condition → Bool → S → Type 0
decides_by value is_known s c b t =
    HasTruthBy (value s) (is_known s) (expression_written c) b × (s ≡ t)
