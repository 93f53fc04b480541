-- Left operands: the operands that stay in a simplified condition, and why.
--
-- An operand is decided as an `#if` of the operand alone would be. So a name of the table is left
-- only in an operand that is unknown by itself, with `-K` beside an operand that decides its
-- operator, or in a condition that may stay.
--
-- Example: with A undefined, `A + X` is unknown by itself, and `#if!A&&X` may stay.
use Rattle.std.specs.Prelude.{◌≡◌, ◌⊎◌, List, true, false, Some, None}
use Rattle.std.specs.List.{list_any}
use Rattle.ud_model.specs.text.Scans.{Reading}
use Rattle.ud_model.specs.sections.Directives.{Directive}
use Rattle.ud_model.specs.conditions.Table.{Argument}
use Rattle.ud_model.specs.conditions.Expressions.{Expression, unary, binary, parens}
use Rattle.ud_model.specs.conditions.Parsing.{expression_of}
use Rattle.ud_model.specs.conditions.Conditions.{Rules, tree_cond}
use Rattle.ud_model.specs.aids.Residuals.{is_unit, is_unknown, residual, is_undecided, operands}
use Rattle.ud_model.specs.aids.Residuals.{AreUndecided, keeps}
use Rattle.ud_simplified.specs.ResidualTexts.{left_cells, is_literal, is_read}
use Rattle.ud_simplified.specs.SimplifiedTexts.{condition_cells, is_lone, is_read_alone}
use Rattle.ud_model.specs.declared.operator.Operator.{Operator}
use Rattle.ud_model.specs.declared.operator.Operator.TheVariants.{Or, And, Not}

module _ (table : List Argument) (rules : Rules) where
  -- `IsNoUnit o e`: beside the operand `e`, the other operand doesn't decide `o` alone.
  abbrev pub IsNoUnit : Operator → Expression → Type 0
  IsNoUnit o e = is_unit o (residual table rules e).cond ≡ false

  -- `HasNoUnit e`: no operand of `&&` in the tree `e` is true, and none of `||` is false.
  abbrev pub HasNoUnit : Expression → Type 0
  HasNoUnit (unary Not a) = HasNoUnit a
  HasNoUnit (binary And a b) = IsNoUnit And a × IsNoUnit And b × HasNoUnit a × HasNoUnit b
  HasNoUnit (binary Or a b) = IsNoUnit Or a × IsNoUnit Or b × HasNoUnit a × HasNoUnit b
  HasNoUnit (parens a) = HasNoUnit a
  HasNoUnit e = Unit {0}

  -- `IsReduced e`: no operand of the tree `e` can be removed. Unless `&&` and `||` are strict, each
  -- is unknown.
  pub record IsReduced (e : Expression) : Type 0 where
    pub no_unit : HasNoUnit e
    pub undecided : rules.strict ≡ false → AreUndecided table rules (operands e)

  -- `MayStay r d`: why the condition of the directive `d` on the line `r` may stay as it is.
  pub data MayStay (r : Reading) (d : Directive) : Type 0 where
    -- The line joins another line, or has no ending.
    joins_line : is_lone r.scan r.line ≡ false → MayStay r d
    not_understood : expression_of d.after ≡ None → MayStay r d
    has_quote : list_any is_literal (condition_cells r.line d) ≡ true → MayStay r d
    -- The condition is decided.
    decided : (e : Expression) → expression_of d.after ≡ Some e →
        is_unknown (tree_cond e table rules) ≡ false → MayStay r d
    -- The rest would be decided, for example because a `u` hid a negative number.
    rest_decided : (e : Expression) → expression_of d.after ≡ Some e →
        is_undecided table rules (residual table rules e) ≡ false → MayStay r d
    -- The rest would begin with a word byte next to the keyword, or have other tokens.
    rest_misread : (e : Expression) → expression_of d.after ≡ Some e →
        is_read table rules e (left_cells (keeps table rules e) (condition_cells r.line d))
        ≡ false → MayStay r d
    -- The edited line, read by itself, isn't read as meant.
    line_misread : is_read_alone table rules r.line d ≡ false → MayStay r d

  -- `IsSimplified r d`: this condition may stay, or is reduced.
  abbrev pub IsSimplified : Reading → Directive → Type 0
  IsSimplified r d =
      MayStay r d ⊎ ((e : Expression) × (expression_of d.after ≡ Some e) × IsReduced e)
