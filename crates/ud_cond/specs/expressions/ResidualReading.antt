-- ResidualReading: the residual of an expression while it is read.
-- `ud_model.specs.aids.Residuals` defines the residual of a tree, and the flags of its tokens. Both
-- come from the parts, so no tree is needed.
--
--   Kept                         the value, the residual's condition and the flags of a part
--   kept_meaning table rules     the record `Kept` of each part of an expression
--   kept_of_tree table rules e   the record `Kept` of a tree
--   lost_len fs                  the number of tokens before the first one that the residual has
--   KeepsWhole whole old start end new   the flags of a part are kept
--   part_of k n                  the program's part for `k`, whose flags begin at `n`
--   kept_keeping                 how a program keeps such parts
--   HasResidual table rules text r flags   the residual of a text: its condition, and its tokens
use Rattle.std.specs.Prelude.{◌≡◌, ℕ, ◌+◌, suc, List, [], ◌∷◌, ◌++◌, length, replicate}
use Rattle.std.specs.Prelude.{Some, Bool, true, false, not, ◌&&◌, if◌then◌else◌}
use Rattle.ud_model.specs.conditions.Table.{Argument}
use Rattle.ud_model.specs.conditions.Expressions.{Expression}
use Rattle.ud_model.specs.conditions.Conditions.{Rules, negate}
use Rattle.ud_model.specs.conditions.Values.{name_value, unary_amount, binary_amount, number_of}
use Rattle.ud_model.specs.aids.Residuals.{is_unit, settled, stands_alone, residual, keeps}
use Rattle.ud_model.specs.conditions.Parsing.{Meaning, expression_of}
use Rattle.ud_model.specs.declared.amount.Amount.{Amount}
use Rattle.ud_model.specs.declared.cond.Cond.{Cond}
use Rattle.ud_model.specs.declared.operator.Operator.{Operator}
use Rattle.ud_model.specs.declared.operator.Operator.TheVariants.{Or, And, Not}
use Rattle.ud_cond.specs.declared.expressions.values.Value.{Value}
use Rattle.ud_cond.specs.declared.expressions.parts.Part.{Part}
use Rattle.ud_cond.specs.declared.expressions.residuals.Residuals.{Residuals}
use Rattle.ud_cond.specs.CondViews.{as_rules}
use Rattle.ud_cond.specs.expressions.Keepings.{Keeping}
use Rattle.ud_cond.specs.expressions.Evaluation.{constant_value_of, name_value_of, defined_value_of}
use Rattle.ud_cond.specs.expressions.Evaluation.{unary_value_of, binary_value_of, value_of_tree}
use Rattle.ud_cond.specs.expressions.Evaluation.{cond_of_value}

-- `is_joining o`: the operator is `&&` or `||`.
abbrev pub is_joining : Operator → Bool
is_joining And = true
is_joining Or = true
is_joining o = false

-- `is_not o`: the operator is `!`.
abbrev pub is_not : Operator → Bool
is_not Not = true
is_not o = false

-- A part of an expression: its value, and the condition and the flags of its residual.
pub record Kept : Type 0 where
  -- The value with signed numbers, and the number in an expression with a `u`.
  pub value : Value
  pub number : Amount
  -- The condition of the residual, and whether the last operator of the part was removed.
  pub cond : Cond
  pub lost : Bool
  -- The residual stands alone; the part stands alone.
  pub left_alone : Bool
  pub alone : Bool
  pub flags : List Bool

-- `value_by v n`: the value `v` with its own least number, where `n` is the number in an expression
-- with a `u`.
abbrev pub value_by : Value → Amount → Value
value_by v n = if v.unsigned then record v { number = n } else v

-- `leaf rules v n alone flags`: an operand of its own.
abbrev pub leaf : Rules → Value → Amount → Bool → List Bool → Kept
leaf rules v n alone flags = record {
  value = v;
  number = n;
  cond = cond_of_value rules (value_by v n);
  lost = false;
  left_alone = alone;
  alone = alone;
  flags = flags;
}

-- `unary_kept rules o a`: a prefix operator and its operand.
abbrev pub unary_kept : Rules → Operator → Kept → Kept
unary_kept rules Not a = record {
  value = unary_value_of false Not a.value;
  number = unary_amount true Not a.number;
  cond = negate a.cond;
  lost = false;
  left_alone = a.left_alone;
  alone = a.alone;
  flags = true ∷ a.flags;
}
unary_kept rules o a = leaf rules (unary_value_of false o a.value) (unary_amount true o a.number)
    a.alone (replicate (suc (length a.flags)) true)

-- `joined_kept rules o a b`: `&&` or `||` between two operands.
abbrev pub joined_kept : Rules → Operator → Kept → Kept → Kept
joined_kept rules o a b = record {
  value = binary_value_of rules.strict false o a.value b.value;
  number = binary_amount rules.strict true o a.number b.number;
  cond = if is_unit o a.cond then b.cond
      else if is_unit o b.cond then a.cond else settled rules.strict o a.cond b.cond;
  lost = if is_unit o a.cond then true else if is_unit o b.cond then true else false;
  left_alone = if is_unit o a.cond then b.left_alone
      else if is_unit o b.cond then a.left_alone else false;
  alone = false;
  flags = if is_unit o a.cond then replicate (length a.flags + 1) false ++ b.flags
      else if is_unit o b.cond then a.flags ++ replicate (suc (length b.flags)) false
      else a.flags ++ true ∷ b.flags;
}

-- `binary_kept rules o a b`: an operator between two operands.
abbrev pub binary_kept : Rules → Operator → Kept → Kept → Kept
binary_kept rules And a b = joined_kept rules And a b
binary_kept rules Or a b = joined_kept rules Or a b
binary_kept rules o a b = leaf rules (binary_value_of rules.strict false o a.value b.value)
    (binary_amount rules.strict true o a.number b.number) false
    (replicate (length a.flags + suc (length b.flags)) true)

-- `parens_kept a`: parentheses around a part.
abbrev pub parens_kept : Kept → Kept
parens_kept a = record a {
  left_alone = true;
  alone = true;
  flags = not (a.lost && a.left_alone) ∷ a.flags ++ not (a.lost && a.left_alone) ∷ [];
}

-- `defined_flags p`: the flags of `defined` and a name, in parentheses if `p`.
abbrev pub defined_flags : Bool → List Bool
defined_flags false = true ∷ true ∷ []
defined_flags true = true ∷ true ∷ true ∷ true ∷ []

module _ (table : List Argument) (rules : Rules) where
  -- `kept_meaning table rules`: the record of each part of an expression.
  abbrev pub kept_meaning : Meaning Kept
  kept_meaning = record {
    constant = λ w. leaf rules (constant_value_of w) (constant_value_of w).number false (true ∷ []);
    named = λ n a. leaf rules (name_value_of table false n a) (name_value table true n) false
        (true ∷ []);
    is_defined = λ n p. leaf rules (defined_value_of table n) (defined_value_of table n).number
        true (defined_flags p);
    unary = unary_kept rules;
    binary = binary_kept rules;
    parens = parens_kept;
  }

  -- `kept_of_tree table rules e`: the record of the tree `e`.
  abbrev pub kept_of_tree : Expression → Kept
  kept_of_tree e = record {
    value = value_of_tree table rules.strict false e;
    number = number_of table rules.strict true e;
    cond = (residual table rules e).cond;
    lost = (residual table rules e).lost;
    left_alone = stands_alone (residual table rules e).tree;
    alone = stands_alone e;
    flags = keeps table rules e;
  }

-- `kept_meaning_of r`: the record of each part, by the table and the rules of `r`.
abbrev pub kept_meaning_of : Residuals → Meaning Kept
kept_meaning_of r = kept_meaning r.symbols.now (as_rules r.rules)

-- `are_all_kept fs`: the residual has each of the tokens with the flags `fs`.
abbrev pub are_all_kept : List Bool → Bool
are_all_kept [] = true
are_all_kept (f ∷ fs) = f && are_all_kept fs

-- `lost_len fs`: the number of tokens before the first one that the residual has, by the flags
-- `fs`.
abbrev pub lost_len : List Bool → ℕ
lost_len [] = 0
lost_len (true ∷ fs) = 0
lost_len (false ∷ fs) = suc (lost_len fs)

-- `KeepsWhole whole old start end new`: the flags `new` are `old`, but those from `start` up to
-- `end` are kept. `whole` says whether they were kept already.
abbrev pub KeepsWhole : Bool → List Bool → ℕ → ℕ → List Bool → Type 0
KeepsWhole whole old start end new = (front middle back : List Bool) →
    old ≡ front ++ middle ++ back → start ≡ length front → end ≡ length front + length middle →
    whole ≡ are_all_kept middle → new ≡ front ++ replicate (length middle) true ++ back

-- `part_of k n`: the part `k`, whose flags begin at `n`.
abbrev pub part_of : Kept → ℕ → Part
part_of k n = record {
  value = k.value;
  number = k.number;
  cond = k.cond;
  lost = k.lost;
  left_alone = k.left_alone;
  alone = k.alone;
  whole = are_all_kept k.flags;
  first = n;
  kept = n + lost_len k.flags;
}

-- `kept_keeping`: a program keeps such parts, and notes the flags.
abbrev pub kept_keeping : Keeping Kept Part (List Bool)
kept_keeping = record { part = part_of; flags = λ k. k.flags; notes = λ fs. Some fs }

-- `HasResidual table rules text r flags`: `text` is an expression. Its residual has the condition
-- `r`, and `flags` are true for the tokens that it has.
abbrev pub HasResidual : List Argument → Rules → List ℕ → Cond → List Bool → Type 0
HasResidual table rules text r flags = (e : Expression) × (expression_of text ≡ Some e) ×
    ((residual table rules e).cond ≡ r) × (flags ≡ keeps table rules e)
