-- The value that is kept of an expression while it is read is the value of its tree.
use Rattle.std.proofs.Common.{◌≡◌, ℕ, List, [], Bool, false, Some, None, option_map, refl, ap, arith}
use Rattle.ud_model.specs.conditions.Table.{Argument}
use Rattle.ud_model.specs.conditions.Expressions.{Expression, constant, named, is_defined, unary, binary, parens}
use Rattle.ud_model.specs.conditions.Parsing.{meaning, reads, needs, expression_of}
use Rattle.ud_model.specs.conditions.Conditions.{Rules, expression_cond}
use Rattle.ud_model.specs.declared.cond.Cond.TheVariants.{Unknown}
use Rattle.ud_model.proofs.conditions.Readings.{reads_meaning}
use Rattle.ud_cond.specs.declared.expressions.values.Value.{Value}
use Rattle.ud_cond.specs.expressions.Evaluation.{value_meaning, value_of_tree, unary_value_of, cond_of_value}

module _ (table : List Argument) (strict u : Bool) where
  -- the meaning of a tree is its value
  pub meaning-value_meaning : (e : Expression) → meaning (value_meaning table strict u) e ≡ value_of_tree table strict u e
  meaning-value_meaning (constant w) = refl
  meaning-value_meaning (named n a) = refl
  meaning-value_meaning (is_defined n p) = refl
  meaning-value_meaning (unary o e) = ap (unary_value_of u o) (meaning-value_meaning e)
  meaning-value_meaning (binary o d e) = grind (arith, meaning-value_meaning d, meaning-value_meaning e)
  meaning-value_meaning (parens e) = meaning-value_meaning e

  -- the value of a text is the value of its tree
  pub reads-value_meaning : (text : List ℕ) → reads (value_meaning table strict u) (needs []) text ≡ option_map (value_of_tree table strict u) (expression_of text)
  reads-value_meaning text = grind (arith, reads_meaning, meaning-value_meaning)

-- a text that isn't an expression is unknown
pub cond-none : (table : List Argument) (rules : Rules) (u : Bool) (text : List ℕ) → None ≡ reads (value_meaning table rules.strict u) (needs []) text → Unknown ≡ expression_cond text table rules
unfolding expression_cond
cond-none table rules u text e = grind (arith, reads-value_meaning)

-- a text is evaluated with signed numbers first; the value with its own least number decides the
-- condition
pub cond-some : (table : List Argument) (rules : Rules) (u : Bool) (text : List ℕ) (v w : Value) → Some v ≡ reads (value_meaning table rules.strict false) (needs []) text → v.unsigned ≡ u →
    Some w ≡ reads (value_meaning table rules.strict u) (needs []) text → cond_of_value rules w ≡ expression_cond text table rules
unfolding expression_cond
cond-some table rules u text v w e h f = grind (arith, reads-value_meaning)
