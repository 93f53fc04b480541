-- Decided conditions: the condition of a text is that of its tree, and a decided condition has C's
-- truth.
use Rattle.std.proofs.Common.{◌≡◌, ◌≢◌, ℕ, Bool, List, [], Option, Some, None, refl, ap, pos, int_lt, arith}
use Rattle.ud_model.specs.conditions.Table.{Argument}
use Rattle.ud_model.specs.conditions.Expressions.{Expression, IsWritten}
use Rattle.ud_model.specs.conditions.Parsing.{expression_of}
use Rattle.ud_model.specs.conditions.Conditions.{Rules, truth_of, tree_cond, tree_cond_if, expression_cond, negate}
use Rattle.ud_model.specs.conditions.Values.{has_unsigned, value_of}
use Rattle.ud_model.specs.conditions.Names.{names_in, names_in_tree, names_of}
use Rattle.ud_model.specs.laws.CValues.{Number, number, IsCValue}
use Rattle.ud_model.specs.declared.amount.Amount.{Amount}
use Rattle.ud_model.specs.declared.cond.Cond.{Cond}
use Rattle.ud_model.specs.declared.cond.Cond.TheVariants.{Yes, No, Unknown}
use Rattle.ud_model.specs.declared.kind.Kind.TheVariants.{If}
use Rattle.ud_model.proofs.conditions.OneExpression.{expression_only, expression_is}
use Rattle.ud_model.proofs.conditions.KnownStays.{Fits, agrees_number, value_fits}

-- The condition of a text is that of its tree.
pub cond_of_tree : (text : List ℕ) (e : Expression) (table : List Argument) (rules : Rules) → IsWritten text e → expression_cond text table rules ≡ tree_cond e table rules
unfolding expression_cond
cond_of_tree text e table rules p = ap (λ o. tree_cond_if o table rules) (expression_only text e p)

cond_of_none : (text : List ℕ) (table : List Argument) (rules : Rules) (o : Option Expression) → expression_of text ≡ o → ((e : Expression) → IsWritten text e → ⊥) →
    tree_cond_if o table rules ≡ Unknown
cond_of_none text table rules None d h = refl
cond_of_none text table rules (Some e) d h = absurd (h e (expression_is text e d))

-- A text without a tree is undecided.
pub cond_without_tree : (text : List ℕ) (table : List Argument) (rules : Rules) → ((e : Expression) → IsWritten text e → ⊥) → expression_cond text table rules ≡ Unknown
unfolding expression_cond
cond_without_tree text table rules h = cond_of_none text table rules (expression_of text) refl h

-- The names of a text are those of its tree.
pub names_of_tree : (text : List ℕ) (e : Expression) → IsWritten text e → names_of If text ≡ names_in e
names_of_tree text e p = ap names_in_tree (expression_only text e p)

names_of_none : (text : List ℕ) (o : Option Expression) → expression_of text ≡ o → ((e : Expression) → IsWritten text e → ⊥) → names_in_tree o ≡ []
names_of_none text None d h = refl
names_of_none text (Some e) d h = absurd (h e (expression_is text e d))

-- A text without a tree has no names.
pub names_without_tree : (text : List ℕ) → ((e : Expression) → IsWritten text e → ⊥) → names_of If text ≡ []
names_without_tree text h = names_of_none text (expression_of text) refl h

yes_by : (u : Bool) (a : Amount) (c : Number) → Fits u a c → truth_of a ≡ Yes → number c ≢ pos 0
yes_by u a c f e = grind (arith, agrees_number, int_lt)

no_by : (u : Bool) (a : Amount) (c : Number) → Fits u a c → truth_of a ≡ No → number c ≡ pos 0
no_by u a c f e = grind (arith, agrees_number, int_lt)

-- A condition that is true has only C values other than 0.
pub yes_is_true : (table : List Argument) (rules : Rules) (e : Expression) (c : Number) → tree_cond e table rules ≡ Yes → IsCValue table e c → number c ≢ pos 0
yes_is_true table rules e c d v = yes_by (has_unsigned table e) (value_of table rules.strict e) c (value_fits table rules.strict e c v) (grind arith)

-- A condition that is false has no C value but 0.
pub no_is_false : (table : List Argument) (rules : Rules) (e : Expression) (c : Number) → tree_cond e table rules ≡ No → IsCValue table e c → number c ≡ pos 0
no_is_false table rules e c d v = no_by (has_unsigned table e) (value_of table rules.strict e) c (value_fits table rules.strict e c v) (grind arith)

pub negated_unknown : (c : Cond) → negate c ≡ Unknown → c ≡ Unknown
negated_unknown c e = grind arith
