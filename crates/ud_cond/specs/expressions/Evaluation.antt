-- Evaluation: the value that is kept of an expression while it is read.
-- A value is a number and three facts, as `ud_model.specs.conditions.Values` and
-- `ud_model.specs.conditions.Conditions` define them. The value of an expression comes from the
-- values of its parts, so no tree is needed.
--
--   value_meaning table strict u     the value of each part of an expression
--   value_of_tree table strict u e   the value of a tree
--   cond_of_value rules v            the condition that a value decides
use Rattle.std.specs.Prelude.{ℕ, List, [], Option, Some, None, Bool, true, false, ◌||◌, ◌&&◌, not}
use Rattle.std.specs.Prelude.{if◌then◌else◌}
use Rattle.std.specs.Borrow.{Bor}
use Rattle.ud_model.specs.conditions.Table.{Argument, entry_in}
use Rattle.ud_model.specs.conditions.Constants.{has_u}
use Rattle.ud_model.specs.conditions.Symbols.{resolve}
use Rattle.ud_model.specs.conditions.Expressions.{Expression}
use Rattle.ud_model.specs.conditions.Parsing.{Meaning}
use Rattle.ud_model.specs.conditions.Values.{constant_value, amount_from, end_value, name_value}
use Rattle.ud_model.specs.conditions.Values.{name_has_u, defined_value, unary_amount}
use Rattle.ud_model.specs.conditions.Values.{binary_amount, number_of, has_unsigned}
use Rattle.ud_model.specs.conditions.Conditions.{Rules, is_listed, undefined_by, mentions_listed}
use Rattle.ud_model.specs.conditions.Conditions.{calls_undefined, truth_of}
use Rattle.ud_model.specs.declared.operator.Operator.{Operator}
use Rattle.ud_model.specs.declared.cond.Cond.{Cond}
use Rattle.ud_model.specs.declared.cond.Cond.TheVariants.{Unknown}
use Rattle.ud_cond.specs.expressions.Keepings.{Keeping}
use Rattle.ud_cond.specs.declared.expressions.values.Value.{Value}
use Rattle.ud_cond.specs.declared.expressions.values.Scope.{Scope}

-- `constant_value_of w`: the value of the constant `w`.
abbrev pub constant_value_of : List ℕ → Value
constant_value_of w = record {
  number = amount_from false (constant_value w);
  unsigned = has_u w;
  listed = false;
  calls_undefined = false;
}

module _ (table : List Argument) where
  -- `name_value_of table u n arguments`: the value of the name `n`, with arguments or without.
  abbrev pub name_value_of : Bool → List ℕ → Bool → Value
  name_value_of u n arguments =
      record {
        number = name_value table u n;
        unsigned = name_has_u table n;
        listed =
            is_listed table n;
        calls_undefined = arguments && undefined_by (entry_in table n);
      }

  -- `defined_name_value_of table u n`: the value of the name `n`, which the table defines.
  abbrev pub defined_name_value_of : Bool → List ℕ → Value
  defined_name_value_of u n = record {
    number = end_value u (resolve table n);
    unsigned =
        name_has_u table n;
    listed = true;
    calls_undefined = false;
  }

  -- `defined_value_of table n`: the value of `defined` and the name `n`.
  abbrev pub defined_value_of : List ℕ → Value
  defined_value_of n = record {
    number = amount_from false (defined_value table n);
    unsigned = false;
    listed =
        is_listed table n;
    calls_undefined = false;
  }

-- `unary_value_of u o a`: the value of the prefix operator `o` and its operand `a`.
abbrev pub unary_value_of : Bool → Operator → Value → Value
unary_value_of u o a = record a { number = unary_amount u o a.number }

-- `binary_value_of strict u o a b`: the value of `o` between `a` and `b`.
abbrev pub binary_value_of : Bool → Bool → Operator → Value → Value → Value
binary_value_of strict u o a b = record {
  number = binary_amount strict u o a.number b.number;
  unsigned = a.unsigned || b.unsigned;
  listed = a.listed || b.listed;
  calls_undefined = a.calls_undefined || b.calls_undefined;
}

-- `value_meaning table strict u`: the value of each part of an expression. `u`: the whole
-- expression has a `u`.
abbrev pub value_meaning : List Argument → Bool → Bool → Meaning Value
value_meaning table strict u = record {
  constant = constant_value_of;
  named = name_value_of table u;
  is_defined = λ n parentheses. defined_value_of table n;
  unary = unary_value_of u;
  binary = binary_value_of strict u;
  parens = λ a. a;
}

-- `rows_in symbols`: the rows of the table, or none without a table.
abbrev pub rows_in : Option (Bor (List Argument)) → List Argument
rows_in None = []
rows_in (Some symbols) = symbols.now

-- `table_in s`: the table of a scope, which is empty if the scope has none.
abbrev pub table_in : Scope → List Argument
table_in s = rows_in s.symbols

-- `value_meaning_in s`: the value of each part of an expression in a scope.
abbrev pub value_meaning_in : Scope → Meaning Value
value_meaning_in s = value_meaning (table_in s) s.strict s.unsigned

-- `value_keeping`: a program keeps the values themselves, and no notes.
abbrev pub value_keeping : Keeping Value Value (Unit {0})
value_keeping = record { part = λ v n. v; flags = λ v. []; notes = λ n. None }

-- `value_of_tree table strict u e`: the value of the tree `e`.
abbrev pub value_of_tree : List Argument → Bool → Bool → Expression → Value
value_of_tree table strict u e = record {
  number = number_of table strict u e;
  unsigned = has_unsigned table e;
  listed = mentions_listed table e;
  calls_undefined = calls_undefined table e;
}

-- `cond_of_value rules v`: the condition that the value `v` decides.
abbrev pub cond_of_value : Rules → Value → Cond
cond_of_value rules v =
    if v.calls_undefined || not (rules.constants || v.listed) then Unknown
    else truth_of v.number
