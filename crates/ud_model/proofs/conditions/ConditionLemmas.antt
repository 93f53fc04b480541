-- Conditions: tables with the same entry for every name decide alike.
use Rattle.std.proofs.Common.{◌≡◌, ℕ, List, Bool, false, ◌||◌, Option, is_some, refl, ap, ap₂, arith, rules}
use Rattle.ud_model.specs.conditions.Table.{Argument}
use Rattle.ud_model.specs.conditions.Expressions.{Expression, constant, named, is_defined, unary, binary, parens}
use Rattle.ud_model.specs.conditions.Parsing.{expression_of}
use Rattle.ud_model.specs.conditions.Values.{amount_from, unary_amount, binary_amount, name_value, name_value_by, name_has_u, end_has_u, defined_value, defined_value_by, number_of, has_unsigned}
use Rattle.ud_model.specs.conditions.Conditions.{Rules, mentions_listed, calls_undefined, tree_cond, tree_cond_if, expression_cond, decision_by_test, condition_of}
use Rattle.ud_model.specs.declared.kind.Kind.{Kind}
use Rattle.ud_model.specs.declared.kind.Test.{Test}
use Rattle.ud_model.proofs.conditions.SymbolLemmas.{SaySame, end_same}

module _ (t u : List Argument) (same : SaySame t u) where
  pub name_value_same : (b : Bool) (n : List ℕ) → name_value t b n ≡ name_value u b n
  unfolding name_value
  name_value_same b n = ap₂ (name_value_by b) (end_same t u same n) (same n)

  -- The constant to which a name resolves has a `u` by both tables or by none.
  pub name_has_u_same : (n : List ℕ) → name_has_u t n ≡ name_has_u u n
  unfolding name_has_u
  name_has_u_same n = ap end_has_u (end_same t u same n)

  pub defined_value_same : (n : List ℕ) → defined_value t n ≡ defined_value u n
  unfolding defined_value
  defined_value_same n = ap defined_value_by (same n)

  -- A tree has the same value by both tables, beside a `u` and without one.
  pub number_of_same : (strict b : Bool) (e : Expression) → number_of t strict b e ≡ number_of u strict b e
  number_of_same strict b (constant w) = refl
  number_of_same strict b (named n a) = name_value_same b n
  number_of_same strict b (is_defined n p) = ap (amount_from false) (defined_value_same n)
  number_of_same strict b (unary o x) = ap (unary_amount b o) (number_of_same strict b x)
  number_of_same strict b (binary o x y) = ap₂ (binary_amount strict b o) (number_of_same strict b x) (number_of_same strict b y)
  number_of_same strict b (parens x) = number_of_same strict b x

  pub has_unsigned_same : (e : Expression) → has_unsigned t e ≡ has_unsigned u e
  has_unsigned_same (named n a) = name_has_u_same n
  has_unsigned_same (unary o x) = has_unsigned_same x
  has_unsigned_same (binary o x y) = ap₂ (λ (a : Bool) (b : Bool). a || b) (has_unsigned_same x) (has_unsigned_same y)
  has_unsigned_same (parens x) = has_unsigned_same x
  has_unsigned_same _ = refl

  -- A listed name is in a tree by both tables or by none.
  pub names_listed_same : (e : Expression) → mentions_listed t e ≡ mentions_listed u e
  names_listed_same (unary o x) = names_listed_same x
  names_listed_same (binary o x y) = ap₂ (λ (a : Bool) (b : Bool). a || b) (names_listed_same x) (names_listed_same y)
  names_listed_same (parens x) = names_listed_same x
  names_listed_same e = grind (arith, is_some)

  -- An undefined name with arguments is in a tree by both tables or by none.
  pub calls_undefined_same : (e : Expression) → calls_undefined t e ≡ calls_undefined u e
  calls_undefined_same (unary o x) = calls_undefined_same x
  calls_undefined_same (binary o x y) = ap₂ (λ (a : Bool) (b : Bool). a || b) (calls_undefined_same x) (calls_undefined_same y)
  calls_undefined_same (parens x) = calls_undefined_same x
  calls_undefined_same e = grind arith

  -- A tree has the same condition by both tables.
  pub tree_cond_same : (e : Expression) (rules : Rules) → tree_cond e t rules ≡ tree_cond e u rules
  tree_cond_same e rules = simp (calls_undefined_same, names_listed_same, has_unsigned_same, number_of_same)

  tree_cond_if_same : (o : Option Expression) (rules : Rules) → tree_cond_if o t rules ≡ tree_cond_if o u rules
  tree_cond_if_same o rules = grind (arith, tree_cond_same)

  pub expression_cond_same : (text : List ℕ) (rules : Rules) → expression_cond text t rules ≡ expression_cond text u rules
  unfolding expression_cond
  expression_cond_same text rules = tree_cond_if_same (expression_of text) rules

  decided_by_same : (p : Test) (text : List ℕ) (rules : Rules) → decision_by_test p text t rules ≡ decision_by_test p text u rules
  decided_by_same p text rules = grind (arith, expression_cond_same)

  pub condition_of_same : (k : Kind) (text : List ℕ) (rules : Rules) → condition_of k text t rules ≡ condition_of k text u rules
  condition_of_same k text rules = grind (arith, decided_by_same)
