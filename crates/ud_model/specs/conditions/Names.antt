-- Names: the names in a condition, as listed.
-- unifdef(1), `-s` and `-S`.
--
-- Example: ` F(X) + defined(Y) > 1` has the names F and Y.
use Rattle.std.specs.Prelude.{ℕ, List, [], ◌∷◌, ◌++◌, Option, Some, None, if◌then◌else◌}
use Rattle.ud_model.specs.sections.Directives.{Directive, test_of}
use Rattle.ud_model.specs.conditions.Expressions.{Expression, constant, named, is_defined, unary}
use Rattle.ud_model.specs.conditions.Expressions.{binary, parens}
use Rattle.ud_model.specs.conditions.Parsing.{expression_of}
use Rattle.ud_model.specs.conditions.Conditions.{sole_name}
use Rattle.ud_model.specs.declared.kind.Kind.{Kind}
use Rattle.ud_model.specs.declared.kind.Test.{Test}
use Rattle.ud_model.specs.declared.kind.Test.TheVariants.{Nonzero, Defined, Undefined, Nothing}

-- `names_in e`: the name of each operand and each `defined` of the tree `e`, in order and with
-- repeats.
abbrev pub names_in : Expression → List (List ℕ)
names_in (constant w) = []
names_in (named n arguments) = n ∷ []
names_in (is_defined n parentheses) = n ∷ []
names_in (unary o a) = names_in a
names_in (binary o a b) = names_in a ++ names_in b
names_in (parens a) = names_in a

-- `names_in_tree tree`: the names of a tree, or none if there is no tree.
abbrev pub names_in_tree : Option Expression → List (List ℕ)
names_in_tree None = []
names_in_tree (Some e) = names_in e

-- `name_alone name`: the name alone, or none if there is no name.
abbrev pub name_alone : Option (List ℕ) → List (List ℕ)
name_alone None = []
name_alone (Some name) = name ∷ []

-- `names_by test after`: the names of the text `after`, by its test.
abbrev pub names_by : Test → List ℕ → List (List ℕ)
names_by Nonzero after = names_in_tree (expression_of after)
names_by Defined after = name_alone (sole_name after)
names_by Undefined after = name_alone (sole_name after)
names_by Nothing after = []

-- `names_of kind after`: the names of the text `after` a keyword of this kind.
abbrev pub names_of : Kind → List ℕ → List (List ℕ)
names_of kind after = names_by (test_of kind) after

-- `names_on d`: the names of the directive `d`, or none if it is broken.
abbrev pub names_on : Directive → List (List ℕ)
names_on d = if d.broken then [] else names_of d.kind d.after
