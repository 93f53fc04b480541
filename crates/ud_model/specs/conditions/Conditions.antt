-- Conditions: the decision of the table on a directive.
-- C11 6.10.1; unifdef(1): a condition that isn't decided or not understood is unknown.
--
--   Decision                                  a condition, and whether its section is plain text
--   tree_cond e table rules                   the condition of the tree of an `#if` or `#elif`
--   expression_cond after table rules         the condition of a text; without a tree it is
--                                             unknown
--   decision_by_test test after table rules   the decision on a text by its test
--   condition_of kind after table rules       the decision on the text after a keyword
--   decision_on scan d table rules            the decision on a directive in its line
--
-- Example: with A undefined, `A && X` is no, and unknown under `strict`; `X || 1` is unknown unless
-- `constants`.
use Rattle.std.specs.Prelude.{ℕ, List, Bool, true, false, not, ◌&&◌, ◌||◌, Option, Some, None}
use Rattle.std.specs.Prelude.{is_some, if◌then◌else◌, pos, int_lt}
use Rattle.ud_model.specs.text.Bytes.{skip_white, leading_word, skip_word, are_white, is_identifier}
use Rattle.ud_model.specs.text.Scans.{Scan}
use Rattle.ud_model.specs.sections.Directives.{Directive, role_of, test_of}
use Rattle.ud_model.specs.conditions.Table.{Argument, Entry, entry_in}
use Rattle.ud_model.specs.conditions.Expressions.{Expression, constant, named, is_defined, unary}
use Rattle.ud_model.specs.conditions.Expressions.{binary, parens}
use Rattle.ud_model.specs.conditions.Parsing.{expression_of}
use Rattle.ud_model.specs.conditions.Values.{is_zero, value_of}
use Rattle.ud_model.specs.declared.amount.Amount.{Amount}
use Rattle.ud_model.specs.declared.amount.Amount.TheVariants.{Anything, Exactly, AtLeast}
use Rattle.ud_model.specs.declared.cond.Cond.{Cond}
use Rattle.ud_model.specs.declared.cond.Cond.TheVariants.{Yes, No, Unknown}
use Rattle.ud_model.specs.declared.kind.Kind.{Kind}
use Rattle.ud_model.specs.declared.kind.Role.{Role}
use Rattle.ud_model.specs.declared.kind.Role.TheVariants.{IfGroup, ElifGroup, ElseGroup, EndifLine}
use Rattle.ud_model.specs.declared.kind.Test.{Test}
use Rattle.ud_model.specs.declared.kind.Test.TheVariants.{Nonzero, Defined, Undefined, Nothing}

-- The decision on a directive: its condition, and whether its section is plain text.
pub record Decision : Type 0 where
  pub cond : Cond
  pub ignoring : Bool

-- The rules for expressions. `constants`: an expression that names no listed symbol has a value
-- too. `strict`: `&&` and `||` are unknown if an operand is.
pub record Rules : Type 0 where
  pub constants : Bool
  pub strict : Bool

-- `with_strict rules`: the rules `rules`, with `-K`.
abbrev pub with_strict : Rules → Rules
with_strict rules = record rules { strict = true }

-- `without_strict rules`: the rules `rules`, without `-K`.
abbrev pub without_strict : Rules → Rules
without_strict rules = record rules { strict = false }

-- The decision of an unknown condition.
abbrev pub undecided : Decision
undecided = record { cond = Unknown; ignoring = false }

-- `sole_name after`: the identifier that is all of `after`, white space around it aside, or None.
abbrev pub sole_name : List ℕ → Option (List ℕ)
sole_name after =
    if is_identifier (leading_word (skip_white after)) && are_white (skip_word (skip_white after))
    then Some (leading_word (skip_white after)) else None

-- `ifdef_by entry`: the decision on an `#ifdef` by the entry of its name.
abbrev pub ifdef_by : Option Entry → Decision
ifdef_by None = undecided
ifdef_by (Some e) = record { cond = defined_by e.value; ignoring = e.ignoring }
  where
    defined_by : Option (List ℕ) → Cond
    defined_by None = No
    defined_by (Some value) = Yes

-- `ifdef_decision name table`: the decision on an `#ifdef` of `name`, or undecided without a name.
abbrev pub ifdef_decision : Option (List ℕ) → List Argument → Decision
ifdef_decision None table = undecided
ifdef_decision (Some name) table = ifdef_by (entry_in table name)

-- `negate c`: yes for no, no for yes, and unknown for unknown.
abbrev pub negate : Cond → Cond
negate Yes = No
negate No = Yes
negate Unknown = Unknown

-- `undefined_by entry`: the entry undefines its name.
abbrev pub undefined_by : Option Entry → Bool
undefined_by None = false
undefined_by (Some e) = not (is_some e.value)

module _ (table : List Argument) where
  -- `is_listed n`: some argument of the table names `n`.
  abbrev pub is_listed : List ℕ → Bool
  is_listed n = is_some (entry_in table n)

  -- `mentions_listed e`: `e` has a listed name, as an operand or after `defined`.
  abbrev pub mentions_listed : Expression → Bool
  mentions_listed (constant w) = false
  mentions_listed (named n arguments) = is_listed n
  mentions_listed (is_defined n parentheses) = is_listed n
  mentions_listed (unary o a) = mentions_listed a
  mentions_listed (binary o a b) = mentions_listed a || mentions_listed b
  mentions_listed (parens a) = mentions_listed a

  -- `calls_undefined e`: `e` has a name with arguments that the table undefines.
  abbrev pub calls_undefined : Expression → Bool
  calls_undefined (constant w) = false
  calls_undefined (named n arguments) = arguments && undefined_by (entry_in table n)
  calls_undefined (is_defined n parentheses) = false
  calls_undefined (unary o a) = calls_undefined a
  calls_undefined (binary o a b) = calls_undefined a || calls_undefined b
  calls_undefined (parens a) = calls_undefined a

-- `truth_of value`: no if the value is 0, yes if it can only be another number, else unknown.
abbrev pub truth_of : Amount → Cond
truth_of Anything = Unknown
truth_of (Exactly z) = if is_zero z then No else Yes
truth_of (AtLeast n) = if int_lt (pos 0) n then Yes else Unknown

-- `tree_cond e table rules`: the condition of the tree `e`, by its value. It is unknown if an
-- undefined name has arguments, and, unless `constants`, if no name is listed.
abbrev pub tree_cond : Expression → List Argument → Rules → Cond
tree_cond e table rules =
    if calls_undefined table e || not (rules.constants || mentions_listed table e) then Unknown
    else truth_of (value_of table rules.strict e)

-- `tree_cond_if tree table rules`: the condition of a tree, or unknown if there is none.
abbrev pub tree_cond_if : Option Expression → List Argument → Rules → Cond
tree_cond_if None table rules = Unknown
tree_cond_if (Some e) table rules = tree_cond e table rules

-- `expression_cond after table rules`: the condition of the tree of `after`, or unknown if there is
-- none. A text has one tree at most, and `expression_of` finds it.
unfoldable pub expression_cond : List ℕ → List Argument → Rules → Cond
expression_cond after table rules = tree_cond_if (expression_of after) table rules

-- `decision_by_test test after table rules`: the decision on the text `after` by its test: the
-- value of an expression, or that a name is defined or isn't.
abbrev pub decision_by_test : Test → List ℕ → List Argument → Rules → Decision
decision_by_test Nonzero after table rules =
    record { cond = expression_cond after table rules; ignoring = false }
decision_by_test Defined after table rules = ifdef_decision (sole_name after) table
decision_by_test Undefined after table rules =
    record (ifdef_decision (sole_name after) table) {
      cond =
          negate (ifdef_decision (sole_name after) table).cond;
    }
decision_by_test Nothing after table rules = undecided

-- `begins_section role`: a directive with this role begins a section.
abbrev pub begins_section : Role → Bool
begins_section IfGroup = true
begins_section ElifGroup = false
begins_section ElseGroup = false
begins_section EndifLine = false

-- `condition_of kind after table rules`: the decision on the text `after` a keyword of this kind.
-- Only a directive that begins a section makes it plain text.
abbrev pub condition_of : Kind → List ℕ → List Argument → Rules → Decision
condition_of kind after table rules =
    record (decision_by_test (test_of kind) after table rules) {
      ignoring =
          begins_section (role_of kind) &&
          (decision_by_test (test_of kind) after table rules).ignoring;
    }

-- `decision_on scan d table rules`: the decision on the directive `d`. A broken directive is
-- undecided, and one that joins the next line doesn't make its section plain text.
abbrev pub decision_on : Scan → Directive → List Argument → Rules → Decision
decision_on scan d table rules =
    if d.broken then undecided
    else record (condition_of d.kind d.after table rules) {
      ignoring =
          (condition_of d.kind d.after table rules).ignoring && not scan.joins_after;
    }
