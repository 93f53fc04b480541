-- Written conditions: the condition of a directive, as it is written, and the expression that it
-- means (C11 6.10.1).
use Rattle.std.specs.Prelude.{ℕ, List, [], false, Option, None, option_map, if◌then◌else◌, Bool}
use Rattle.std.specs.Prelude.{true}
use Rattle.ud_model.specs.text.Scans.{Scan, Reading}
use Rattle.ud_model.specs.sections.Directives.{Content, cut_keyword, directive, text, content_of}
use Rattle.ud_model.specs.sections.Directives.{test_of}
use Rattle.ud_model.specs.conditions.Expressions.{Expression, is_defined, unary}
use Rattle.ud_model.specs.conditions.Parsing.{expression_of}
use Rattle.ud_model.specs.conditions.Conditions.{sole_name}
use Rattle.ud_model.specs.declared.kind.Kind.{Kind}
use Rattle.ud_model.specs.declared.kind.Test.{Test}
use Rattle.ud_model.specs.declared.kind.Test.TheVariants.{Nonzero, Defined, Undefined, Nothing}
use Rattle.ud_model.specs.declared.operator.Operator.TheVariants.{Not}
use Rattle.ud_model.specs.aids.SpacedBytes.{spaced}

-- `condition_by_test test after`: the expression that the text `after` means, by its test.
-- `#ifdef n` is `#if defined n`, and `#ifndef n` is `#if !defined n` (6.10.1p5).
abbrev pub condition_by_test : Test → List ℕ → Option Expression
condition_by_test Nonzero after = expression_of after
condition_by_test Defined after = option_map (λ n. is_defined n false) (sole_name after)
condition_by_test Undefined after =
    option_map (λ n. unary Not (is_defined n false)) (sole_name after)
condition_by_test Nothing after = None

-- `condition_after kind after`: the expression that the text `after` a keyword means.
abbrev pub condition_after : Kind → List ℕ → Option Expression
condition_after kind after = condition_by_test (test_of kind) after

-- `condition_by scan content`: the expression of a line with this content. It isn't known if the
-- line joins the next one.
abbrev pub condition_by : Scan → Content → Option Expression
condition_by scan cut_keyword = None
condition_by scan text = None
condition_by scan (directive d) = if scan.joins_after then None else condition_after d.kind d.after

-- `condition_in r`: the expression that is the condition of the directive on the line `r`.
abbrev pub condition_in : Reading → Option Expression
condition_in r = condition_by r.scan (content_of r.scan)

-- The condition of a directive, as written: its test, the masked text after the keyword, and
-- whether it continues on the next line. White space counts as one space before a byte.
pub record Condition : Type 0 where
  pub test : Test
  pub text : List ℕ
  pub goes_on : Bool

-- `no_condition`: the condition of a line that has none.
abbrev pub no_condition : Condition
no_condition = record { test = Nothing; text = []; goes_on = false }

-- `condition_of_test test after on`: the condition with this test and the text `after` the keyword.
abbrev pub condition_of_test : Test → List ℕ → Bool → Condition
condition_of_test Nothing after on = no_condition
condition_of_test test after on = record { test = test; text = spaced true after; goes_on = on }

-- `condition_with scan content`: the condition of a line with this content.
abbrev pub condition_with : Scan → Content → Condition
condition_with scan cut_keyword = no_condition
condition_with scan text = no_condition
condition_with scan (directive d) = condition_of_test (test_of d.kind) d.after scan.joins_after

-- `condition_on r`: the condition of the directive on the line `r`.
abbrev pub condition_on : Reading → Condition
condition_on r = condition_with r.scan (content_of r.scan)
