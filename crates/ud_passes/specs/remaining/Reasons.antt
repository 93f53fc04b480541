-- Reasons: why a condition that names a symbol of the options stays, though operands are removed.
-- These are the cases of the law in `ud_laws.specs.output.LeftOperands`.
--
--   why_stays table rules kind m   the reason of the condition `m`
--   reason_of table listing m      the reason that the list gives for the mention `m`, if any
--   phrase reason                  the reason in words
--   reason_text reason             the same before the text of a line, if any
--
-- The first reason that applies counts. A condition from which no operand can be removed, and which
-- names no listed symbol as an operand, names one in the arguments of a call.
--
-- Example: with A undefined, `#if F(A)` stays for its arguments, `#if A + X` because an operand is
-- unknown, and `#if!A&&X` because its rest would be `#ifX`.
use Rattle.std.specs.Prelude.{ℕ, List, [], ◌++◌, length, Bool, not, leb, Option, Some, None}
use Rattle.std.specs.Prelude.{codes, if◌then◌else◌}
use Rattle.std.specs.List.{list_any}
use Rattle.ud_model.specs.conditions.Table.{Argument}
use Rattle.ud_model.specs.conditions.Expressions.{Expression}
use Rattle.ud_model.specs.conditions.Names.{names_in}
use Rattle.ud_model.specs.conditions.Conditions.{Rules, condition_of, is_listed}
use Rattle.ud_model.specs.aids.Residuals.{is_unknown, keeps}
use Rattle.ud_model.specs.conditions.Parsing.{expression_of}
use Rattle.ud_model.specs.sections.Directives.{test_of}
use Rattle.ud_model.specs.declared.kind.Test.{Test}
use Rattle.ud_model.specs.declared.kind.Test.TheVariants.{Nonzero, Defined, Undefined, Nothing}
use Rattle.ud_model.specs.declared.limits.TheConstants.{MAX_LINE_BYTES}
use Rattle.ud_model.specs.declared.kind.Kind.{Kind}
use Rattle.ud_cond.specs.CondViews.{as_rules}
use Rattle.ud_passes.specs.remaining.Mentions.{Mention}
use Rattle.ud_passes.specs.declared.remaining.listing.Listing.{Listing}
use Rattle.ud_passes.specs.declared.remaining.listing.Listing.TheVariants.{Explained}
use Rattle.ud_passes.specs.declared.remaining.mentions.Class.{Class}
use Rattle.ud_passes.specs.declared.remaining.mentions.Class.TheVariants.{Condition, Definition}
use Rattle.ud_passes.specs.declared.remaining.mentions.Class.TheVariants.{Closing}
use Rattle.ud_passes.specs.declared.remaining.reasons.Reason.{Reason}
use Rattle.ud_passes.specs.declared.remaining.reasons.Reason.TheVariants.{SeveralLines, Decided}
use Rattle.ud_passes.specs.declared.remaining.reasons.Reason.TheVariants.{NotUnderstood, Misread}
use Rattle.ud_passes.specs.declared.remaining.reasons.Reason.TheVariants.{InArguments}
use Rattle.ud_passes.specs.declared.remaining.reasons.Reason.TheVariants.{UnknownOperand}
use Rattle.ud_passes.specs.declared.remaining.reasons.Reason.TheVariants.{SourceDefines, InComment}

-- `over_lines reason`: the reason of a condition on several lines. If it would be decided on one,
-- or lose operands, it stays because it is on several.
abbrev pub over_lines : Reason → Reason
over_lines Decided = SeveralLines
over_lines Misread = SeveralLines
over_lines reason = reason

module _ (table : List Argument) (rules : Rules) where
  -- `can_shrink e`: the residual of the tree `e` lacks some of its tokens.
  abbrev pub can_shrink : Expression → Bool
  can_shrink e = list_any not (keeps table rules e)

  -- `why_tree tree`: the reason of an unknown `#if` or `#elif` with this tree.
  abbrev pub why_tree : Option Expression → Reason
  why_tree None = NotUnderstood
  why_tree (Some e) =
      if can_shrink e then Misread
      else if list_any (is_listed table) (names_in e) then UnknownOperand
      else InArguments

  -- `why_unknown test after`: the reason of an unknown condition, by its test. An `#ifdef` with a
  -- listed word would be decided if it were understood.
  abbrev pub why_unknown : Test → List ℕ → Reason
  why_unknown Nonzero after = why_tree (expression_of after)
  why_unknown Defined after = NotUnderstood
  why_unknown Undefined after = NotUnderstood
  why_unknown Nothing after = NotUnderstood

  -- `why_read kind after`: why the condition of a directive of this kind stays, if it is on one
  -- line and one of its words is listed.
  abbrev pub why_read : Kind → List ℕ → Reason
  why_read kind after =
      if is_unknown (condition_of kind after table rules).cond then why_unknown (test_of kind) after
      else Decided

  -- `why_stays kind m`: why the condition `m` stays, on one line or several.
  abbrev pub why_stays : Kind → Mention → Reason
  why_stays kind m =
      if not (leb (length m.after) MAX_LINE_BYTES) then SeveralLines
      else if m.spanning then over_lines (why_read kind m.after)
      else why_read kind m.after

-- `reason_by table class listing m`: the reason that the list gives for the mention `m` of this
-- class.
abbrev pub reason_by : List Argument → Class → Listing → Mention → Option Reason
reason_by table Definition listing m = Some SourceDefines
reason_by table Closing listing m = Some InComment
reason_by table (Condition kind) (Explained rules) m =
    Some (why_stays table (as_rules rules) kind m)
reason_by table (Condition kind) listing m = None

-- `reason_of table listing m`: the reason that the list gives for the mention `m`, if any.
abbrev pub reason_of : List Argument → Listing → Mention → Option Reason
reason_of table listing m = reason_by table m.class listing m

-- `phrase reason`: the reason in words.
abbrev pub phrase : Reason → List ℕ
phrase SeveralLines = codes "over several lines"
phrase Decided = codes "decided as C"
phrase NotUnderstood = codes "not understood"
phrase Misread = codes "its rest would be misread"
phrase InArguments = codes "among arguments of a call"
phrase UnknownOperand = codes "an operand is unknown"
phrase SourceDefines = codes "the source defines it"
phrase InComment = codes "a comment names it"

-- `reason_text reason`: the reason in words before the text of a line, if any.
abbrev pub reason_text : Option Reason → List ℕ
reason_text None = []
reason_text (Some reason) = phrase reason ++ codes ": "
