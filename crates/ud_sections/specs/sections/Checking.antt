-- Checking: the machine's check of a directive, by the open sections and the line before.
use Rattle.std.specs.Prelude.{ℕ, ◌==◌, Bool, true, false, not, ◌&&◌, ◌||◌, if◌then◌else◌, Option}
use Rattle.std.specs.Prelude.{Some, None, Result, Ok, Err}
use Rattle.ud_model.specs.sections.Faults.{keeps_rest}
use Rattle.ud_model.specs.declared.kind.Role.{Role}
use Rattle.ud_model.specs.declared.kind.Role.TheVariants.{IfGroup, ElifGroup, ElseGroup, EndifLine}
use Rattle.ud_model.specs.declared.limits.TheConstants.{MAX_DEPTH}
use Rattle.ud_sections.specs.declared.sections.fault.SectionFault.{SectionFault}
use Rattle.ud_sections.specs.declared.sections.fault.SectionFault.TheVariants.{InappropriateElif}
use Rattle.ud_sections.specs.declared.sections.fault.SectionFault.TheVariants.{InappropriateElse}
use Rattle.ud_sections.specs.declared.sections.fault.SectionFault.TheVariants.{InappropriateEndif}
use Rattle.ud_sections.specs.declared.sections.fault.SectionFault.TheVariants.{TooManyLevels}
use Rattle.ud_sections.specs.declared.sections.fault.SectionFault.TheVariants.{Obfuscated}
use Rattle.ud_sections.specs.declared.sections.open_section.StackOp.{StackOp}
use Rattle.ud_sections.specs.declared.sections.open_section.StackOp.TheVariants.{Stay, Push}
use Rattle.ud_sections.specs.declared.sections.open_section.StackOp.TheVariants.{Replace, Pop}
use Rattle.ud_sections.specs.declared.sections.open_section.Action.{Action}
use Rattle.ud_sections.specs.declared.sections.check.LineContext.{LineContext}
use Rattle.ud_sections.specs.declared.sections.classify_line.ClassifiedLine.{ClassifiedLine}
use Rattle.ud_sections.specs.sections.Actions.{act}

-- `opens_section change`: the change opens a section.
abbrev pub opens_section : StackOp → Bool
opens_section Stay = false
opens_section (Push l) = true
opens_section (Replace l) = false
opens_section Pop = false

-- `is_obfuscated_by removed s a`: the directive `s` spans lines and would have to be edited or
-- removed. `removed`: the line before was removed.
abbrev pub is_obfuscated_by : Bool → ClassifiedLine → Action → Bool
is_obfuscated_by removed s a =
    s.spans && a.kept && (not (keeps_rest a.verdict) || (s.joins_before && removed))

-- `misplaced_fault_by role n`: the fault of a misplaced directive of this role on line `n`.
abbrev pub misplaced_fault_by : Role → ℕ → SectionFault
misplaced_fault_by IfGroup n = InappropriateEndif n
misplaced_fault_by ElifGroup n = InappropriateElif n
misplaced_fault_by ElseGroup n = InappropriateElse n
misplaced_fault_by EndifLine n = InappropriateEndif n

-- `checked_action before s n action`: the action, or the first fault: a misplaced directive
-- (`action` is `None`), then one section too many, then an obfuscated directive.
abbrev pub checked_action : LineContext → ClassifiedLine → ℕ → Option Action →
    Result Action SectionFault
checked_action before s n None = Err (misplaced_fault_by s.role n)
checked_action before s n (Some a) =
    if opens_section a.change && (before.depth == MAX_DEPTH) then Err (TooManyLevels n)
    else if is_obfuscated_by before.removed s a then Err (Obfuscated n)
    else Ok a

-- `checked_by before s n`: the check of the directive `s` on line `n`, after `before`.
abbrev pub checked_by : LineContext → ClassifiedLine → ℕ → Result Action SectionFault
checked_by before s n = checked_action before s n
    (act before.enclosing.plain before.enclosing.section s.role s.cond s.ignoring n)
