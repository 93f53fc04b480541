-- LimitFaults: a limit that a text exceeds, as a fault of the definitions.
use Rattle.ud_model.specs.sections.Faults.{Fault, too_many_lines, line_too_long}
use Rattle.ud_text.specs.declared.lines.fault.TextFault.{TextFault}
use Rattle.ud_text.specs.declared.lines.fault.TextFault.TheVariants.{TooManyLines, LineTooLong}

-- `limit_of f`: the fault of the definitions for a limit that the text exceeds.
abbrev pub limit_of : TextFault → Fault
limit_of (TooManyLines line) = too_many_lines line
limit_of (LineTooLong line) = line_too_long line
