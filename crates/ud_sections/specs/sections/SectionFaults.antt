-- SectionFaults: the faults of sections, as faults of the definitions.
use Rattle.ud_model.specs.sections.Faults.{Fault, inappropriate_elif, inappropriate_else}
use Rattle.ud_model.specs.sections.Faults.{inappropriate_endif, too_many_levels, obfuscated}
use Rattle.ud_model.specs.sections.Faults.{premature_eof, eof_in_comment}
use Rattle.ud_sections.specs.declared.sections.fault.SectionFault.{SectionFault}
use Rattle.ud_sections.specs.declared.sections.fault.SectionFault.TheVariants.{InappropriateElif}
use Rattle.ud_sections.specs.declared.sections.fault.SectionFault.TheVariants.{InappropriateElse}
use Rattle.ud_sections.specs.declared.sections.fault.SectionFault.TheVariants.{InappropriateEndif}
use Rattle.ud_sections.specs.declared.sections.fault.SectionFault.TheVariants.{TooManyLevels}
use Rattle.ud_sections.specs.declared.sections.fault.SectionFault.TheVariants.{Obfuscated}
use Rattle.ud_sections.specs.declared.sections.fault.SectionFault.TheVariants.{PrematureEof}
use Rattle.ud_sections.specs.declared.sections.fault.SectionFault.TheVariants.{EofInComment}

-- `fault_of f`: the fault of the definitions for a fault of the sections.
abbrev pub fault_of : SectionFault → Fault
fault_of (InappropriateElif n) = inappropriate_elif n
fault_of (InappropriateElse n) = inappropriate_else n
fault_of (InappropriateEndif n) = inappropriate_endif n
fault_of (TooManyLevels n) = too_many_levels n
fault_of (Obfuscated n) = obfuscated n
fault_of (PrematureEof n if_line) = premature_eof n if_line
fault_of (EofInComment n) = eof_in_comment n
