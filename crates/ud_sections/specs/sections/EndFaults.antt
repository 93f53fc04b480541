-- EndFaults: the machine's check of the end of a text.
use Rattle.std.specs.Prelude.{ℕ, Bool, true, false, Option, Some, None, Result, Ok, Err}
use Rattle.ud_sections.specs.declared.sections.fault.SectionFault.{SectionFault}
use Rattle.ud_sections.specs.declared.sections.fault.SectionFault.TheVariants.{PrematureEof}
use Rattle.ud_sections.specs.declared.sections.fault.SectionFault.TheVariants.{EofInComment}
use Rattle.ud_sections.specs.declared.sections.open_section.OpenSection.{OpenSection}

-- `end_in in_comment n section`: the check of a text that ends after line `n` in `section`. An open
-- comment comes first, then an open section.
abbrev pub end_in : Bool → ℕ → Option OpenSection → Result (Unit {0}) SectionFault
end_in true n section = Err (EofInComment n)
end_in false n (Some l) = Err (PrematureEof n l.if_line)
end_in false n None = Ok tt
