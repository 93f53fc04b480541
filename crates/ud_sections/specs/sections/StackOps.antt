-- StackOps: the open sections after a change.
use Rattle.std.specs.Prelude.{◌-◌, List, [], ◌∷◌, ◌++◌, length, take, slice_get, Option}
use Rattle.ud_sections.specs.declared.sections.open_section.OpenSection.{OpenSection}
use Rattle.ud_sections.specs.declared.sections.open_section.StackOp.{StackOp}
use Rattle.ud_sections.specs.declared.sections.open_section.StackOp.TheVariants.{Stay, Push}
use Rattle.ud_sections.specs.declared.sections.open_section.StackOp.TheVariants.{Replace, Pop}

-- `innermost_of ls`: the innermost of the open sections `ls`, which is the last one.
abbrev pub innermost_of : List OpenSection → Option OpenSection
innermost_of ls = slice_get ls (length ls - 1)

-- `applied change old`: the open sections after a change of `old`, the innermost one last.
abbrev pub applied : StackOp → List OpenSection → List OpenSection
applied Stay old = old
applied (Push l) old = old ++ l ∷ []
applied (Replace l) old = take (length old - 1) old ++ l ∷ []
applied Pop old = take (length old - 1) old
