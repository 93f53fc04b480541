-- SectionStates: the state of an open section, by the conditions of its groups so far.
--
--   section_state_after p cs     the state after groups with the conditions `cs`, from `p` on
--   next_section_state p c       the state after one more group
--   opener_verdict_in p part c   the verdict of the next opener
--   endif_verdict_in p           the verdict of the `#endif`
--   is_kept_in p                 the last group is kept
--   is_in_removed p              the section is in a removed place
--
-- A section in a kept place begins with NoneKept, one in a removed place with InRemoved. An `#else`
-- counts as true.
--
-- Example: for unknown, true, unknown the states are LastUnknown, LastTrue, AfterTrue.
use Rattle.std.specs.Prelude.{List, [], ◌∷◌, Bool, true, false}
use Rattle.ud_model.specs.declared.cond.Cond.{Cond}
use Rattle.ud_model.specs.declared.cond.Cond.TheVariants.{Yes, No, Unknown}
use Rattle.ud_model.specs.declared.verdict.Verdict.{Verdict}
use Rattle.ud_model.specs.declared.verdict.Verdict.TheVariants.{Keep, Remove, ToEndif}
use Rattle.ud_model.specs.sections.Pruning as table
use Rattle.ud_model.specs.declared.kind.Role.{Role}
use Rattle.ud_model.specs.declared.kind.Role.TheVariants.{IfGroup, ElifGroup, ElseGroup, EndifLine}
use Rattle.ud_sections.specs.declared.sections.section_state.SectionState.{SectionState}
use Rattle.ud_sections.specs.declared.sections.section_state.SectionState.TheVariants.{InRemoved}
use Rattle.ud_sections.specs.declared.sections.section_state.SectionState.TheVariants.{NoneKept}
use Rattle.ud_sections.specs.declared.sections.section_state.SectionState.TheVariants.{OnlyTrue}
use Rattle.ud_sections.specs.declared.sections.section_state.SectionState.TheVariants.{LastUnknown}
use Rattle.ud_sections.specs.declared.sections.section_state.SectionState.TheVariants.{LastFalse}
use Rattle.ud_sections.specs.declared.sections.section_state.SectionState.TheVariants.{LastTrue}
use Rattle.ud_sections.specs.declared.sections.section_state.SectionState.TheVariants.{AfterTrue}

-- `part_of role`: the part of a directive with this role, which opens a group. An `#endif` opens
-- none, and the value is of no use.
abbrev pub part_of : Role → table.Part
part_of IfGroup = table.an_if
part_of ElifGroup = table.an_elif
part_of ElseGroup = table.an_else
part_of EndifLine = table.an_if

-- `new_state kept`: the state before the first group. `kept`: the section is in a kept place.
abbrev pub new_state : Bool → SectionState
new_state true = NoneKept
new_state false = InRemoved

-- `next_section_state p c`: the state after the next group, with the condition `c`.
abbrev pub next_section_state : SectionState → Cond → SectionState
next_section_state InRemoved c = InRemoved
next_section_state NoneKept Yes = OnlyTrue
next_section_state NoneKept No = NoneKept
next_section_state NoneKept Unknown = LastUnknown
next_section_state OnlyTrue c = AfterTrue
next_section_state LastUnknown Yes = LastTrue
next_section_state LastUnknown No = LastFalse
next_section_state LastUnknown Unknown = LastUnknown
next_section_state LastFalse Yes = LastTrue
next_section_state LastFalse No = LastFalse
next_section_state LastFalse Unknown = LastUnknown
next_section_state LastTrue c = AfterTrue
next_section_state AfterTrue c = AfterTrue

-- `section_state_after p cs`: the state after `p` and groups with the conditions `cs`.
abbrev pub section_state_after : SectionState → List Cond → SectionState
section_state_after p [] = p
section_state_after p (c ∷ cs) = section_state_after (next_section_state p c) cs

-- `opener_verdict_in p part c`: the verdict of the next group's opener.
abbrev pub opener_verdict_in : SectionState → table.Part → Cond → Verdict
opener_verdict_in InRemoved part c = Remove
opener_verdict_in NoneKept part Yes = Remove
opener_verdict_in NoneKept part No = Remove
opener_verdict_in NoneKept part Unknown = table.first_kept_verdict part
opener_verdict_in OnlyTrue part c = Remove
opener_verdict_in LastUnknown part c = table.later_verdict part c
opener_verdict_in LastFalse part c = table.later_verdict part c
opener_verdict_in LastTrue part c = ToEndif
opener_verdict_in AfterTrue part c = Remove

-- `endif_verdict_in p`: the verdict of the `#endif`.
abbrev pub endif_verdict_in : SectionState → Verdict
endif_verdict_in InRemoved = Remove
endif_verdict_in NoneKept = Remove
endif_verdict_in OnlyTrue = Remove
endif_verdict_in LastUnknown = Keep
endif_verdict_in LastFalse = Keep
endif_verdict_in LastTrue = Keep
endif_verdict_in AfterTrue = Remove

-- `is_kept_in p`: the last group is kept.
abbrev pub is_kept_in : SectionState → Bool
is_kept_in InRemoved = false
is_kept_in NoneKept = false
is_kept_in OnlyTrue = true
is_kept_in LastUnknown = true
is_kept_in LastFalse = false
is_kept_in LastTrue = true
is_kept_in AfterTrue = false

-- `is_in_removed p`: the section is in a removed place.
abbrev pub is_in_removed : SectionState → Bool
is_in_removed InRemoved = true
is_in_removed NoneKept = false
is_in_removed OnlyTrue = false
is_in_removed LastUnknown = false
is_in_removed LastFalse = false
is_in_removed LastTrue = false
is_in_removed AfterTrue = false
