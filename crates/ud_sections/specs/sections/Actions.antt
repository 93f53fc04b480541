-- Actions: the action of a directive, by the innermost open section.
--
-- `plain`: text outside all sections is plain. `section` is the innermost open one.
use Rattle.std.specs.Prelude.{◌≡◌, ℕ, List, [], ◌∷◌, ◌++◌, Bool, true, not, ◌||◌}
use Rattle.std.specs.Prelude.{if◌then◌else◌, Option, Some, None}
use Rattle.ud_model.specs.declared.cond.Cond.{Cond}
use Rattle.ud_model.specs.declared.cond.Cond.TheVariants.{Yes}
use Rattle.ud_model.specs.declared.kind.Role.{Role}
use Rattle.ud_model.specs.declared.kind.Role.TheVariants.{IfGroup, ElifGroup, ElseGroup, EndifLine}
use Rattle.ud_model.specs.declared.verdict.Verdict.{Verdict}
use Rattle.ud_model.specs.declared.verdict.Verdict.TheVariants.{Keep, Remove}
use Rattle.ud_model.specs.sections.Pruning as table
use Rattle.ud_sections.specs.declared.sections.open_section.OpenSection.{OpenSection}
use Rattle.ud_sections.specs.declared.sections.open_section.StackOp.{StackOp}
use Rattle.ud_sections.specs.declared.sections.open_section.StackOp.TheVariants.{Stay, Push}
use Rattle.ud_sections.specs.declared.sections.open_section.StackOp.TheVariants.{Replace, Pop}
use Rattle.ud_sections.specs.declared.sections.open_section.Action.{Action}
use Rattle.ud_sections.specs.sections.SectionStates.{opener_verdict_in, endif_verdict_in}
use Rattle.ud_sections.specs.sections.SectionStates.{is_kept_in, is_in_removed, new_state}
use Rattle.ud_sections.specs.sections.OpenSections.{new_section, section_with_group}

-- `kept_at section`: the text in `section` is in a kept place, as it is outside all sections.
abbrev pub kept_at : Option OpenSection → Bool
kept_at None = true
kept_at (Some l) = is_kept_in l.state

-- `plain_at plain section`: the next line in `section` is read as plain text.
abbrev pub plain_at : Bool → Option OpenSection → Bool
plain_at plain None = plain
plain_at plain (Some l) = l.ignoring

-- `text_verdict_at kept`: a text line stays if its place is kept.
abbrev pub text_verdict_at : Bool → Verdict
text_verdict_at kept = if kept then Keep else Remove

-- `if_action kept plain c ignoring n`: a section's first directive, on line `n`, opens it. Its
-- verdict is that of a section's first opener in this place.
abbrev pub if_action : Bool → Bool → Cond → Bool → ℕ → Action
if_action kept plain c ignoring n = record {
  verdict = opener_verdict_in (new_state kept) table.an_if c;
  kept = kept;
  change = Push (section_with_group (new_section kept (plain || ignoring) n) table.an_if c);
}

-- `opener_action l part c`: the action of another opener of the section `l`; none after an `#else`.
abbrev pub opener_action : OpenSection → table.Part → Cond → Option Action
opener_action l part c =
    if l.else_seen then None
    else Some (record {
      verdict = opener_verdict_in l.state part c;
      kept =
          not (is_in_removed l.state);
      change = Replace (section_with_group l part c);
    })

-- `endif_action l`: the action of the `#endif` of the section `l`.
abbrev pub endif_action : OpenSection → Action
endif_action l = record {
  verdict = endif_verdict_in l.state;
  kept = not (is_in_removed l.state);
  change = Pop;
}

-- `act plain section role c ignoring n`: the action of a directive of this role and decision on
-- line `n`, or `None` if it is misplaced.
abbrev pub act : Bool → Option OpenSection → Role → Cond → Bool → ℕ → Option Action
act plain section IfGroup c ignoring n =
    Some (if_action (kept_at section) (plain_at plain section) c ignoring n)
act plain None ElifGroup c ignoring n = None
act plain None ElseGroup c ignoring n = None
act plain None EndifLine c ignoring n = None
act plain (Some l) ElifGroup c ignoring n = opener_action l table.an_elif c
act plain (Some l) ElseGroup c ignoring n = opener_action l table.an_else Yes
act plain (Some l) EndifLine c ignoring n = Some (endif_action l)

-- `Applies change old new`: the change turns the open sections `old` into `new`.
abbrev pub Applies : StackOp → List OpenSection → List OpenSection → Type 0
Applies Stay old new = new ≡ old
Applies (Push l) old new = new ≡ old ++ l ∷ []
Applies (Replace l) old new = (outer : List OpenSection) × (last : OpenSection) ×
    (old ≡ outer ++ last ∷ []) × (new ≡ outer ++ l ∷ [])
Applies Pop old new = (last : OpenSection) × (old ≡ new ++ last ∷ [])
