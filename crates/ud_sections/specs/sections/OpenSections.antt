-- OpenSections: the open sections of a text.
--
-- `kept`: the section or the text is in a kept place. `plain`: it is plain text.
use Rattle.std.specs.Prelude.{ℕ, List, [], ◌∷◌, Bool, true, false, ◌||◌, ◌&&◌, Option, Some}
use Rattle.ud_model.specs.declared.cond.Cond.{Cond}
use Rattle.ud_model.specs.text.Scans.{Reading}
use Rattle.ud_model.specs.sections.Tree.{Head, Tree, if_head, elif_head, else_head, closed}
use Rattle.ud_model.specs.sections.Tree.{open_section, opener_of_head}
use Rattle.ud_model.specs.sections.Pruning.{Part, an_if, an_elif, an_else, conds_of_head}
use Rattle.ud_model.specs.sections.Pruning.{is_inside_kept}
use Rattle.ud_sections.specs.declared.sections.open_section.OpenSection.{OpenSection}
use Rattle.ud_sections.specs.sections.SectionStates.{new_state, next_section_state}
use Rattle.ud_sections.specs.sections.SectionStates.{section_state_after}

-- `new_section kept ignoring n`: a section before its first group, with its first directive on line
-- `n`. `ignoring`: the section is plain text.
abbrev pub new_section : Bool → Bool → ℕ → OpenSection
new_section kept ignoring n = record {
  state = new_state kept;
  else_seen = false;
  ignoring =
      ignoring;
  if_line = n;
}

-- `is_else_part part`: the part is an `#else`.
abbrev pub is_else_part : Part → Bool
is_else_part an_if = false
is_else_part an_elif = false
is_else_part an_else = true

-- `section_with_group l part c`: the section `l` with another group, of this condition.
abbrev pub section_with_group : OpenSection → Part → Cond → OpenSection
section_with_group l part c = record l {
  state = next_section_state l.state c;
  else_seen =
      is_else_part part;
}

-- `is_else_head h`: the last group is that of an `#else`.
abbrev pub is_else_head : Head Reading → Bool
is_else_head (if_head o) = false
is_else_head (elif_head es o) = false
is_else_head (else_head es l) = true

-- `section_of kept plain h`: the open section with the head `h`.
abbrev pub section_of : Bool → Bool → Head Reading → OpenSection
section_of kept plain h = record {
  state = section_state_after (new_state kept) (conds_of_head h);
  else_seen = is_else_head h;
  ignoring = plain || (opener_of_head h).ignoring;
  if_line = (opener_of_head h).line.line.number;
}

-- `open_sections_of kept plain t`: all open sections of the text `t`, the outermost first.
abbrev pub open_sections_of : Bool → Bool → Tree Reading → List OpenSection
open_sections_of kept plain (closed ns) = []
open_sections_of kept plain (open_section ns h t) =
    section_of kept plain h ∷ open_sections_of (kept && is_inside_kept h) (plain ||
    (opener_of_head h).ignoring) t

-- `section_at d kept plain t`: the innermost open section of the text `t`, or `d` if none is open.
abbrev pub section_at : Option OpenSection → Bool → Bool → Tree Reading → Option OpenSection
section_at d kept plain (closed ns) = d
section_at d kept plain (open_section ns h t) =
    section_at (Some (section_of kept plain h)) (kept && is_inside_kept h) (plain ||
    (opener_of_head h).ignoring) t

-- `last_or d ls`: the last of `ls`, or `d` if there is none.
abbrev pub last_or : Option OpenSection → List OpenSection → Option OpenSection
last_or d [] = d
last_or d (l ∷ ls) = last_or (Some l) ls
