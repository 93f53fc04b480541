-- CheckLemmas: what the check of a line means for the line after sound ones.
use Rattle.std.proofs.Common.{◌≡◌, ◌≤◌, ◌==◌, [], ◌∷◌, ◌++◌, Bool, true, false, ◌&&◌, if◌then◌else◌, Option, Some, None, Ok, Err, refl, sym, ◌∙◌, subst, arith, rules}
use Rattle.std.proofs.lemmas.Bool.{eqb-true}
use Rattle.ud_model.specs.text.Scans.{Reading, is_spanning}
use Rattle.ud_model.specs.sections.Tree.{Item, Tree, text_line, if_line, elif_line, else_line, endif_line, lines, depth}
use Rattle.ud_model.specs.sections.Pruning.{marks}
use Rattle.ud_model.specs.sections.Items.{reading_of, line_of}
use Rattle.ud_model.specs.sections.Faults.{FaultOf, is_obfuscated, is_directive, ends_removed, NoneHolds, cases}
use Rattle.ud_model.specs.declared.kind.Role.{Role}
use Rattle.ud_model.specs.declared.kind.Role.TheVariants.{IfGroup, ElifGroup, ElseGroup, EndifLine}
use Rattle.ud_model.specs.declared.limits.TheConstants.{MAX_DEPTH}
use Rattle.ud_model.proofs.sections.Growth.{Adds, lines-add}
use Rattle.ud_model.proofs.sections.Unique.{grows}
use Rattle.ud_model.proofs.sections.Stays.{marks_so_far_same}
use Rattle.ud_sections.specs.declared.sections.fault.SectionFault.{SectionFault}
use Rattle.ud_sections.specs.declared.sections.fault.SectionFault.TheVariants.{TooManyLevels, Obfuscated}
use Rattle.ud_sections.specs.declared.sections.check.LineContext.{LineContext}
use Rattle.ud_sections.specs.declared.sections.open_section.Action.{Action}
use Rattle.ud_sections.specs.declared.sections.open_section.OpenSection.{OpenSection}
use Rattle.ud_sections.specs.declared.sections.classify_line.ClassifiedLine.{ClassifiedLine}
use Rattle.ud_sections.specs.sections.Actions.{act, Applies, kept_at}
use Rattle.ud_sections.specs.sections.Checking.{opens_section, is_obfuscated_by, checked_action, checked_by}
use Rattle.ud_sections.specs.sections.OpenSections.{open_sections_of, section_at}
use Rattle.ud_sections.specs.sections.Limits.{IsWithinLimits}
use Rattle.ud_sections.specs.sections.SectionFaults.{fault_of}
use Rattle.ud_sections.proofs.lemmas.sections.LineFaults.{is_cut_item, too_deep_fault, spoiled_fault, clear_line}
use Rattle.ud_sections.proofs.lemmas.sections.ActionLemmas.{item_act, text_action, mark_of, Moved, moves, takes, depth_levels, changes_deeper}
use Rattle.std.proofs.lemmas.Grind.{common_steps}

-- the context of the line after a text
abbrev pub before_next : Bool → Tree Reading → LineContext
before_next p t = record {
  enclosing = record { section = section_at None true p t; plain = p };
  depth = depth t;
  removed = ends_removed (marks t);
}

-- the role of a directive
abbrev pub item_role : Item Reading → Role
item_role (text_line r) = IfGroup
item_role (if_line o) = IfGroup
item_role (elif_line o) = ElifGroup
item_role (else_line r) = ElseGroup
item_role (endif_line r) = EndifLine

-- the classified line of the item, which is a directive
pub record IsSeen (x : Item Reading) (s : ClassifiedLine) : Type 0 where
  pub directive : is_directive x ≡ true
  pub role : s.role ≡ item_role x
  pub acts : (p : Bool) (d : Option OpenSection) → act p d s.role s.cond s.ignoring (line_of x).number ≡ item_act p d x
  pub spans : s.spans ≡ is_spanning (reading_of x).scan
  pub joins : s.joins_before ≡ (reading_of x).scan.joins_before

-- the line is sound after the text, with this action
pub record Follows (p : Bool) (t : Tree Reading) (x : Item Reading) (a : Action) : Type 0 where
  pub tree : Tree Reading
  pub lines_are : lines tree ≡ lines t ++ x ∷ []
  pub clear : NoneHolds (lines t) x cases
  pub marks_are : marks tree ≡ marks t ++ mark_of a ∷ []
  pub changes : Applies a.change (open_sections_of true p t) (open_sections_of true p tree)

-- the line is added, with this action
pub record Taken (p : Bool) (t : Tree Reading) (x : Item Reading) (a : Action) : Type 0 where
  pub tree : Tree Reading
  pub lines_are : lines tree ≡ lines t ++ x ∷ []
  pub marks_are : marks tree ≡ marks t ++ mark_of a ∷ []
  pub changes : Applies a.change (open_sections_of true p t) (open_sections_of true p tree)

module _ (p : Bool) (t : Tree Reading) (x : Item Reading) where
  taken_by : (u : Tree Reading) → Adds t x u → Moved p true p None t u x → (a : Action) →
      item_act p (section_at None true p t) x ≡ Some a → Taken p t x a
  taken_by u h k a l = grind (arith, lines-add, marks_so_far_same, mark_of)

  pub taken : (a : Action) → item_act p (section_at None true p t) x ≡ Some a → Taken p t x a
  taken a e = grind (arith, takes, taken_by, moves)

  not_taken : item_act p (section_at None true p t) x ≡ None → (u : Tree Reading) → lines u ≡ lines t ++ x ∷ [] → ⊥
  not_taken none u e = grind (arith, moves p true p None refl refl (grows t u x e))

  shallow : (a : Action) (k : Taken p t x a) (b : Bool) → opens_section a.change ≡ b → depth t ≤ MAX_DEPTH →
      (b && (depth t == MAX_DEPTH)) ≡ false → depth k.tree ≤ MAX_DEPTH
  shallow a k b h l m = grind (arith, common_steps, depth_levels, changes_deeper)

  -- a text line is sound, in any place
  pub text_follows : is_directive x ≡ false → item_act p (section_at None true p t) x ≡ Some (text_action (kept_at (section_at None true p t))) →
      IsWithinLimits (line_of x) → is_cut_item x ≡ false → depth t ≤ MAX_DEPTH → Follows p t x (text_action (kept_at (section_at None true p t)))
  text_follows n e w whole d = let a : Action = text_action (kept_at (section_at None true p t)) in
      let h : Taken p t x a = taken a e in
      record {
        tree = h.tree;
        lines_are = h.lines_are;
        clear = clear_line (lines t) x w whole h.tree h.lines_are (marks t) (mark_of a) (shallow a h false refl d refl) h.marks_are (rw n refl);
        marks_are = h.marks_are;
        changes = h.changes;
      }

  spoils : (s : ClassifiedLine) (a : Action) → IsSeen x s → is_obfuscated_by (ends_removed (marks t)) s a ≡ is_obfuscated (marks t) x (mark_of a)
  spoils s a scanned = rw (scanned.directive, scanned.spans, scanned.joins) refl

  module _ (s : ClassifiedLine) (scanned : IsSeen x s) (w : IsWithinLimits (line_of x)) (whole : is_cut_item x ≡ false) (d : depth t ≤ MAX_DEPTH) where
    well_by : (c a : Action) → Taken p t x c → (k q : Bool) → (opens_section c.change && (depth t == MAX_DEPTH)) ≡ k →
        is_obfuscated_by (ends_removed (marks t)) s c ≡ q →
        (if k then Err (TooManyLevels (line_of x).number) else if q then Err (Obfuscated (line_of x).number) else Ok c) ≡ Ok a → Follows p t x a
    well_by c a h true q push spoil e = cc
    well_by c a h false true push spoil e = cc
    well_by c a h false false push spoil e = let same : c ≡ a = cc in
        subst (Follows p t x) same (record {
          tree = h.tree;
          lines_are = h.lines_are;
          clear = clear_line (lines t) x w whole h.tree h.lines_are (marks t) (mark_of c)
              (shallow c h (opens_section c.change) refl d push) h.marks_are (sym (spoils s c scanned) ∙ spoil);
          marks_are = h.marks_are;
          changes = h.changes;
        })

    ill_by : (c : Action) (f : SectionFault) → Taken p t x c → (k q : Bool) → (opens_section c.change && (depth t == MAX_DEPTH)) ≡ k →
        is_obfuscated_by (ends_removed (marks t)) s c ≡ q →
        (if k then Err (TooManyLevels (line_of x).number) else if q then Err (Obfuscated (line_of x).number) else Ok c) ≡ Err f → FaultOf (lines t) x (fault_of f)
    ill_by c f h true q push spoil e = let same : TooManyLevels (line_of x).number ≡ f = cc in
        subst (λ g. FaultOf (lines t) x (fault_of g)) same
        (too_deep_fault (lines t) x w whole h.tree h.lines_are (grind (arith, changes_deeper, depth_levels, eqb-true)))
    ill_by c f h false true push spoil e = let same : Obfuscated (line_of x).number ≡ f = cc in
        subst (λ g. FaultOf (lines t) x (fault_of g)) same
        (spoiled_fault (lines t) x w whole h.tree h.lines_are (marks t) (mark_of c)
        (shallow c h (opens_section c.change) refl d push) h.marks_are (sym (spoils s c scanned) ∙ spoil))
    ill_by c f h false false push spoil e = cc

    well_at : (r : Option Action) (a : Action) → item_act p (section_at None true p t) x ≡ r →
        checked_action (before_next p t) s (line_of x).number r ≡ Ok a → Follows p t x a
    well_at None a none e = cc
    well_at (Some c) a acts e = search (rules, well_by, taken)

    ill_at : (r : Option Action) (f : SectionFault) → item_act p (section_at None true p t) x ≡ r →
        checked_action (before_next p t) s (line_of x).number r ≡ Err f → FaultOf (lines t) x (fault_of f)
    ill_at None f none e = grind (arith, not_taken)
    ill_at (Some c) f acts e = search (rules, ill_by, taken)

    acts_alike : item_act p (section_at None true p t) x ≡ act p (section_at None true p t) s.role s.cond s.ignoring (line_of x).number
    acts_alike = sym (scanned.acts p (section_at None true p t))

    -- a line with an action is sound
    pub judged_well : (a : Action) → checked_by (before_next p t) s (line_of x).number ≡ Ok a → Follows p t x a
    judged_well a e = well_at (act p (section_at None true p t) s.role s.cond s.ignoring (line_of x).number) a acts_alike e

    -- a line with a fault by the check has this fault
    pub judged_ill : (f : SectionFault) → checked_by (before_next p t) s (line_of x).number ≡ Err f → FaultOf (lines t) x (fault_of f)
    judged_ill f e = ill_at (act p (section_at None true p t) s.role s.cond s.ignoring (line_of x).number) f acts_alike e
