-- TransitionLemmas: the machine's transition for the line that comes next.
use Rattle.std.proofs.Common.{◌≡◌, ◌≤◌, List, [], ◌∷◌, ◌++◌, length, Bool, true, false, Option, Some, None, Result, Ok, Err, refl, sym, ◌∙◌, ap, subst, arith}
use Rattle.ud_model.specs.text.Lines.{Line}
use Rattle.ud_model.specs.text.Scans.{Scan, Reading}
use Rattle.ud_model.specs.sections.Directives.{Content, Directive, cut_keyword, directive, text, content_of, role_of}
use Rattle.ud_model.specs.conditions.Conditions.{Decision, decision_on}
use Rattle.ud_model.specs.conditions.Table.{Argument}
use Rattle.ud_model.specs.sections.Tree.{Item, Tree, text_line, lines, depth}
use Rattle.ud_model.specs.sections.Pruning.{Mark, marks}
use Rattle.ud_model.specs.sections.Items.{Options, reading_of, line_of, item_by, directive_item, rules_of, mode_after, read_after, next_item}
use Rattle.ud_model.specs.sections.Faults.{FaultOf, is_directive, NoneHolds, cases, is_cut, last_number, obfuscated}
use Rattle.ud_model.specs.answer.Printing.{keyword_in, judged_line}
use Rattle.ud_model.specs.declared.kind.Role.{Role}
use Rattle.ud_model.specs.declared.kind.Role.TheVariants.{IfGroup, ElifGroup, ElseGroup, EndifLine}
use Rattle.ud_model.specs.declared.limits.TheConstants.{MAX_DEPTH}
use Rattle.ud_model.proofs.sections.Soundness.{reading_of-item_of, sound_lines}
use Rattle.ud_sections.specs.declared.sections.fault.SectionFault.{SectionFault}
use Rattle.ud_sections.specs.declared.sections.fault.SectionFault.TheVariants.{Obfuscated}
use Rattle.ud_sections.specs.declared.sections.open_section.Action.{Action}
use Rattle.ud_sections.specs.declared.sections.machine.Machine.{Machine}
use Rattle.ud_sections.specs.declared.sections.machine.Transition.{Transition}
use Rattle.ud_sections.specs.declared.sections.classify_line.ClassifiedLine.{ClassifiedLine}
use Rattle.ud_sections.specs.declared.sections.open_section.OpenSection.{OpenSection}
use Rattle.ud_sections.specs.declared.sections.step.Span.{Span}
use Rattle.ud_sections.specs.sections.Actions.{act, Applies, kept_at}
use Rattle.ud_sections.specs.sections.Checking.{checked_by}
use Rattle.ud_sections.specs.sections.OpenSections.{open_sections_of, section_at}
use Rattle.ud_sections.specs.sections.Limits.{IsWithinLimits}
use Rattle.ud_sections.specs.sections.MachineState.{MachineRepresents, ComesNext}
use Rattle.ud_sections.specs.sections.SectionFaults.{fault_of}
use Rattle.ud_sections.specs.sections.ClassifiedLines.{classified}
use Rattle.ud_sections.specs.sections.StepViews.{as_span}
use Rattle.ud_sections.specs.sections.Transitions.{context_of, transition_with, transition_of}
use Rattle.ud_sections.proofs.lemmas.sections.LineFaults.{cut_fault}
use Rattle.ud_sections.proofs.lemmas.sections.ActionLemmas.{item_act, text_action, mark_of, innermost_level, depth_levels}
use Rattle.ud_sections.proofs.lemmas.sections.CheckLemmas.{before_next, IsSeen, Follows, text_follows, judged_well, judged_ill}
use Rattle.ud_model.proofs.sections.FaultStays.{line_of-next_item}

-- a directive of this role acts by its decision
acts_so : (r : Reading) (role : Role) (d : Decision) (p : Bool) (section : Option OpenSection) →
    act p section role d.cond d.ignoring r.line.number ≡ item_act p section (directive_item r role d)
acts_so r IfGroup d p section = refl
acts_so r ElifGroup d p section = refl
acts_so r ElseGroup d p None = refl
acts_so r ElseGroup d p (Some l) = refl
acts_so r EndifLine d p None = refl
acts_so r EndifLine d p (Some l) = refl

-- the classified line of a line with this directive
directive_seen : (o : Options) (r : Reading) (d : Directive) → IsSeen (item_by o r (directive d)) (classified r.scan d o.table (rules_of o.settings))
directive_seen o r d = by (decision_on r.scan d o.table (rules_of o.settings)) (role_of d.kind)
  where
    by : (on : Decision) (role : Role) →
        IsSeen (directive_item r role on) (record (classified r.scan d o.table (rules_of o.settings)) { role = role; cond = on.cond; ignoring = on.ignoring })
    by on IfGroup = record { directive = refl; role = refl; acts = acts_so r IfGroup on; spans = refl; joins = refl }
    by on ElifGroup = record { directive = refl; role = refl; acts = acts_so r ElifGroup on; spans = refl; joins = refl }
    by on ElseGroup = record { directive = refl; role = refl; acts = acts_so r ElseGroup on; spans = refl; joins = refl }
    by on EndifLine = record { directive = refl; role = refl; acts = acts_so r EndifLine on; spans = refl; joins = refl }

-- the line is sound, and this is its transition
pub record TurnsWell (o : Options) (xs : List (Item Reading)) (t : Tree Reading) (l : Line) (turn : Transition) : Type 0 where
  pub tree : Tree Reading
  pub lines_are : lines tree ≡ xs ++ next_item o xs t l ∷ []
  pub clear : NoneHolds xs (next_item o xs t l) cases
  pub mark : Mark
  pub marks_are : marks tree ≡ marks t ++ mark ∷ []
  pub changes : Applies turn.change (open_sections_of true o.settings.plain t) (open_sections_of true o.settings.plain tree)
  pub decided : record { line = l; verdict = turn.step.verdict; keyword = as_span turn.step.keyword } ≡ judged_line (next_item o xs t l) mark

-- a machine keeps the context of the line
pub before_is : (m : Machine) (o : Options) (xs : List (Item Reading)) (t : Tree Reading) → MachineRepresents m o xs t →
    context_of m ≡ before_next o.settings.plain t
before_is m o xs t h = grind (arith, innermost_level, depth_levels)

module _ (o : Options) (xs : List (Item Reading)) (t : Tree Reading) (l : Line) (e : lines t ≡ xs) (w : IsWithinLimits l) (shallow : depth t ≤ MAX_DEPTH) where
  within_item : IsWithinLimits (line_of (next_item o xs t l))
  within_item = subst IsWithinLimits (sym (line_of-next_item o xs t l)) w

  -- what is carried by the line
  abbrev carried : Content
  carried = content_of (read_after xs (mode_after o t) l).scan

  carried_item : content_of (reading_of (next_item o xs t l)).scan ≡ carried
  carried_item = ap (λ (v : Reading). content_of v.scan) (reading_of-item_of o (read_after xs (mode_after o t) l))

  number_is : l.number ≡ (line_of (next_item o xs t l)).number
  number_is = ap (λ (k : Line). k.number) (sym (line_of-next_item o xs t l))

  abbrev r : Reading
  r = read_after xs (mode_after o t) l

  abbrev p : Bool
  p = o.settings.plain

  turned : (a : Action) (keyword : Span) → as_span keyword ≡ keyword_in carried → Follows p t (next_item o xs t l) a →
      TurnsWell o xs t l (record { step = record { verdict = a.verdict; keyword = keyword }; change = a.change })
  turned a keyword k f = record {
    tree = f.tree;
    lines_are = f.lines_are ∙ ap (λ ys. ys ++ next_item o xs t l ∷ []) e;
    clear = subst (λ ys. NoneHolds ys (next_item o xs t l) cases) e f.clear;
    mark = mark_of a;
    marks_are = f.marks_are;
    changes = f.changes;
    decided = grind (arith, line_of-next_item, carried_item);
  }

  well_by : (s : ClassifiedLine) → IsSeen (next_item o xs t l) s → is_cut carried ≡ false → as_span s.keyword ≡ keyword_in carried → (a : Result Action SectionFault) →
      checked_by (before_next p t) s l.number ≡ a → (turn : Transition) → transition_with s.keyword a ≡ Ok turn → TurnsWell o xs t l turn
  well_by s seen whole k (Ok a) j turn m = let same : record { step = record { verdict = a.verdict; keyword = s.keyword }; change = a.change } ≡ turn = cc in
      subst (λ (q : Transition). TurnsWell o xs t l q) same (turned a s.keyword k
      (judged_well p t (next_item o xs t l) s seen within_item (ap is_cut carried_item ∙ whole) shallow a (ap (λ n. checked_by (before_next p t) s n) (sym number_is) ∙ j)))
  well_by s seen whole k (Err f) j turn m = cc

  ill_by : (s : ClassifiedLine) → IsSeen (next_item o xs t l) s → is_cut carried ≡ false → (a : Result Action SectionFault) →
      checked_by (before_next p t) s l.number ≡ a → (f : SectionFault) → transition_with s.keyword a ≡ Err f → FaultOf xs (next_item o xs t l) (fault_of f)
  ill_by s seen whole (Ok a) j f q = cc
  ill_by s seen whole (Err g) j f q = grind (arith, judged_ill, within_item, carried_item, number_is)

  abbrev turn_by : Content → Result Transition SectionFault
  turn_by c = transition_of (before_next p t) l.number r.scan o.table (rules_of o.settings) c

  well_at : (c : Content) → carried ≡ c → (turn : Transition) → turn_by c ≡ Ok turn → TurnsWell o xs t l turn
  well_at cut_keyword k turn q = cc
  well_at text k turn q = let a : Action = text_action (kept_at (section_at None true p t)) in
      let same : record { step = record { verdict = a.verdict; keyword = record { at = 0; len = 0 } }; change = a.change } ≡ turn = cc in
      let item : next_item o xs t l ≡ text_line r = ap (item_by o r) k in
      subst (λ (m : Transition). TurnsWell o xs t l m) same (turned a _ (sym (ap keyword_in k))
      (text_follows p t (next_item o xs t l) (ap is_directive item) (ap (item_act p (section_at None true p t)) item) within_item (ap is_cut (carried_item ∙ k)) shallow))
  well_at (directive d) k turn q =
      well_by _ (subst (λ (x : Item Reading). IsSeen x (classified r.scan d o.table (rules_of o.settings))) (sym (ap (item_by o r) k)) (directive_seen o r d)) (ap is_cut k) (sym (ap keyword_in k)) _ refl turn q

  ill_at : (c : Content) → carried ≡ c → (f : SectionFault) → turn_by c ≡ Err f → FaultOf xs (next_item o xs t l) (fault_of f)
  ill_at cut_keyword k f q = let same : Obfuscated l.number ≡ f = cc in
      subst (λ h. FaultOf xs (next_item o xs t l) (fault_of h)) same
      (subst (λ n. FaultOf xs (next_item o xs t l) (obfuscated n)) (sym number_is) (cut_fault xs (next_item o xs t l) within_item (ap is_cut (carried_item ∙ k))))
  ill_at text k f q = cc
  ill_at (directive d) k f q =
      ill_by _ (subst (λ (x : Item Reading). IsSeen x (classified r.scan d o.table (rules_of o.settings))) (sym (ap (item_by o r) k)) (directive_seen o r d)) (ap is_cut k) _ refl f q

-- the transition of the machine for the line that comes next
abbrev pub asked : Machine → Options → Scan → Line → Result Transition SectionFault
asked m o scan l = transition_of (context_of m) l.number scan o.table (rules_of m.settings) (content_of scan)

asked_is : (m : Machine) (o : Options) (xs : List (Item Reading)) (t : Tree Reading) (scan : Scan) (l : Line) (table : List Argument) →
    MachineRepresents m o xs t → ComesNext o xs t scan l table →
    transition_of (before_next o.settings.plain t) l.number (read_after xs (mode_after o t) l).scan o.table (rules_of o.settings)
    (content_of (read_after xs (mode_after o t) l).scan) ≡ asked m o scan l
asked_is m o xs t scan l table h next = rw (before_is m o xs t h, h.settings, next.scanned) refl

pub shallow_by : (m : Machine) (o : Options) (xs : List (Item Reading)) (t : Tree Reading) → MachineRepresents m o xs t →
    length m.open_sections.items ≤ MAX_DEPTH → depth t ≤ MAX_DEPTH
shallow_by m o xs t h k = grind arith

module _ (m : Machine) (o : Options) (xs : List (Item Reading)) (t : Tree Reading) (scan : Scan) (l : Line) (table : List Argument)
    (h : MachineRepresents m o xs t) (next : ComesNext o xs t scan l table) (w : IsWithinLimits l) (fits : length m.open_sections.items ≤ MAX_DEPTH) where
  -- a line with a transition is sound
  pub turns_well : (turn : Transition) → asked m o scan l ≡ Ok turn → TurnsWell o xs t l turn
  turns_well turn e =
      well_at o xs t l (sound_lines h.sound) w (shallow_by m o xs t h fits) _ refl turn (asked_is m o xs t scan l table h next ∙ e)

  -- a line with a fault by the machine has this fault
  pub turns_ill : (f : SectionFault) → asked m o scan l ≡ Err f → FaultOf xs (next_item o xs t l) (fault_of f)
  turns_ill f e =
      ill_at o xs t l (sound_lines h.sound) w (shallow_by m o xs t h fits) _ refl f (asked_is m o xs t scan l table h next ∙ e)

pub last_number_last : (xs : List (Item Reading)) (x : Item Reading) → last_number (xs ++ x ∷ []) ≡ (line_of x).number
last_number_last [] x = refl
last_number_last (y ∷ []) x = refl
last_number_last (y ∷ z ∷ ys) x = last_number_last (z ∷ ys) x
