-- MachineLemmas: what a machine represents after a line or text lines, and what it then returns.
use Rattle.std.proofs.Common.{◌≡◌, ◌≤◌, List, [], ◌∷◌, ◌++◌, length, map, Bool, true, ◌||◌, None, refl, sym, ◌∙◌, ap, ap₂, subst, append_assoc, append-nil, arith}
use Rattle.ud_model.specs.text.Lines.{Line}
use Rattle.ud_model.specs.text.Scans.{Reading}
use Rattle.ud_model.specs.sections.Directives.{text, content_of}
use Rattle.ud_model.specs.sections.Tree.{Item, Tree, text_line, lines, depth, is_ignoring}
use Rattle.ud_model.specs.sections.Pruning.{Mark, marks, is_removed}
use Rattle.ud_model.specs.sections.Items.{Options, item_of, item_by, mode_after, mode_by, read_after, next_item}
use Rattle.ud_model.specs.sections.Faults.{AreFaultless, one_more, is_cut, ends_removed, last_number, ends_in_comment, end_fault, NoneHolds, cases}
use Rattle.ud_model.specs.declared.limits.TheConstants.{MAX_DEPTH}
use Rattle.ud_model.specs.declared.verdict.Verdict.{Verdict}
use Rattle.ud_model.proofs.sections.Soundness.{sound_lines}
use Rattle.ud_sections.specs.declared.sections.machine.Machine.{Machine}
use Rattle.ud_sections.specs.declared.sections.machine.Transition.{Transition}
use Rattle.ud_sections.specs.sections.Actions.{kept_at, plain_at}
use Rattle.ud_sections.specs.sections.StackOps.{applied, innermost_of}
use Rattle.ud_sections.specs.sections.EndFaults.{end_in}
use Rattle.ud_sections.specs.sections.OpenSections.{open_sections_of, section_at}
use Rattle.ud_sections.specs.sections.Limits.{IsWithinLimits}
use Rattle.ud_sections.specs.sections.MachineState.{MachineRepresents, StepsLine, AreTextLines, StepsText, end_fault_of}
use Rattle.ud_sections.proofs.lemmas.sections.LineFaults.{clear_line}
use Rattle.ud_sections.proofs.lemmas.sections.ActionLemmas.{text_action, mark_of, innermost_level, depth_levels, plain_inside, end_is, changed_is}
use Rattle.ud_sections.proofs.lemmas.sections.CheckLemmas.{Taken, taken}
use Rattle.ud_sections.proofs.lemmas.sections.TransitionLemmas.{TurnsWell, shallow_by, last_number_last}
use Rattle.ud_model.proofs.output.RereadMore.{last_removed}
use Rattle.ud_model.proofs.sections.FaultStays.{line_of-next_item}

-- the innermost section gives the mode
pub plain_is : (m : Machine) (o : Options) (xs : List (Item Reading)) (t : Tree Reading) → MachineRepresents m o xs t →
    plain_at m.settings.plain (innermost_of m.open_sections.items) ≡ (o.settings.plain || is_ignoring t)
plain_is m o xs t h = grind (arith, innermost_level, plain_inside)

-- the check of the end of the text
pub ends_well : (m : Machine) (o : Options) (xs : List (Item Reading)) (t : Tree Reading) → MachineRepresents m o xs t → (c : Bool) → c ≡ ends_in_comment xs →
    end_fault_of (end_in c m.last (innermost_of m.open_sections.items)) ≡ end_fault xs t
ends_well m o xs t h c k = grind (arith, innermost_level, end_is)

-- a machine after the line's transition
pub reads_line : (m new : Machine) (o : Options) (xs : List (Item Reading)) (t : Tree Reading) (l : Line) (turn : Transition) → MachineRepresents m o xs t →
    TurnsWell o xs t l turn → new.settings ≡ m.settings → new.open_sections.items ≡ applied turn.change m.open_sections.items →
    new.removed ≡ is_removed turn.step.verdict → new.last ≡ l.number → StepsLine new o xs t l turn.step
reads_line m new o xs t l turn h w settings sections removed last = record {
  tree = w.tree;
  read = record {
    settings = settings ∙ h.settings;
    sound = one_more xs t h.sound l w.tree w.lines_are w.clear;
    sections = sections ∙ ap (applied turn.change) h.sections ∙ changed_is turn.change _ _ w.changes;
    removed = removed ∙ ap (λ j. is_removed j.verdict) w.decided
        ∙ sym (ap ends_removed w.marks_are ∙ last_removed (marks t) w.mark);
    last = last ∙ ap (λ (k : Line). k.number) (sym (line_of-next_item o xs t l))
        ∙ sym (last_number_last xs (next_item o xs t l));
  };
  mark = w.mark;
  marks_are = w.marks_are;
  decided = w.decided;
}

-- text lines were added
record MoreText (o : Options) (xs : List (Item Reading)) (t : Tree Reading) (rs : List Reading) (kept : Bool) : Type 0 where
  pub tree : Tree Reading
  pub sound : AreFaultless o (xs ++ map text_line rs) tree
  pub marks_are : marks tree ≡ marks t ++ map (λ r. mark_of (text_action kept)) rs
  pub same : open_sections_of true o.settings.plain tree ≡ open_sections_of true o.settings.plain t

-- the place is kept, by the open sections
abbrev place_of : Options → Tree Reading → Bool
place_of o t = kept_at (section_at None true o.settings.plain t)

same_section : (o : Options) (t u : Tree Reading) → open_sections_of true o.settings.plain u ≡ open_sections_of true o.settings.plain t →
    section_at None true o.settings.plain u ≡ section_at None true o.settings.plain t
same_section o t u e = sym (innermost_level o.settings.plain u) ∙ ap innermost_of e ∙ innermost_level o.settings.plain t

mode_is : (o : Options) (t : Tree Reading) → mode_after o t ≡ mode_by (plain_at o.settings.plain (section_at None true o.settings.plain t))
mode_is o t = ap mode_by (sym (plain_inside o.settings.plain o.settings.plain None true t refl))

same_depth : (o : Options) (t u : Tree Reading) → open_sections_of true o.settings.plain u ≡ open_sections_of true o.settings.plain t → depth t ≤ MAX_DEPTH → depth u ≤ MAX_DEPTH
same_depth o t u e d =
    grind (arith, depth_levels true o.settings.plain u, depth_levels true o.settings.plain t)

-- the text line that comes next is an item of its reading
text_item : (o : Options) (xs : List (Item Reading)) (t : Tree Reading) (r : Reading) → r ≡ read_after xs (mode_after o t) r.line →
    content_of r.scan ≡ text → next_item o xs t r.line ≡ text_line r
text_item o xs t r e c = ap (item_of o) (sym e) ∙ ap (item_by o r) c

one_text : (o : Options) (xs : List (Item Reading)) (t : Tree Reading) (r : Reading) → AreFaultless o xs t → depth t ≤ MAX_DEPTH →
    r ≡ read_after xs (mode_after o t) r.line → content_of r.scan ≡ text → IsWithinLimits r.line → MoreText o xs t (r ∷ []) (place_of o t)
one_text o xs t r sound d e c w =
    let k : Taken o.settings.plain t (text_line r) (text_action (place_of o t)) =
    taken o.settings.plain t (text_line r) (text_action (place_of o t)) refl in
    let same : open_sections_of true o.settings.plain k.tree ≡ open_sections_of true o.settings.plain t = k.changes in
    let lines_are : lines k.tree ≡ xs ++ text_line r ∷ [] = k.lines_are ∙ ap (λ ys. ys ++ text_line r ∷ []) (sound_lines sound) in
    let clear : NoneHolds xs (text_line r) cases =
    clear_line xs (text_line r) w (ap is_cut c) k.tree lines_are (marks t) (mark_of (text_action (place_of o t)))
    (same_depth o t k.tree same d) k.marks_are refl in
    let q : text_line r ≡ next_item o xs t r.line = sym (text_item o xs t r e c) in
    record {
      tree = k.tree;
      sound = subst (λ x. AreFaultless o (xs ++ x ∷ []) k.tree) (sym q)
          (one_more xs t sound r.line k.tree (lines_are ∙ ap (λ x. xs ++ x ∷ []) q) (subst (λ x. NoneHolds xs x cases) q clear));
      marks_are = k.marks_are;
      same = same;
    }

more_text : (o : Options) (xs : List (Item Reading)) (t : Tree Reading) (rs : List Reading) → AreFaultless o xs t → depth t ≤ MAX_DEPTH →
    AreTextLines o (mode_after o t) xs rs → MoreText o xs t rs (place_of o t)
more_text o xs t [] sound d a = grind (arith, append-nil xs, append-nil (marks t))
more_text o xs t (r ∷ rs) sound d a =
    let one : MoreText o xs t (r ∷ []) (place_of o t) = one_text o xs t r sound d a.0 a.1 a.2 in
    let rest : AreTextLines o (mode_after o one.tree) (xs ++ text_line r ∷ []) rs =
    subst (λ m. AreTextLines o m (xs ++ text_line r ∷ []) rs) (sym (grind (arith, mode_is, same_section, one.same))) a.3 in
    let more : MoreText o (xs ++ text_line r ∷ []) one.tree rs (place_of o one.tree) =
    more_text o (xs ++ text_line r ∷ []) one.tree rs one.sound (same_depth o t one.tree one.same d) rest in
    let place : place_of o one.tree ≡ place_of o t = ap kept_at (same_section o t one.tree one.same) in
    record {
      tree = more.tree;
      sound = subst (λ ys. AreFaultless o ys more.tree) (append_assoc xs (text_line r ∷ []) (map text_line rs)) more.sound;
      marks_are = more.marks_are
          ∙ ap₂ (λ ms k. ms ++ map (λ v. mark_of (text_action k)) rs) one.marks_are place
          ∙ append_assoc (marks t) (mark_of (text_action (place_of o t)) ∷ []) (map (λ v. mark_of (text_action (place_of o t))) rs);
      same = more.same ∙ one.same;
    }

ends_removed_run : (ms : List Mark) (k : Mark) (r : Reading) (rs : List Reading) →
    ends_removed (ms ++ map (λ v. k) (r ∷ rs)) ≡ is_removed k.verdict
ends_removed_run ms k r [] = last_removed ms k
ends_removed_run ms k r (q ∷ rs) =
    ap ends_removed (sym (append_assoc ms (k ∷ []) (map (λ v. k) (q ∷ rs)))) ∙ ends_removed_run (ms ++ k ∷ []) k q rs

-- a machine after text lines
pub reads_text : (m new : Machine) (o : Options) (xs : List (Item Reading)) (t : Tree Reading) (r : Reading) (rs : List Reading) (verdict : Verdict) → MachineRepresents m o xs t →
    length m.open_sections.items ≤ MAX_DEPTH → AreTextLines o (mode_after o t) xs (r ∷ rs) →
    verdict ≡ (text_action (kept_at (innermost_of m.open_sections.items))).verdict → new.settings ≡ m.settings → new.open_sections.items ≡ m.open_sections.items →
    new.removed ≡ is_removed verdict → new.last ≡ last_number (xs ++ map text_line (r ∷ rs)) → StepsText new o xs t (r ∷ rs) verdict
reads_text m new o xs t r rs verdict h fits a reported settings sections removed last =
    let here : verdict ≡ (text_action (place_of o t)).verdict =
    reported ∙ ap (λ ls. (text_action (kept_at (innermost_of ls))).verdict) h.sections ∙ ap (λ s. (text_action (kept_at s)).verdict) (innermost_level o.settings.plain t) in
    let more : MoreText o xs t (r ∷ rs) (place_of o t) = more_text o xs t (r ∷ rs) h.sound (shallow_by m o xs t h fits) a in
    record {
      tree = more.tree;
      read = grind (arith, ends_removed_run (marks t) (mark_of (text_action (place_of o t))) r rs);
      mark = mark_of (text_action (place_of o t));
      marks_are = more.marks_are;
      verdict_is = here;
    }
