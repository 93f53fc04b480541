-- In a pruned tree nothing is decided, and if nothing is decided each line stays as it is. The
-- openers of a pruned tree stay as they are, or become an `#if`.
use Rattle.std.proofs.Common.{◌≡◌, [], ◌∷◌, ◌++◌, Bool, true, refl, sym, ◌∙◌, ap, ap₂, subst, arith, List}
use Rattle.ud_model.specs.declared.cond.Cond.{Cond}
use Rattle.ud_model.specs.declared.cond.Cond.TheVariants.{Yes}
use Rattle.ud_model.specs.declared.verdict.Verdict.{Verdict}
use Rattle.ud_model.specs.declared.verdict.Verdict.TheVariants.{Keep, ToIf}
use Rattle.ud_model.specs.sections.Tree.{Nodes, Groups, Elifs, nothing, text, section, conditional, otherwise, first, elif, closed, Item, Opener, if_line, elif_line, lines_of_nodes}
use Rattle.ud_model.specs.sections.Pruning.{an_if, an_elif, an_else, Mark, marked, is_kept, conds_of_elifs, conds_of_groups, endif_verdict, marks, Part, first_kept_verdict}
use Rattle.ud_model.specs.aids.SoFar.{verdict_so_far, nodes_so_far, groups_so_far, elifs_so_far}
use Rattle.ud_model.specs.laws.Pruned.{IsUndecided, IsUnknown, Any, GroupLines, ElifLines, Edited}
use Rattle.ud_model.proofs.output.Folded.{folded}
use Rattle.ud_model.proofs.output.EachLines.{AnyOpener, any_lines, IsOf, to_items}
use Rattle.ud_model.proofs.output.PrunedLines.{pruned_each}
use Rattle.ud_model.proofs.output.Each.{Each, each_both}
use Rattle.ud_model.proofs.sections.Stays.{marks_so_far_same}
use Rattle.ud_model.proofs.sections.Stages.{Stage, going, stage, next_stage, verdict_at, kept_at, verdict_by_stage, kept_by_stage, stage_next, endif_by_stage}
use Rattle.ud_model.specs.laws.Worlds.{openers, openers_in}
use Rattle.ud_model.proofs.output.PrunedTree.{openers_lines}

-- A line that stays as it is.
abbrev pub Stays : Mark → Type 0
Stays m = m ≡ marked true Keep

stays_if : (v : Verdict) → v ≡ Keep → Stays (marked true v)
stays_if v e = ap (λ (u : Verdict). marked true u) e

module _ {L : Type 0} where
  -- In pruned nodes each condition but that of an `#else` is unknown.
  pub pruned_undecided : (ns : Nodes L) → IsUndecided (folded ns)
  pruned_undecided ns = pruned_each Any AnyOpener Any IsUnknown (λ l h. tt) (λ part o u h. u) ns (any_lines ns)

  -- The stage of groups none of which is decided.
  going_on : (es : Elifs L) → ElifLines Any IsUnknown es → stage (conds_of_elifs es) ≡ going
  going_on (first o ns) h = ap (λ (c : Cond). stage (c ∷ [])) h.0
  going_on (elif es o ns) h = stage_next (conds_of_elifs es) o.cond ∙ ap₂ (λ (s : Stage) (c : Cond). next_stage s c) (going_on es h.0) h.1

  place_stays : (b : Bool) (ns : Nodes L) → b ≡ true → Each Stays (nodes_so_far true ns) → Each Stays (nodes_so_far b ns)
  place_stays b ns e h = subst (λ (k : Bool). Each Stays (nodes_so_far k ns)) (sym e) h

  endif_stays : (gs : Groups L) → GroupLines Any IsUnknown gs → endif_verdict (conds_of_groups gs) ≡ Keep
  endif_stays gs h = grind (arith, endif_by_stage, going_on, stage_next)

  mutual
    nodes_stay : (ns : Nodes L) → IsUndecided ns → Each Stays (nodes_so_far true ns)
    nodes_stay nothing h = tt
    nodes_stay (text ns l) h = each_both Stays (nodes_so_far true ns) (marked true Keep ∷ []) (nodes_stay ns h.0) (refl, tt)
    nodes_stay (section ns gs e) h =
        each_both Stays (nodes_so_far true ns ++ groups_so_far true gs) (marked true (endif_verdict (conds_of_groups gs)) ∷ [])
        (each_both Stays (nodes_so_far true ns) (groups_so_far true gs) (nodes_stay ns h.0) (groups_stay gs h.1))
        (stays_if (endif_verdict (conds_of_groups gs)) (endif_stays gs h.1), tt)

    groups_stay : (gs : Groups L) → GroupLines Any IsUnknown gs → Each Stays (groups_so_far true gs)
    groups_stay (conditional es) h = elifs_stay es h
    groups_stay (otherwise es l ns) h =
        let s : stage (conds_of_elifs es) ≡ going = going_on es h.0 in
        each_both Stays (elifs_so_far true es ++ marked true (verdict_so_far (conds_of_elifs es) an_else Yes) ∷ []) (nodes_so_far (is_kept (conds_of_elifs es) Yes) ns)
        (each_both Stays (elifs_so_far true es) (marked true (verdict_so_far (conds_of_elifs es) an_else Yes) ∷ []) (elifs_stay es h.0)
        (stays_if (verdict_so_far (conds_of_elifs es) an_else Yes) (verdict_by_stage (conds_of_elifs es) an_else Yes ∙ ap (λ (t : Stage). verdict_at t an_else Yes) s), tt))
        (place_stays (is_kept (conds_of_elifs es) Yes) ns (kept_by_stage (conds_of_elifs es) Yes ∙ ap (λ (t : Stage). kept_at t Yes) s) (nodes_stay ns h.1))

    elifs_stay : (es : Elifs L) → ElifLines Any IsUnknown es → Each Stays (elifs_so_far true es)
    elifs_stay (first o ns) h =
        each_both Stays (marked true (verdict_so_far [] an_if o.cond) ∷ []) (nodes_so_far (is_kept [] o.cond) ns)
        (stays_if (verdict_so_far [] an_if o.cond) (ap (λ (c : Cond). verdict_so_far [] an_if c) h.0), tt)
        (place_stays (is_kept [] o.cond) ns (ap (λ (c : Cond). is_kept [] c) h.0) (nodes_stay ns h.1))
    elifs_stay (elif es o ns) h = let s : stage (conds_of_elifs es) ≡ going = going_on es h.0 in
        each_both Stays (elifs_so_far true es ++ marked true (verdict_so_far (conds_of_elifs es) an_elif o.cond) ∷ []) (nodes_so_far (is_kept (conds_of_elifs es) o.cond) ns)
        (each_both Stays (elifs_so_far true es) (marked true (verdict_so_far (conds_of_elifs es) an_elif o.cond) ∷ []) (elifs_stay es h.0) (
          stays_if (verdict_so_far (conds_of_elifs es) an_elif o.cond)
              (verdict_by_stage (conds_of_elifs es) an_elif o.cond ∙ ap₂ (λ (t : Stage) (c : Cond). verdict_at t an_elif c) s h.1),
          tt,
        ))
        (place_stays (is_kept (conds_of_elifs es) o.cond) ns (kept_by_stage (conds_of_elifs es) o.cond ∙ ap₂ (λ (t : Stage) (c : Cond). kept_at t c) s h.1) (nodes_stay ns h.2))

  -- If nothing is decided, each line stays as it is.
  pub undecided_stay : (ns : Nodes L) → IsUndecided ns → Each Stays (marks (closed ns))
  undecided_stay ns h = subst (Each Stays) (sym (marks_so_far_same true (closed ns))) (nodes_stay ns h)

-- The openers of a pruned tree.

-- An opener with this verdict keeps its condition.
abbrev pub KeepsCondition : Verdict → Type 0
KeepsCondition Keep = Unit {0}
KeepsCondition ToIf = Unit {0}
KeepsCondition _ = ⊥

pub first_keeps : (part : Part) → KeepsCondition (first_kept_verdict part)
first_keeps part = grind arith

module _ {L : Type 0} where
  abbrev pub Keeps : Edited L → Type 0
  Keeps e = KeepsCondition e.verdict

  abbrev pub OpenerKeeps : Opener (Edited L) → Type 0
  OpenerKeeps o = Keeps o.line

  items_keep : (xs : List (Item (Edited L))) → Each (IsOf Any OpenerKeeps) xs → Each Keeps (openers_in xs)
  items_keep [] h = tt
  items_keep (if_line o ∷ xs) h = (h.0, items_keep xs h.1)
  items_keep (elif_line o ∷ xs) h = (h.0, items_keep xs h.1)
  items_keep (x ∷ xs) h = items_keep xs h.1

  -- The openers of pruned nodes stay, or become an `#if`.
  pub pruned_keeps : (ns : Nodes L) → Each Keeps (openers (folded ns))
  pruned_keeps ns =
      subst (Each Keeps) (openers_lines (folded ns)) (items_keep (lines_of_nodes (folded ns))
      (to_items Any OpenerKeeps (folded ns) (pruned_each Any AnyOpener Any OpenerKeeps (λ l h. tt) (λ part o u h. first_keeps part) ns (any_lines ns))))
