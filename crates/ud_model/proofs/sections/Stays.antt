-- Stays: a line's mark is the same in every longer text, since no later group's condition changes
-- an opener's verdict.
use Rattle.std.proofs.Common.{◌≡◌, List, [], ◌∷◌, ◌++◌, length, Bool, true, ◌&&◌, refl, append_assoc, append-nil, subst, arith}
use Rattle.ud_model.specs.declared.cond.Cond.{Cond}
use Rattle.ud_model.specs.declared.cond.Cond.TheVariants.{Yes, No}
use Rattle.ud_model.specs.declared.verdict.Verdict.TheVariants.{Keep}
use Rattle.ud_model.specs.sections.Tree.{Item, Nodes, Groups, Elifs, Head, Tree, nothing, text, section, conditional, otherwise, first, elif, closed, open_section, lines}
use Rattle.ud_model.specs.sections.Pruning.{Part, an_if, an_elif, an_else, Mark, marked, is_kept, is_inside_kept, opener_verdict, endif_verdict, conds_of_elifs, conds_of_groups, marks_of_nodes, marks_of_groups, marks_of_elifs, marks_in, marks}
use Rattle.ud_model.specs.aids.SoFar.{verdict_so_far, nodes_so_far, groups_so_far, elifs_so_far, head_so_far, marks_so_far}
use Rattle.ud_model.proofs.text.Pushes.{by_push}
use Rattle.ud_model.proofs.sections.Growth.{Adds, adds_text, adds_if, elif_after_if, elif_after_elif, else_after_if, else_after_elif, adds_endif, adds_under, complete}
use Rattle.ud_model.proofs.sections.Unique.{length_by, stay_by}

-- The table over the whole section is that by the groups so far: the conditions of later groups
-- change no opener's verdict.
pub table_so_far : (before later : List Cond) (part : Part) (c : Cond) →
    opener_verdict (before ++ c ∷ later) before part c ≡ verdict_so_far before part c
table_so_far (No ∷ bs) later part c = table_so_far bs later part c
table_so_far before later part c = grind (arith)

module _ {L : Type 0} where
  mutual
    nodes_same : (kept : Bool) (ns : Nodes L) → marks_of_nodes kept ns ≡ nodes_so_far kept ns
    nodes_same kept nothing = refl
    nodes_same kept (text ns l) = rw (nodes_same kept ns)
    nodes_same kept (section ns gs e) = rw (nodes_same kept ns, groups_same kept gs)

    groups_same : (kept : Bool) (gs : Groups L) → marks_of_groups kept (conds_of_groups gs) gs ≡ groups_so_far kept gs
    groups_same kept (conditional es) = subst (λ cs. marks_of_elifs kept cs es ≡ elifs_so_far kept es) (append-nil (conds_of_elifs es)) (elifs_same kept es [])
    groups_same kept (otherwise es l ns) =
        rw (elifs_same kept es (Yes ∷ []), table_so_far (conds_of_elifs es) [] an_else Yes, nodes_same (kept && is_kept (conds_of_elifs es) Yes) ns)

    elifs_same : (kept : Bool) (es : Elifs L) (later : List Cond) → marks_of_elifs kept (conds_of_elifs es ++ later) es ≡ elifs_so_far kept es
    elifs_same kept (first o ns) later =
        rw (table_so_far [] later an_if o.cond, nodes_same (kept && is_kept [] o.cond) ns)
    elifs_same kept (elif es o ns) later =
        rw (
          append_assoc (conds_of_elifs es) (o.cond ∷ []) later,
          elifs_same kept es (o.cond ∷ later),
          table_so_far (conds_of_elifs es) later an_elif o.cond,
          nodes_same (kept && is_kept (conds_of_elifs es) o.cond) ns,
        )

  -- The marks by the table over the whole section are those by the groups so far.
  pub marks_so_far_same : (kept : Bool) (t : Tree L) → marks_in kept t ≡ marks_so_far kept t
  marks_so_far_same kept (closed ns) = nodes_same kept ns
  marks_so_far_same kept (open_section ns h t) = grind (arith, nodes_same, elifs_same, marks_so_far_same (kept && is_inside_kept h) t)

  pub groups_so_far-complete : (kept : Bool) (h : Head L) (b : Nodes L) →
      groups_so_far kept (complete h b) ≡ head_so_far kept h ++ nodes_so_far (kept && is_inside_kept h) b
  groups_so_far-complete kept h b = grind arith

  -- One more line has one more mark.
  pub marks_add : (kept : Bool) {t u : Tree L} {x : Item L} → Adds t x u → (m : Mark) × (marks_so_far kept u ≡ marks_so_far kept t ++ m ∷ [])
  marks_add kept adds_text = (marked kept Keep, refl)
  marks_add kept (adds_if {o = o}) = (marked kept (verdict_so_far [] an_if o.cond), simp append-nil)
  marks_add kept (elif_after_if {o = o} {p = p}) = (marked kept (verdict_so_far (o.cond ∷ []) an_elif p.cond), simp (append-nil, append_assoc))
  marks_add kept (elif_after_elif {es = es} {o = o} {p = p}) =
      (marked kept (verdict_so_far (conds_of_elifs es ++ o.cond ∷ []) an_elif p.cond), simp (append-nil, append_assoc))
  marks_add kept (else_after_if {o = o}) = (marked kept (verdict_so_far (o.cond ∷ []) an_else Yes), simp (append-nil, append_assoc))
  marks_add kept (else_after_elif {es = es} {o = o}) =
      (marked kept (verdict_so_far (conds_of_elifs es ++ o.cond ∷ []) an_else Yes), simp (append-nil, append_assoc))
  marks_add kept (adds_endif {ns = ns} {b = b} {h = h}) =
      (marked kept (endif_verdict (conds_of_groups (complete h b))), rw (groups_so_far-complete kept h b) simp append_assoc)
  marks_add kept (adds_under {ns = ns} {h = h} {t = t} {u = u} a) =
      let m = marks_add (kept && is_inside_kept h) a in
      (m.0, rw m.1 simp append_assoc)

  -- Each line has one mark.
  pub length_marks : (kept : Bool) (t : Tree L) → length (marks_in kept t) ≡ length (lines t)
  length_marks kept t = rw (marks_so_far_same kept t)
      (length_by (marks_so_far kept) (λ t u x a. marks_add kept a) (by_push (lines t)) refl t refl)

  -- The marks of a longer text begin with those of the text.
  pub marks_stay : (t u : Tree L) (more : List (Item L)) → lines u ≡ lines t ++ more → (rest : List Mark) × (marks u ≡ marks t ++ rest)
  marks_stay t u more e = rw (marks_so_far_same true t, marks_so_far_same true u)
      (stay_by (marks_so_far true) (λ t u x a. marks_add true a) (by_push more) t u e)

  -- One more line has one more mark.
  pub marks_more : {t u : Tree L} {x : Item L} → Adds t x u → (m : Mark) × (marks u ≡ marks t ++ m ∷ [])
  marks_more {t = t} {u = u} a = rw (marks_so_far_same true t, marks_so_far_same true u) (marks_add true a)
