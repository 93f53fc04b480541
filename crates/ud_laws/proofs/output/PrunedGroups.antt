-- The pruned tree is what the table leaves of each section and its groups.
use Rattle.std.proofs.Common.{◌≡◌, List, [], ◌∷◌, ◌++◌, Bool, true, false, Some, None, if◌then◌else◌, refl, sym, ◌∙◌, ap, ap₂, subst, append_assoc, append-nil, arith, rules}
use Rattle.std.specs.Prelude.{◌↔◌}
use Rattle.std.proofs.lemmas.Bool.{both_ways}
use Rattle.ud_model.specs.declared.cond.Cond.{Cond}
use Rattle.ud_model.specs.declared.cond.Cond.TheVariants.{Yes, No, Unknown}
use Rattle.ud_model.specs.declared.verdict.Verdict.{Verdict}
use Rattle.ud_model.specs.declared.verdict.Verdict.TheVariants.{Keep, Remove, ToElse}
use Rattle.ud_model.specs.sections.Tree.{Item, Opener, Nodes, Groups, Elifs, text_line, if_line, elif_line, else_line, endif_line, nothing, text, section, conditional, otherwise, first, elif, lines_of_nodes, lines_of_groups, lines_of_elifs}
use Rattle.ud_model.specs.sections.Pruning.{Part, an_if, an_elif, an_else, is_kept, gives_way}
use Rattle.ud_model.specs.sections.Pruning.{opener_verdict, first_kept_verdict, endif_verdict}
use Rattle.ud_model.specs.sections.Pruning.{conds_of_elifs, conds_of_groups}
use Rattle.ud_model.specs.laws.Pruned.{Edited, edited, edited_opener, kept_line, IsPruned, Group, group, groups_of_elifs, groups_of, is_kept_group, left_of, others_left, IsEndif, ArePruned, no_nodes, text_stays, gives_way_to, section_stays, AreOfFirst, no_group, of_later, of_this, AreKept, no_groups, without, with_this}
use Rattle.ud_model.proofs.sections.Stages.{Stage, leading, given, going, at_true, past, stage}
use Rattle.ud_model.proofs.sections.Stages.{stage_inside, next_stage, verdict_at, kept_at, endif_at}
use Rattle.ud_model.proofs.sections.Stages.{verdict_by_stage, kept_by_stage, stage_next}
use Rattle.ud_model.proofs.sections.Stages.{endif_by_stage}
use Rattle.ud_model.proofs.output.Each.{Each, each_both}
use Rattle.ud_model.proofs.output.Folded.{KeptGroups, none_kept, replaced, kept_groups, ended, with_group, with_else, then_kept, folded, kept_groups_of, kept_elifs_of}
use Rattle.ud_model.proofs.output.PrintedPruned.{stage_of, lines_then, elifs_printed, groups_printed}
use Rattle.ud_model.proofs.output.PrunedTree.{folded_is, is_folded}

-- A section at this stage gives way.
abbrev way_at : Stage → Bool
way_at leading = true
way_at given = true
way_at _ = false

inside_way : (cs : List Cond) → false ≡ way_at (stage_inside cs)
inside_way (No ∷ cs) = inside_way cs
inside_way (Unknown ∷ cs) = inside_way cs
inside_way cs = grind arith

way_by_stage : (cs : List Cond) → gives_way cs ≡ way_at (stage cs)
way_by_stage (No ∷ cs) = way_by_stage cs
way_by_stage cs = grind (arith, inside_way)

-- An opener has the verdict of its stage if its section stays, and would stay without the groups
-- after its own.
verdict_on : (all cs : List Cond) (s : Stage) → gives_way all ≡ false → stage cs ≡ s →
    (part : Part) (c : Cond) →
    way_at (next_stage s c) ≡ false → opener_verdict all cs part c ≡ verdict_at s part c
verdict_on all cs s g e part c w =
    let n : gives_way (cs ++ c ∷ []) ≡ false = way_by_stage (cs ++ c ∷ [])
    ∙ ap way_at (stage_next cs c ∙ ap (λ (t : Stage). next_stage t c) e) ∙ w in
    grind (arith, n, verdict_by_stage cs part c)

-- A false group before all kept ones has an opener that is removed.
false_verdict : (all cs : List Cond) → gives_way all ≡ false → stage cs ≡ leading → (part : Part) →
    opener_verdict all cs part No ≡ Remove
false_verdict all cs g e part = grind (arith, kept_by_stage cs Yes)

kept_on : (cs : List Cond) (c : Cond) (s : Stage) → stage cs ≡ s → is_kept cs c ≡ kept_at s c
kept_on cs c s e = kept_by_stage cs c ∙ ap (λ (t : Stage). kept_at t c) e

way_on : (cs : List Cond) (s : Stage) → stage cs ≡ s → gives_way cs ≡ way_at s
way_on cs s e = way_by_stage cs ∙ ap way_at e

endif_on : (cs : List Cond) (s : Stage) → stage cs ≡ s → endif_verdict cs ≡ endif_at s
endif_on cs s e = endif_by_stage cs ∙ ap endif_at e

module _ {L : Type 0} where
  -- The group isn't kept.
  abbrev Gone : Group L → Type 0
  Gone g = is_kept_group g ≡ false

  none_of_first : (gs : List (Group L)) → Each Gone gs → AreOfFirst gs nothing
  none_of_first [] h = no_group
  none_of_first (g ∷ gs) h = of_later h.0 (none_of_first gs h.1)

  none_then : (gs later : List (Group L)) (ps : Nodes (Edited L)) → Each Gone gs → AreOfFirst later ps → AreOfFirst (gs ++ later) ps
  none_then [] later ps h f = f
  none_then (g ∷ gs) later ps h f = of_later h.0 (none_then gs later ps h.1 f)

  first_stays : {gs : List (Group L)} {ps : Nodes (Edited L)} (later : List (Group L)) → AreOfFirst gs ps → Each Gone later → AreOfFirst (gs ++ later) ps
  first_stays later no_group h = none_of_first later h
  first_stays later (of_later e f) h = of_later e (first_stays later f h)
  first_stays later (of_this e p) h = of_this e p

  none_are : (all : List Cond) (gs : List (Group L)) → Each Gone gs → AreKept all gs []
  none_are all [] h = no_groups
  none_are all (g ∷ gs) h = without h.0 (none_are all gs h.1)

  kept_both : {all : List Cond} {gs : List (Group L)} {hs : List (Group (Edited L))} (later : List (Group L)) (more : List (Group (Edited L))) → AreKept all gs hs → AreKept all later more →
      AreKept all (gs ++ later) (hs ++ more)
  kept_both later more no_groups b = b
  kept_both later more (without e a) b = without e (kept_both later more a b)
  kept_both later more (with_this e o p a) b = with_this e o p (kept_both later more a b)

  kept_longer : {all : List Cond} {gs : List (Group L)} {hs : List (Group (Edited L))} (later : List (Group L)) → AreKept all gs hs → Each Gone later → AreKept all (gs ++ later) hs
  kept_longer {all} later no_groups h = none_are all later h
  kept_longer later (without e a) h = without e (kept_longer later a h)
  kept_longer later (with_this e o p a) h = with_this e o p (kept_longer later a h)

  -- The openers that are left of the groups that aren't kept, with a group more.
  others_both : (all : List Cond) (gs more : List (Group L)) → others_left all (gs ++ more) ≡ others_left all gs ++ others_left all more
  others_both all [] more = refl
  others_both all (g ∷ gs) more = grind (arith, append_assoc, others_both all gs more)

  other_kept : (all : List Cond) (g : Group L) → is_kept_group g ≡ true → others_left all (g ∷ []) ≡ []
  other_kept all g e = ap (λ (b : Bool). (if b then [] else left_of all g) ++ []) e

  other_gone : (all : List Cond) (g : Group L) (l : List (Item (Edited L))) → is_kept_group g ≡ false → left_of all g ≡ l → others_left all (g ∷ []) ≡ l
  other_gone all g l e f = ap (λ (b : Bool). (if b then [] else left_of all g) ++ []) e ∙ append-nil (left_of all g) ∙ f

  others_then : (all : List Cond) (gs : List (Group L)) (g : Group L) (l m : List (Item (Edited L))) →
      others_left all gs ≡ l → others_left all (g ∷ []) ≡ m → others_left all (gs ++ g ∷ []) ≡ l ++ m
  others_then all gs g l m e f = others_both all gs (g ∷ []) ∙ ap₂ (λ (x y : List (Item (Edited L))). x ++ y) e f

  -- These groups are kept, and this line is left of the openers of the others.
  record Left (all : List Cond) (gs : List (Group L)) (hs : List (Group (Edited L))) (ends : List (Item (Edited L))) : Type 0 where
    pub are : AreKept all gs hs
    pub others : others_left all gs ≡ ends

  -- The rest of a section's groups is what the table leaves of them.
  abbrev Leaves : List (Group L) → KeptGroups L → Type 0
  Leaves gs none_kept = Each Gone gs × ((all : List Cond) → gives_way all ≡ false → others_left all gs ≡ [])
  Leaves gs (replaced ms) = AreOfFirst gs ms
  Leaves gs (kept_groups es) = (all : List Cond) → gives_way all ≡ false → Left all gs (groups_of_elifs es) []
  Leaves gs (ended es l ms None) = (all : List Cond) → gives_way all ≡ false → Left all gs (groups_of (otherwise es l ms)) []
  Leaves gs (ended es l ms (Some k)) = (all : List Cond) → gives_way all ≡ false → Left all gs (groups_of (otherwise es l ms)) (endif_line k ∷ [])

  -- One more group is kept.
  one_kept : (all cs : List Cond) (st : Stage) → gives_way all ≡ false → stage cs ≡ st →
      (part : Part) (c : Cond) (x : Item L) (ns : Nodes L) → kept_at st c ≡ true →
      way_at (next_stage st c) ≡ false → (k : Group (Edited L)) →
      kept_line (verdict_at st part c) x ≡ k.opener ∷ [] → ArePruned ns k.nodes →
      {gs : List (Group L)} {hs : List (Group (Edited L))} → Left all gs hs [] →
      Left all (gs ++ group part cs c x ns ∷ []) (hs ++ k ∷ []) []
  one_kept all cs st stays s part c x ns e w k o p h =
      grind (arith, kept_both, others_then, other_kept, with_this, no_groups, kept_on, verdict_on)

  -- One more group isn't kept.
  one_gone : (all cs : List Cond) (st : Stage) → gives_way all ≡ false → stage cs ≡ st →
      (part : Part) (c : Cond) (x : Item L) (ns : Nodes L) → kept_at st c ≡ false →
      way_at (next_stage st c) ≡ false → {gs : List (Group L)} {hs : List (Group (Edited L))}
      {ends : List (Item (Edited L))} → Left all gs hs ends →
      Left all (gs ++ group part cs c x ns ∷ []) hs (ends ++ kept_line (verdict_at st part c) x)
  one_gone all cs st stays s part c x ns e w h =
      grind (arith, kept_longer, others_then, other_gone, kept_on, verdict_on)

  start_leaves : (part : Part) (x : Item L) (o : Opener L) → kept_line (first_kept_verdict part) x ≡ if_line (edited_opener (first_kept_verdict part) o) ∷ [] →
      (cs : List Cond) (gs : List (Group L)) → stage cs ≡ leading → Leaves gs none_kept → (c : Cond) (ns : Nodes L) (ps : Nodes (Edited L)) → ArePruned ns ps →
      Leaves (gs ++ group part cs c x ns ∷ []) (with_group none_kept part o c ps)
  start_leaves part x o e cs gs s h Yes ns ps p = none_then gs (group part cs Yes x ns ∷ []) ps h.0 (of_this (kept_on cs Yes leading s) p)
  start_leaves part x o e cs gs s h No ns ps p =
      grind (arith, each_both, others_then, false_verdict)
  start_leaves part x o e cs gs s h Unknown ns ps p =
      λ all stays. one_kept all cs leading stays s part Unknown x ns refl refl
      (group an_if [] o.cond (if_line (edited_opener (first_kept_verdict part) o)) ps) e p
      (record { are = none_are all gs h.0; others = h.1 all stays })

  elif_leaves : (cs : List Cond) (gs : List (Group L)) (left : KeptGroups L) → stage cs ≡ stage_of left → Leaves gs left → (o : Opener L) (c : Cond) (ns : Nodes L) (ps : Nodes (Edited L)) →
      ArePruned ns ps → Leaves (gs ++ group an_elif cs c (elif_line o) ns ∷ []) (with_group left an_elif o c ps)
  elif_leaves cs gs none_kept s h o c ns ps p = start_leaves an_elif (elif_line o) o refl cs gs s h c ns ps p
  elif_leaves cs gs (replaced ms) s h o c ns ps p = first_stays (group an_elif cs c (elif_line o) ns ∷ []) h (kept_on cs c given s, tt)
  elif_leaves cs gs (kept_groups es) s h o Yes ns ps p =
      λ all stays. one_kept all cs going stays s an_elif Yes (elif_line o) ns refl refl
      (group an_else (conds_of_elifs es) Yes (else_line (edited ToElse o.line)) ps) refl p (h all stays)
  elif_leaves cs gs (kept_groups es) s h o No ns ps p =
      λ all stays. one_gone all cs going stays s an_elif No (elif_line o) ns refl refl (h all stays)
  elif_leaves cs gs (kept_groups es) s h o Unknown ns ps p =
      λ all stays. one_kept all cs going stays s an_elif Unknown (elif_line o) ns refl refl
      (group an_elif (conds_of_elifs es) o.cond (elif_line (edited_opener Keep o)) ps) refl p
      (h all stays)
  elif_leaves cs gs (ended es l ms None) s h o c ns ps p =
      λ all stays. one_gone all cs at_true stays s an_elif c (elif_line o) ns refl refl (h all stays)
  elif_leaves cs gs (ended es l ms (Some k)) s h o c ns ps p =
      λ all stays. one_gone all cs past stays s an_elif c (elif_line o) ns refl refl (h all stays)

  else_leaves : (cs : List Cond) (gs : List (Group L)) (left : KeptGroups L) → stage cs ≡ stage_of left → Leaves gs left → (l : L) (ns : Nodes L) (ps : Nodes (Edited L)) →
      ArePruned ns ps → Leaves (gs ++ group an_else cs Yes (else_line l) ns ∷ []) (with_else left l ps)
  else_leaves cs gs none_kept s h l ns ps p = none_then gs (group an_else cs Yes (else_line l) ns ∷ []) ps h.0 (of_this (kept_on cs Yes leading s) p)
  else_leaves cs gs (replaced ms) s h l ns ps p = first_stays (group an_else cs Yes (else_line l) ns ∷ []) h (kept_on cs Yes given s, tt)
  else_leaves cs gs (kept_groups es) s h l ns ps p =
      λ all stays. one_kept all cs going stays s an_else Yes (else_line l) ns refl refl
      (group an_else (conds_of_elifs es) Yes (else_line (edited Keep l)) ps) refl p (h all stays)
  else_leaves cs gs (ended es k ms None) s h l ns ps p =
      λ all stays. one_gone all cs at_true stays s an_else Yes (else_line l) ns refl refl (h all stays)
  else_leaves cs gs (ended es k ms (Some j)) s h l ns ps p =
      λ all stays. one_gone all cs past stays s an_else Yes (else_line l) ns refl refl (h all stays)

  -- The section's `#endif`, by the stage at its end.
  is_endif : (gs : Groups L) (e : L) (k : Edited L) (ends m : List (Item (Edited L))) (v : Verdict) →
      others_left (conds_of_groups gs) (groups_of gs) ≡ ends → endif_verdict (conds_of_groups gs) ≡ v →
      kept_line v (endif_line e) ≡ m → ends ++ m ≡ endif_line k ∷ [] → IsEndif (conds_of_groups gs) (groups_of gs) e k
  is_endif gs e k ends m v o f g h = grind arith

  section_pruned : (ns : Nodes L) (gs : Groups L) (e : L) (ps : Nodes (Edited L)) (left : KeptGroups L) → stage (conds_of_groups gs) ≡ stage_of left → Leaves (groups_of gs) left →
      ArePruned ns ps → ArePruned (section ns gs e) (then_kept ps left e)
  section_pruned ns gs e ps none_kept s h p = gives_way_to (way_on (conds_of_groups gs) leading s) p (none_of_first (groups_of gs) h.0)
  section_pruned ns gs e ps (replaced ms) s h p = gives_way_to (way_on (conds_of_groups gs) given s) p h
  section_pruned ns gs e ps (kept_groups es) s h p =
      let stays : gives_way (conds_of_groups gs) ≡ false = way_on (conds_of_groups gs) going s in
      let l : Left (conds_of_groups gs) (groups_of gs) (groups_of_elifs es) [] = h (conds_of_groups gs) stays in
      section_stays stays p l.are (is_endif gs e (edited Keep e) [] (endif_line (edited Keep e) ∷ []) Keep l.others (endif_on (conds_of_groups gs) going s) refl refl)
  section_pruned ns gs e ps (ended es l ms None) s h p =
      let stays : gives_way (conds_of_groups gs) ≡ false = way_on (conds_of_groups gs) at_true s in
      let f : Left (conds_of_groups gs) (groups_of gs) (groups_of (otherwise es l ms)) [] = h (conds_of_groups gs) stays in
      section_stays stays p f.are (is_endif gs e (edited Keep e) [] (endif_line (edited Keep e) ∷ []) Keep f.others (endif_on (conds_of_groups gs) at_true s) refl refl)
  section_pruned ns gs e ps (ended es l ms (Some k)) s h p =
      let stays : gives_way (conds_of_groups gs) ≡ false = way_on (conds_of_groups gs) past s in
      let f = h (conds_of_groups gs) stays in
      section_stays stays p f.are (is_endif gs e k (endif_line k ∷ []) [] Remove f.others (endif_on (conds_of_groups gs) past s) refl refl)

  mutual
    folded_pruned : (ns : Nodes L) → ArePruned ns (folded ns)
    folded_pruned nothing = no_nodes
    folded_pruned (text ns l) = text_stays (folded_pruned ns)
    folded_pruned (section ns gs e) =
        section_pruned ns gs e (folded ns) (kept_groups_of gs) (groups_printed gs).represents (groups_leave gs) (folded_pruned ns)

    groups_leave : (gs : Groups L) → Leaves (groups_of gs) (kept_groups_of gs)
    groups_leave (conditional es) = elifs_leave es
    groups_leave (otherwise es l ns) =
        else_leaves (conds_of_elifs es) (groups_of_elifs es) (kept_elifs_of es) (elifs_printed es).represents (elifs_leave es) l ns (folded ns) (folded_pruned ns)

    elifs_leave : (es : Elifs L) → Leaves (groups_of_elifs es) (kept_elifs_of es)
    elifs_leave (first o ns) = start_leaves an_if (if_line o) o refl [] [] refl (tt, λ all stays. refl) o.cond ns (folded ns) (folded_pruned ns)
    elifs_leave (elif es o ns) =
        elif_leaves (conds_of_elifs es) (groups_of_elifs es) (kept_elifs_of es) (elifs_printed es).represents (elifs_leave es) o o.cond ns (folded ns) (folded_pruned ns)

-- The lines of groups, in order.
abbrev lines_in : {M : Type 0} → List (Group M) → List (Item M)
lines_in [] = []
lines_in (g ∷ gs) = (g.opener ∷ lines_of_nodes g.nodes) ++ lines_in gs

module _ {M : Type 0} where
  lines_last : (gs : List (Group M)) (g : Group M) → lines_in (gs ++ g ∷ []) ≡ (lines_in gs ++ g.opener ∷ []) ++ lines_of_nodes g.nodes
  lines_last [] g = append-nil (g.opener ∷ lines_of_nodes g.nodes)
  lines_last (h ∷ gs) g = simp (lines_last gs g, append_assoc)

  elifs_lines_in : (es : Elifs M) → lines_in (groups_of_elifs es) ≡ lines_of_elifs es
  elifs_lines_in (first o ns) = lines_last [] (group an_if [] o.cond (if_line o) ns)
  elifs_lines_in (elif es o ns) = cc (lines_last (groups_of_elifs es) (group an_elif (conds_of_elifs es) o.cond (elif_line o) ns), elifs_lines_in es)

  groups_lines_in : (gs : Groups M) → lines_in (groups_of gs) ≡ lines_of_groups gs
  groups_lines_in gs = grind (arith, elifs_lines_in, lines_last)

module _ {L : Type 0} where
  join3 : (a b c d : List (Item (Edited L))) (k j : List (Item (Edited L))) → a ≡ b → c ≡ d → k ≡ j → (a ++ c) ++ k ≡ (b ++ d) ++ j
  join3 a b c d k j e f g = search rules

  mutual
    -- The table leaves the same lines in one way.
    same_nodes : {ns : Nodes L} {ps qs : Nodes (Edited L)} → ArePruned ns ps → ArePruned ns qs → lines_of_nodes ps ≡ lines_of_nodes qs
    same_nodes no_nodes no_nodes = refl
    same_nodes (text_stays {l = l} p) (text_stays q) = ap (λ (xs : List (Item (Edited L))). xs ++ text_line (edited Keep l) ∷ []) (same_nodes p q)
    same_nodes (gives_way_to {ps = ps} {qs = ms} w p f) (gives_way_to {ps = qs} {qs = ns} v q g) =
        lines_then ps ms ∙ ap₂ (λ (x y : List (Item (Edited L))). x ++ y) (same_nodes p q) (same_first f g) ∙ sym (lines_then qs ns)
    same_nodes (gives_way_to w p f) (section_stays v q a e) = absurd (both_ways _ v w)
    same_nodes (section_stays v q a e) (gives_way_to w p f) = absurd (both_ways _ v w)
    same_nodes (section_stays {ps = ps} {hs = hs} {k = k} w p a e) (section_stays {ps = qs} {hs = js} {k = j} v q b f) =
        join3 (lines_of_nodes ps) (lines_of_nodes qs) (lines_of_groups hs) (lines_of_groups js) (endif_line k ∷ []) (endif_line j ∷ [])
        (same_nodes p q) (sym (groups_lines_in hs) ∙ same_kept a b ∙ groups_lines_in js) (sym e ∙ f)

    same_first : {gs : List (Group L)} {ps qs : Nodes (Edited L)} → AreOfFirst gs ps → AreOfFirst gs qs → lines_of_nodes ps ≡ lines_of_nodes qs
    same_first no_group no_group = refl
    same_first (of_later e f) (of_later d g) = same_first f g
    same_first (of_later e f) (of_this d q) = absurd (both_ways _ e d)
    same_first (of_this e p) (of_later d g) = absurd (both_ways _ d e)
    same_first (of_this e p) (of_this d q) = same_nodes p q

    same_kept : {all : List Cond} {gs : List (Group L)} {hs js : List (Group (Edited L))} → AreKept all gs hs → AreKept all gs js → lines_in hs ≡ lines_in js
    same_kept no_groups no_groups = refl
    same_kept (without e a) (without d b) = same_kept a b
    same_kept (without e a) (with_this d o q b) = absurd (both_ways _ e d)
    same_kept (with_this e o p a) (without d b) = absurd (both_ways _ d e)
    same_kept (with_this {h = h} {hs = hs} e o p a) (with_this {h = j} {hs = js} d m q b) =
        join3 (h.opener ∷ []) (j.opener ∷ []) (lines_of_nodes h.nodes) (lines_of_nodes j.nodes) (lines_in hs) (lines_in js) (sym o ∙ m) (same_nodes p q) (same_kept a b)

  -- The pruned tree is what the table leaves, and nothing else is.
  pub pruned_is : (ns : Nodes L) (ps : Nodes (Edited L)) → IsPruned ns ps ↔ ArePruned ns ps
  pruned_is ns ps = (
    λ h. subst (λ (qs : Nodes (Edited L)). ArePruned ns qs) (is_folded ns ps h) (folded_pruned ns),
    λ p. same_nodes p (folded_pruned ns) ∙ folded_is ns,
  )
