-- The lines of the output for a text are those of its pruned nodes.
use Rattle.std.proofs.Common.{◌≡◌, List, [], ◌∷◌, ◌++◌, length, Bool, true, false, Some, None, refl, sym, ◌∙◌, ap, ap₂, arith, append-nil, append_assoc, length-append, rules}
use Rattle.ud_model.specs.declared.cond.Cond.{Cond}
use Rattle.ud_model.specs.declared.cond.Cond.TheVariants.{Yes}
use Rattle.ud_model.specs.declared.verdict.Verdict.{Verdict}
use Rattle.ud_model.specs.declared.verdict.Verdict.TheVariants.{Keep}
use Rattle.ud_model.specs.sections.Tree.{Item, Opener, Nodes, Groups, Elifs, text_line, if_line, elif_line, else_line, endif_line, nothing, text, section, conditional, otherwise, first, elif, closed, lines_of_nodes, lines_of_groups, lines_of_elifs}
use Rattle.ud_model.specs.sections.Pruning.{Part, an_if, an_elif, an_else, Mark, marked, is_kept, conds_of_elifs, conds_of_groups, endif_verdict, marks}
use Rattle.ud_model.specs.aids.SoFar.{verdict_so_far, nodes_so_far, groups_so_far, elifs_so_far}
use Rattle.ud_model.specs.laws.Pruned.{Edited, edited, kept_line, printed, then_nodes}
use Rattle.ud_model.proofs.output.Folded.{KeptGroups, none_kept, replaced, kept_groups, ended, with_group, with_else, then_kept, folded, kept_groups_of, kept_elifs_of}
use Rattle.ud_model.proofs.output.Changed.{as_many_nodes, as_many_groups, as_many_elifs}
use Rattle.ud_model.proofs.sections.Stays.{marks_so_far_same}
use Rattle.ud_model.proofs.sections.Stages.{Stage, leading, given, going, at_true, past, stage, next_stage, verdict_at, kept_at, verdict_by_stage, kept_by_stage, stage_next, endif_by_stage}

module _ {L : Type 0} where
  -- The output for two lists of lines.
  pub printed-append : (xs ys : List (Item L)) (ms ns : List Mark) → length xs ≡ length ms → printed (xs ++ ys) (ms ++ ns) ≡ printed xs ms ++ printed ys ns
  printed-append [] ys [] ns e = refl
  printed-append (x ∷ xs) ys (m ∷ ms) ns e = cc (printed-append xs ys ms ns (omega arith), append_assoc (kept_line m.verdict x) (printed xs ms) (printed ys ns))
  printed-append xs ys ms ns e = absurd (omega arith)

  -- The lines of the rest of a section's groups.
  abbrev pub left_lines : KeptGroups L → List (Item (Edited L))
  left_lines none_kept = []
  left_lines (replaced ms) = lines_of_nodes ms
  left_lines (kept_groups es) = lines_of_elifs es
  left_lines (ended es l ms None) = (lines_of_elifs es ++ else_line l ∷ []) ++ lines_of_nodes ms
  left_lines (ended es l ms (Some k)) = ((lines_of_elifs es ++ else_line l ∷ []) ++ lines_of_nodes ms) ++ endif_line k ∷ []

  -- The stage of such a rest.
  abbrev pub stage_of : KeptGroups L → Stage
  stage_of none_kept = leading
  stage_of (replaced ms) = given
  stage_of (kept_groups es) = going
  stage_of (ended es l ms None) = at_true
  stage_of (ended es l ms (Some k)) = past

  -- The rest of the groups, by their conditions.
  pub record Has (cs : List Cond) (left : KeptGroups L) (xs : List (Item (Edited L))) : Type 0 where
    pub represents : stage cs ≡ stage_of left
    pub are : xs ≡ left_lines left

  if_lines : (b : Bool) → Nodes (Edited L) → List (Item (Edited L))
  if_lines true ps = lines_of_nodes ps
  if_lines false ps = []

  stage_with : (left : KeptGroups L) (part : Part) (o : Opener L) (c : Cond) (ps : Nodes (Edited L)) → next_stage (stage_of left) c ≡ stage_of (with_group left part o c ps)
  stage_with left part o c ps = grind arith

  first_lines : (o : Opener L) (c : Cond) (ps : Nodes (Edited L)) →
      kept_line (verdict_at leading an_if c) (if_line o) ++ if_lines (kept_at leading c) ps ≡ left_lines (with_group none_kept an_if o c ps)
  unfolding if_lines
  first_lines o c ps = grind arith

  elif_lines : (left : KeptGroups L) (o : Opener L) (c : Cond) (ps : Nodes (Edited L)) →
      (left_lines left ++ kept_line (verdict_at (stage_of left) an_elif c) (elif_line o)) ++ if_lines (kept_at (stage_of left) c) ps
      ≡ left_lines (with_group left an_elif o c ps)
  unfolding if_lines
  elif_lines left o c ps = grind (arith, append-nil)

  else_lines : (left : KeptGroups L) (l : L) (ps : Nodes (Edited L)) →
      (left_lines left ++ kept_line (verdict_at (stage_of left) an_else Yes) (else_line l)) ++ if_lines (kept_at (stage_of left) Yes) ps
      ≡ left_lines (with_else left l ps)
  unfolding if_lines
  else_lines left l ps = grind (arith, append-nil)

  stage_else : (left : KeptGroups L) (l : L) (ps : Nodes (Edited L)) → next_stage (stage_of left) Yes ≡ stage_of (with_else left l ps)
  stage_else left l ps = grind arith

  -- The lines of nodes, and then those of others.
  pub lines_then : (ms ns : Nodes (Edited L)) → lines_of_nodes (then_nodes ms ns) ≡ lines_of_nodes ms ++ lines_of_nodes ns
  lines_then ms nothing = sym (append-nil (lines_of_nodes ms))
  lines_then ms (text ns l) = cc (lines_then ms ns, append_assoc (lines_of_nodes ms) (lines_of_nodes ns) (text_line l ∷ []))
  lines_then ms (section ns gs e) = rw (lines_then ms ns) simp append_assoc

  two_empty : (a b : List (Item (Edited L))) → a ≡ [] → b ≡ [] → a ++ b ≡ []
  two_empty a b d e = ap₂ (λ (p q : List (Item (Edited L))). p ++ q) d e

  more_long : (xs : List (Item L)) (ms : List Mark) (x : Item L) (m : Mark) → length xs ≡ length ms → length (xs ++ x ∷ []) ≡ length (ms ++ m ∷ [])
  more_long xs ms x m e = simp length-append (omega (arith, e))

  -- The output for a list, a line and another list.
  printed_between : (xs : List (Item L)) (x : Item L) (ys : List (Item L)) (ms : List Mark) (m : Mark) (ns : List Mark) → length xs ≡ length ms →
      printed ((xs ++ x ∷ []) ++ ys) ((ms ++ m ∷ []) ++ ns) ≡ (printed xs ms ++ kept_line m.verdict x) ++ printed ys ns
  printed_between xs x ys ms m ns e = grind (arith, printed-append, more_long)

  -- The output for two lists and a line.
  printed_after : (xs ys : List (Item L)) (x : Item L) (ms ns : List Mark) (m : Mark) → length xs ≡ length ms → length ys ≡ length ns →
      printed ((xs ++ ys) ++ x ∷ []) ((ms ++ ns) ++ m ∷ []) ≡ (printed xs ms ++ printed ys ns) ++ kept_line m.verdict x
  printed_after xs ys x ms ns m d e = grind (arith, printed-append, length-append)

  mutual
    -- If a group around is removed, nothing is left.
    pub nodes_gone : (ns : Nodes L) → printed (lines_of_nodes ns) (nodes_so_far false ns) ≡ []
    nodes_gone nothing = refl
    nodes_gone (text ns l) =
        printed-append (lines_of_nodes ns) (text_line l ∷ []) (nodes_so_far false ns) (marked false Keep ∷ []) (as_many_nodes false ns)
        ∙ two_empty (printed (lines_of_nodes ns) (nodes_so_far false ns)) (printed (text_line l ∷ []) (marked false Keep ∷ [])) (nodes_gone ns) refl
    nodes_gone (section ns gs e) =
        printed_after (lines_of_nodes ns) (lines_of_groups gs) (endif_line e) (nodes_so_far false ns) (groups_so_far false gs) (marked false (endif_verdict (conds_of_groups gs)))
        (as_many_nodes false ns) (as_many_groups false gs)
        ∙ two_empty (printed (lines_of_nodes ns) (nodes_so_far false ns) ++ printed (lines_of_groups gs) (groups_so_far false gs)) []
        (two_empty (printed (lines_of_nodes ns) (nodes_so_far false ns)) (printed (lines_of_groups gs) (groups_so_far false gs)) (nodes_gone ns) (groups_gone gs)) refl

    pub groups_gone : (gs : Groups L) → printed (lines_of_groups gs) (groups_so_far false gs) ≡ []
    groups_gone (conditional es) = elifs_gone es
    groups_gone (otherwise es l ns) =
        printed_between (lines_of_elifs es) (else_line l) (lines_of_nodes ns) (elifs_so_far false es)
        (marked false (verdict_so_far (conds_of_elifs es) an_else Yes)) (nodes_so_far false ns) (as_many_elifs false es)
        ∙ two_empty (printed (lines_of_elifs es) (elifs_so_far false es) ++ []) (printed (lines_of_nodes ns) (nodes_so_far false ns))
        (two_empty (printed (lines_of_elifs es) (elifs_so_far false es)) [] (elifs_gone es) refl) (nodes_gone ns)

    pub elifs_gone : (es : Elifs L) → printed (lines_of_elifs es) (elifs_so_far false es) ≡ []
    elifs_gone (first o ns) = nodes_gone ns
    elifs_gone (elif es o ns) =
        printed_between (lines_of_elifs es) (elif_line o) (lines_of_nodes ns) (elifs_so_far false es)
        (marked false (verdict_so_far (conds_of_elifs es) an_elif o.cond)) (nodes_so_far false ns)
        (as_many_elifs false es)
        ∙ two_empty (printed (lines_of_elifs es) (elifs_so_far false es) ++ []) (printed (lines_of_nodes ns) (nodes_so_far false ns))
        (two_empty (printed (lines_of_elifs es) (elifs_so_far false es)) [] (elifs_gone es) refl) (nodes_gone ns)

  by_place : (b : Bool) (ns : Nodes L) → printed (lines_of_nodes ns) (nodes_so_far true ns) ≡ lines_of_nodes (folded ns) →
      printed (lines_of_nodes ns) (nodes_so_far b ns) ≡ if_lines b (folded ns)
  unfolding if_lines
  by_place b ns h = grind (arith, nodes_gone)

  -- The rest of a group after others.
  elif_has : (cs : List Cond) (left : KeptGroups L) (o : Opener L) (ns : Nodes L) (xs : List (Item L)) (ms : List Mark) → length xs ≡ length ms → Has cs left (printed xs ms) →
      printed (lines_of_nodes ns) (nodes_so_far true ns) ≡ lines_of_nodes (folded ns) →
      Has (cs ++ o.cond ∷ []) (with_group left an_elif o o.cond (folded ns))
      (printed ((xs ++ elif_line o ∷ []) ++ lines_of_nodes ns) ((ms ++ marked true (verdict_so_far cs an_elif o.cond) ∷ []) ++ nodes_so_far (is_kept cs o.cond) ns))
  elif_has cs left o ns xs ms e h n = record {
    represents = stage_next cs o.cond ∙ ap (λ (s : Stage). next_stage s o.cond) h.represents ∙ stage_with left an_elif o o.cond (folded ns);
    are = printed_between xs (elif_line o) (lines_of_nodes ns) ms (marked true (verdict_so_far cs an_elif o.cond)) (nodes_so_far (is_kept cs o.cond) ns) e
        ∙ ap₂ (λ (zs ws : List (Item (Edited L))). zs ++ ws)
        (ap₂ (λ (zs : List (Item (Edited L))) (v : Verdict). zs ++ kept_line v (elif_line o)) h.are
        (verdict_by_stage cs an_elif o.cond ∙ ap (λ (s : Stage). verdict_at s an_elif o.cond) h.represents))
        (by_place (is_kept cs o.cond) ns n
        ∙ ap (λ (b : Bool). if_lines b (folded ns)) (kept_by_stage cs o.cond ∙ ap (λ (s : Stage). kept_at s o.cond) h.represents))
        ∙ elif_lines left o o.cond (folded ns);
  }

  else_has : (cs : List Cond) (left : KeptGroups L) (l : L) (ns : Nodes L) (xs : List (Item L)) (ms : List Mark) → length xs ≡ length ms → Has cs left (printed xs ms) →
      printed (lines_of_nodes ns) (nodes_so_far true ns) ≡ lines_of_nodes (folded ns) →
      Has (cs ++ Yes ∷ []) (with_else left l (folded ns))
      (printed ((xs ++ else_line l ∷ []) ++ lines_of_nodes ns) ((ms ++ marked true (verdict_so_far cs an_else Yes) ∷ []) ++ nodes_so_far (is_kept cs Yes) ns))
  else_has cs left l ns xs ms e h n = record {
    represents = stage_next cs Yes ∙ ap (λ (s : Stage). next_stage s Yes) h.represents ∙ stage_else left l (folded ns);
    are = printed_between xs (else_line l) (lines_of_nodes ns) ms (marked true (verdict_so_far cs an_else Yes)) (nodes_so_far (is_kept cs Yes) ns) e
        ∙ ap₂ (λ (zs ws : List (Item (Edited L))). zs ++ ws)
        (ap₂ (λ (zs : List (Item (Edited L))) (v : Verdict). zs ++ kept_line v (else_line l)) h.are
        (verdict_by_stage cs an_else Yes ∙ ap (λ (s : Stage). verdict_at s an_else Yes) h.represents))
        (by_place (is_kept cs Yes) ns n
        ∙ ap (λ (b : Bool). if_lines b (folded ns)) (kept_by_stage cs Yes ∙ ap (λ (s : Stage). kept_at s Yes) h.represents))
        ∙ else_lines left l (folded ns);
  }

  first_has : (o : Opener L) (ns : Nodes L) → printed (lines_of_nodes ns) (nodes_so_far true ns) ≡ lines_of_nodes (folded ns) →
      Has (o.cond ∷ []) (with_group none_kept an_if o o.cond (folded ns))
      (printed ((if_line o ∷ []) ++ lines_of_nodes ns) ((marked true (verdict_so_far [] an_if o.cond) ∷ []) ++ nodes_so_far (is_kept [] o.cond) ns))
  first_has o ns n = record {
    represents = stage_next [] o.cond ∙ stage_with none_kept an_if o o.cond (folded ns);
    are = cc (verdict_by_stage [] an_if o.cond, by_place (is_kept [] o.cond) ns n, kept_by_stage [] o.cond, first_lines o o.cond (folded ns));
  }

  section_printed : (cs : List Cond) (left : KeptGroups L) (ps : Nodes (Edited L)) (e : L) (xs ys : List (Item L)) (ms ns : List Mark) → length xs ≡ length ms → length ys ≡ length ns →
      printed xs ms ≡ lines_of_nodes ps → Has cs left (printed ys ns) →
      printed ((xs ++ ys) ++ endif_line e ∷ []) ((ms ++ ns) ++ marked true (endif_verdict cs) ∷ []) ≡ lines_of_nodes (then_kept ps left e)
  section_printed cs left ps e xs ys ms ns d f a h = grind (arith, printed_after, endif_by_stage, append-nil, lines_then, append_assoc)

  mutual
    nodes_printed : (ns : Nodes L) → printed (lines_of_nodes ns) (nodes_so_far true ns) ≡ lines_of_nodes (folded ns)
    nodes_printed nothing = refl
    nodes_printed (text ns l) =
        printed-append (lines_of_nodes ns) (text_line l ∷ []) (nodes_so_far true ns) (marked true Keep ∷ []) (as_many_nodes true ns)
        ∙ ap (λ (zs : List (Item (Edited L))). zs ++ text_line (edited Keep l) ∷ []) (nodes_printed ns)
    nodes_printed (section ns gs e) =
        section_printed (conds_of_groups gs) (kept_groups_of gs) (folded ns) e (lines_of_nodes ns) (lines_of_groups gs) (nodes_so_far true ns) (groups_so_far true gs)
        (as_many_nodes true ns) (as_many_groups true gs) (nodes_printed ns) (groups_printed gs)

    pub groups_printed : (gs : Groups L) → Has (conds_of_groups gs) (kept_groups_of gs) (printed (lines_of_groups gs) (groups_so_far true gs))
    groups_printed (conditional es) = elifs_printed es
    groups_printed (otherwise es l ns) =
        else_has (conds_of_elifs es) (kept_elifs_of es) l ns (lines_of_elifs es) (elifs_so_far true es) (as_many_elifs true es) (elifs_printed es) (nodes_printed ns)

    pub elifs_printed : (es : Elifs L) → Has (conds_of_elifs es) (kept_elifs_of es) (printed (lines_of_elifs es) (elifs_so_far true es))
    elifs_printed (first o ns) = first_has o ns (nodes_printed ns)
    elifs_printed (elif es o ns) =
        elif_has (conds_of_elifs es) (kept_elifs_of es) o ns (lines_of_elifs es) (elifs_so_far true es) (as_many_elifs true es) (elifs_printed es) (nodes_printed ns)

  -- The output for the lines of nodes is the lines of the pruned nodes.
  pub printed-pruned : (ns : Nodes L) → printed (lines_of_nodes ns) (marks (closed ns)) ≡ lines_of_nodes (folded ns)
  printed-pruned ns = search (rules, marks_so_far_same, nodes_printed)
