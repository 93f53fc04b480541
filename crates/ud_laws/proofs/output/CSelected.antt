-- A world that C may give a text without a fault agrees with the decision on each opener that it
-- reaches.
--
-- A directive that is decided is edited or removed, if all groups around its section are kept. So
-- it joins no other line, and its condition ends on its line.
use Rattle.std.proofs.Common.{◌≡◌, List, [], ◌∷◌, ◌++◌, length, Bool, true, false, not, ◌&&◌, ◌||◌, Option, None, refl, sym, ◌∙◌, ap, subst, length-append, arith, rules}
use Rattle.std.proofs.lemmas.Bool.{false_from_ne_true}
use Rattle.ud_model.specs.text.Scans.{Reading}
use Rattle.ud_model.specs.declared.cond.Cond.{Cond}
use Rattle.ud_model.specs.declared.cond.Cond.TheVariants.{Yes, No, Unknown}
use Rattle.ud_model.specs.sections.Tree.{Item, Opener, Nodes, Groups, Elifs, Tree, text_line, if_line, elif_line, else_line, endif_line, nothing, text, section, conditional, otherwise, first, elif, closed, lines, lines_of_nodes, lines_of_groups, lines_of_elifs}
use Rattle.ud_model.specs.sections.Pruning.{Mark, marked, any_true, is_kept, an_if, an_elif, an_else, marks, conds_of_elifs, conds_of_groups, endif_verdict}
use Rattle.ud_model.specs.aids.SoFar.{verdict_so_far, nodes_so_far, groups_so_far, elifs_so_far}
use Rattle.ud_model.specs.sections.Items.{Options, reading_of, item_of, mode_after, read_after, next_item}
use Rattle.ud_model.specs.sections.Faults.{AreFaultless, no_lines, one_more, ends_removed, is_obfuscated_after, is_directive, keeps_rest}
use Rattle.ud_model.specs.laws.Worlds.{World, or_else, where_true, selected, selected_elifs, EachReached, GroupsReached, ElifsReached, AgreesWith, Agrees}
use Rattle.ud_laws.specs.output.CSelection.{MayBe, IsCWorld}
use Rattle.ud_model.specs.laws.WrittenConditions.{condition_in}
use Rattle.ud_model.specs.declared.verdict.Verdict.{Verdict}
use Rattle.ud_model.specs.declared.verdict.Verdict.TheVariants.{Keep}
use Rattle.ud_model.proofs.output.Each.{Pairwise, pairwise_both, pairwise_parts}
use Rattle.ud_laws.proofs.output.CConditions.{item_fits}
use Rattle.ud_model.proofs.output.Changed.{as_many_nodes, as_many_groups, as_many_elifs}
use Rattle.ud_model.proofs.sections.Growth.{Adds}
use Rattle.ud_model.proofs.sections.Soundness.{reading_of-item_of, sound_lines}
use Rattle.ud_model.proofs.sections.Stages.{verdict_by_stage}
use Rattle.ud_model.proofs.sections.Stays.{marks_more, length_marks, marks_so_far_same}
use Rattle.ud_model.proofs.sections.Unique as Trees

-- A line of a text without a fault: it is read so. A directive that doesn't stay as it is joins no
-- next line, if all groups around its section are kept.
pub record Clear (o : Options) (x : Item Reading) (m : Mark) : Type 0 where
  pub own : x ≡ item_of o (reading_of x)
  pub alone : is_directive x ≡ true → m.kept ≡ true → keeps_rest m.verdict ≡ false → (reading_of x).scan.joins_after ≡ false

-- The lines of nodes that are kept.
pub at_kept : (o : Options) (b : Bool) (ns : Nodes Reading) → b ≡ true → Pairwise (Clear o) (lines_of_nodes ns) (nodes_so_far b ns) → Pairwise (Clear o) (lines_of_nodes ns) (nodes_so_far true ns)
at_kept o b ns e h = subst (λ (k : Bool). Pairwise (Clear o) (lines_of_nodes ns) (nodes_so_far k ns)) e h

-- 1. Each line of a text without a fault is clear.

alone_by : (d before after k r q : Bool) → (d && (before || after) && k && (not r || q)) ≡ false → d ≡ true → k ≡ true → r ≡ false → after ≡ false
alone_by d before after k r q e a b c = grind arith

pub sound_clear : (o : Options) (xs : List (Item Reading)) (t : Tree Reading) → AreFaultless o xs t → Pairwise (Clear o) xs (marks t)
sound_clear o _ _ no_lines = tt
sound_clear o _ _ (one_more xs t s l u e n) = let x : Item Reading = next_item o xs t l in
    let a : Adds t x u = Trees.grows t u x (e ∙ ap (λ (zs : List (Item Reading)). zs ++ x ∷ []) (sym (sound_lines s))) in
    let m : (m : Mark) × (marks u ≡ marks t ++ m ∷ []) = marks_more a in
    let clear : Clear o x m.0 = record {
      own = ap (item_of o) (sym (reading_of-item_of o (read_after xs (mode_after o t) l)));
      alone = alone_by (is_directive x) (reading_of x).scan.joins_before (reading_of x).scan.joins_after m.0.kept (keeps_rest m.0.verdict)
          ((reading_of x).scan.joins_before && ends_removed (marks t))
          (false_from_ne_true (is_obfuscated_after (ends_removed (marks t)) x m.0) (λ h. n.1.1.1.1.1.0 (marks t, m.0, (u, e, m.1), h)));
    } in
    subst (λ (ms : List Mark). Pairwise (Clear o) (xs ++ x ∷ []) ms) (sym m.1)
    (pairwise_both (Clear o) xs (marks t) (x ∷ []) (m.0 ∷ [])
    (ap (λ (zs : List (Item Reading)). length zs) (sym (sound_lines s)) ∙ sym (length_marks true t)) (sound_clear o xs t s) (clear, tt))

-- 2. A directive whose condition is decided doesn't stay as it is.

abbrev pub Decided : Cond → Type 0
Decided Unknown = ⊥
Decided _ = Unit {0}

pub elif_moves : (cs : List Cond) (c : Cond) → Decided c → keeps_rest (verdict_so_far cs an_elif c) ≡ false
elif_moves cs c d = ap keeps_rest (verdict_by_stage cs an_elif c) ∙ (grind (arith, d))

-- 3. Down the tree.

pub many_both : {A B : Type 0} (a c : List A) (b d : List B) → length a ≡ length b → length c ≡ length d → length (a ++ c) ≡ length (b ++ d)
many_both a c b d e f = simp length-append (omega (arith, e, f))

-- The parts of an `#elif` after others: their lines, its own, and those of its group.
pub elif_parts : (o : Options) (es : Elifs Reading) (q : Opener Reading) (ns : Nodes Reading) →
    Pairwise (Clear o) (lines_of_elifs (elif es q ns)) (elifs_so_far true (elif es q ns)) →
    Pairwise (Clear o) (lines_of_elifs es) (elifs_so_far true es) × Clear o (elif_line q)
    (marked true (verdict_so_far (conds_of_elifs es) an_elif q.cond))
    × Pairwise (Clear o) (lines_of_nodes ns) (nodes_so_far (is_kept (conds_of_elifs es) q.cond) ns)
elif_parts o es q ns k = grind (arith, pairwise_parts, many_both, as_many_elifs)

pub not_any : (cs : List Cond) (c : Cond) → any_true cs ≡ false → (c ≡ Yes → ⊥) → any_true (cs ++ c ∷ []) ≡ false
not_any (No ∷ cs) c e n = not_any cs c e n
not_any (Unknown ∷ cs) c e n = not_any cs c e n
not_any cs c h g = grind arith

module _ (o : Options) (w : World Reading) where
  abbrev Possible : Opener Reading → Type 0
  Possible p = MayBe o.table (condition_in p.line) (w p.line)

  abbrev Right : Opener Reading → Type 0
  Right p = AgreesWith w p.cond p.line

  -- The case of an `#if` that is reached.
  if_right : (p : Opener Reading) → Clear o (if_line p) (marked true (verdict_so_far [] an_if p.cond)) → Possible p → Right p
  if_right p k h = search (rules, item_fits)

  -- The case of an `#elif` that is reached.
  elif_right : (cs : List Cond) (p : Opener Reading) → Clear o (elif_line p) (marked true (verdict_so_far cs an_elif p.cond)) → Possible p → Right p
  elif_right cs p k h = search (rules, item_fits, elif_moves)

  -- A group that is processed is kept.
  kept_by : (cs : List Cond) (c : Cond) (l : Reading) → any_true cs ≡ false → AgreesWith w c l → w l ≡ true → is_kept cs c ≡ true
  kept_by cs c l e a t = grind arith

  -- An opener that is reached and false isn't decided to be true.
  not_yes : (c : Cond) (l : Reading) → AgreesWith w c l → w l ≡ false → c ≡ Yes → ⊥
  not_yes c l a f e = grind arith

  or_none : (s r : Option (List Reading)) → or_else s r ≡ None → (s ≡ None) × (r ≡ None)
  or_none s r e = grind arith

  mutual
    pub nodes_right : (ns : Nodes Reading) → Pairwise (Clear o) (lines_of_nodes ns) (nodes_so_far true ns) → EachReached w Possible ns → EachReached w Right ns
    nodes_right nothing k h = tt
    nodes_right (text ns l) k h =
        nodes_right ns (pairwise_parts (Clear o) (lines_of_nodes ns) (nodes_so_far true ns) (text_line l ∷ []) (marked true Keep ∷ []) (as_many_nodes true ns) k).0 h
    nodes_right (section ns gs e) k h =
        let p : Pairwise (Clear o) (lines_of_nodes ns ++ lines_of_groups gs) (nodes_so_far true ns ++ groups_so_far true gs) =
        (pairwise_parts (Clear o) (lines_of_nodes ns ++ lines_of_groups gs) (nodes_so_far true ns ++ groups_so_far true gs) (endif_line e ∷ [])
        (marked true (endif_verdict (conds_of_groups gs)) ∷ [])
        (many_both (lines_of_nodes ns) (lines_of_groups gs) (nodes_so_far true ns) (groups_so_far true gs)
        (as_many_nodes true ns) (as_many_groups true gs)) k).0 in
        let q : Pairwise (Clear o) (lines_of_nodes ns) (nodes_so_far true ns) × Pairwise (Clear o) (lines_of_groups gs) (groups_so_far true gs) =
        pairwise_parts (Clear o) (lines_of_nodes ns) (nodes_so_far true ns) (lines_of_groups gs) (groups_so_far true gs) (as_many_nodes true ns) p in
        (nodes_right ns q.0 h.0, groups_right gs q.1 h.1)

    groups_right : (gs : Groups Reading) → Pairwise (Clear o) (lines_of_groups gs) (groups_so_far true gs) → GroupsReached w Possible gs → GroupsReached w Right gs
    groups_right (conditional es) k h = (elifs_right es k h).0
    groups_right (otherwise es l ns) k h =
        let v : Verdict = verdict_so_far (conds_of_elifs es) an_else Yes in
        let p : Pairwise (Clear o) (lines_of_elifs es ++ else_line l ∷ []) (elifs_so_far true es ++ marked true v ∷ [])
        × Pairwise (Clear o) (lines_of_nodes ns) (nodes_so_far (is_kept (conds_of_elifs es) Yes) ns) =
        pairwise_parts (Clear o) (lines_of_elifs es ++ else_line l ∷ []) (elifs_so_far true es ++ marked true v ∷ []) (lines_of_nodes ns)
        (nodes_so_far (is_kept (conds_of_elifs es) Yes) ns) (many_both (lines_of_elifs es) (else_line l ∷ []) (elifs_so_far true es) (marked true v ∷ []) (as_many_elifs true es) refl) k in
        let q : Pairwise (Clear o) (lines_of_elifs es) (elifs_so_far true es) × Pairwise (Clear o) (else_line l ∷ []) (marked true v ∷ []) =
        pairwise_parts (Clear o) (lines_of_elifs es) (elifs_so_far true es) (else_line l ∷ []) (marked true v ∷ []) (as_many_elifs true es) p.0 in
        let r = elifs_right es q.0 h.0 in
        (r.0, λ e. nodes_right ns (at_kept o (is_kept (conds_of_elifs es) Yes) ns (ap not (r.1 e)) p.1) (h.1 e))

    -- If no group is processed, none is true.
    elifs_right : (es : Elifs Reading) → Pairwise (Clear o) (lines_of_elifs es) (elifs_so_far true es) → ElifsReached w Possible es →
        ElifsReached w Right es × (selected_elifs w es ≡ None → any_true (conds_of_elifs es) ≡ false)
    elifs_right (first p ns) k h =
        let q : Pairwise (Clear o) (lines_of_nodes ns) (nodes_so_far (is_kept [] p.cond) ns) = k.1 in
        let a : Right p = if_right p k.0 h.0 in (
          (a, λ t. nodes_right ns (at_kept o (is_kept [] p.cond) ns (kept_by [] p.cond p.line refl a t) q) (h.1 t)),
          λ e. not_any [] p.cond refl (not_yes p.cond p.line a (grind arith)),
        )
    elifs_right (elif es p ns) k h =
        let parts = elif_parts o es p ns k in
        let r = elifs_right es parts.0 h.0 in
        let a : selected_elifs w es ≡ None → Right p = λ e. elif_right (conds_of_elifs es) p parts.1 (h.1 e).0 in (
          (r.0, λ e. (a e, λ t. nodes_right ns (at_kept o (is_kept (conds_of_elifs es) p.cond) ns (kept_by (conds_of_elifs es) p.cond p.line (r.1 e) (a e) t) parts.2) ((h.1 e).1 t))),
          λ e. let n : (selected_elifs w es ≡ None) × (where_true (w p.line) (selected w ns) ≡ None) = or_none (selected_elifs w es) (where_true (w p.line) (selected w ns)) e in
              not_any (conds_of_elifs es) p.cond (r.1 n.0) (not_yes p.cond p.line (a n.0) (grind arith)),
        )

  -- A world that C may give these nodes agrees with the decisions on them.
  pub c_agrees : (ns : Nodes Reading) → Pairwise (Clear o) (lines (closed ns)) (marks (closed ns)) → IsCWorld o.table w ns → Agrees w ns
  c_agrees ns k h = nodes_right ns (subst (λ (ms : List Mark). Pairwise (Clear o) (lines_of_nodes ns) ms) (marks_so_far_same true (closed ns)) k) h
