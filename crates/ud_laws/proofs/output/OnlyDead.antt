-- Of the text lines exactly the live ones are left.
use Rattle.std.proofs.lemmas.Grind.{common_steps}
use Rattle.std.proofs.Common.{inl, inr, ◌≡◌, ℕ, suc, ◌≤◌, List, [], ◌∷◌, ◌++◌, length, map, Bool, Option, Some, None, refl, sym, ◌∙◌, ap, ap₂, subst, arith, true, false, append_assoc}
use Rattle.std.specs.Prelude.{◌⊎◌}
use Rattle.std.specs.List.{Contains}
use Rattle.std.proofs.Math.Logic.{⊎_elim}
use Rattle.std.proofs.lemmas.List.{length-map}
use Rattle.ud_model.proofs.output.Each.{Each}
use Rattle.std.proofs.lemmas.List.Elements.{Contains-append_left, Contains-append_right, Contains-append_cases, Contains-push, Contains-push_cases}
use Rattle.ud_model.specs.text.Scans.{Reading}
use Rattle.ud_model.specs.declared.verdict.Verdict.TheVariants.{Keep}
use Rattle.ud_model.specs.sections.Tree.{Item, Opener, Nodes, Groups, Elifs, text_line, if_line, elif_line, else_line, endif_line, nothing, text, section, conditional, otherwise, first, elif, closed, lines_of_nodes, lines_of_groups, lines_of_elifs}
use Rattle.ud_model.specs.sections.Pruning.{marks, Mark}
use Rattle.ud_model.specs.sections.Items.{reading_of, line_of}
use Rattle.ud_model.specs.laws.Worlds.{World, lines_or, where_true, selected, selected_groups}
use Rattle.ud_model.specs.laws.Worlds.{selected_elifs, openers, Agrees, AgreesWith, EachReached}
use Rattle.ud_model.specs.laws.Worlds.{GroupsReached, ElifsReached, openers_in}
use Rattle.ud_model.specs.laws.Pruned.{Edited, edited, pruned_lines, IsUnknown, kept_line, printed, IsUndecided, Any, EachLine, GroupLines, ElifLines}
use Rattle.ud_laws.specs.output.LiveLines.{text_lines_in, AreThose, none_is, this_is, this_is_not, IsLive, AreLive, text_line_of}
use Rattle.ud_model.proofs.output.Folded.{folded}
use Rattle.ud_model.proofs.output.PrintedPruned.{printed-pruned}
use Rattle.ud_model.proofs.output.PrunedTree.{openers_lines}
use Rattle.ud_model.proofs.output.SelectedPruned.{out_world, Fits, selected-pruned}
use Rattle.ud_model.proofs.output.Undecided.{pruned_undecided}
use Rattle.ud_laws.proofs.output.SelectedSomewhere.{none_there, Truths, text_lines_append}
use Rattle.ud_laws.proofs.output.SelectedSomewhere.{selected_somewhere, weaker, any_truths}
use Rattle.ud_laws.proofs.output.SelectedSomewhere.{one_truth, both_truths}
use Rattle.ud_model.proofs.output.WorldsExist.{Rise, rise_from, world_by}
use Rattle.ud_model.specs.declared.cond.Cond.{Cond}
use Rattle.ud_model.specs.declared.cond.Cond.TheVariants.{Yes, Unknown}
use Rattle.ud_model.specs.declared.verdict.Verdict.{Verdict}
use Rattle.ud_model.proofs.output.EachLines.{IsOf, to_items, from_items}

-- A world that agrees with the decided conditions of nodes, and has certain truths for the openers
-- of the pruned nodes.

-- 1. The openers among lines, with their conditions.

module _ {L : Type 0} where
  abbrev head_of : Item L → List (Opener L)
  head_of (if_line o) = o ∷ []
  head_of (elif_line o) = o ∷ []
  head_of _ = []

  abbrev pub heads_in : List (Item L) → List (Opener L)
  heads_in [] = []
  heads_in (x ∷ xs) = head_of x ++ heads_in xs

  abbrev pub lines_of_heads : List (Opener L) → List L
  lines_of_heads os = map (λ (o : Opener L). o.line) os

  heads_append : (xs ys : List (Item L)) → heads_in (xs ++ ys) ≡ heads_in xs ++ heads_in ys
  heads_append [] ys = refl
  heads_append (x ∷ xs) ys = cc (heads_append xs ys, append_assoc (head_of x) (heads_in xs) (heads_in ys))

  pub head_lines : (xs : List (Item L)) → lines_of_heads (heads_in xs) ≡ openers_in xs
  head_lines [] = refl
  head_lines (if_line o ∷ xs) = ap (λ (ls : List L). o.line ∷ ls) (head_lines xs)
  head_lines (elif_line o ∷ xs) = ap (λ (ls : List L). o.line ∷ ls) (head_lines xs)
  head_lines (x ∷ xs) = head_lines xs

  module _ (P : Opener L → Type 0) where
    to_heads : (xs : List (Item L)) → Each (IsOf Any P) xs → Each P (heads_in xs)
    to_heads [] h = tt
    to_heads (if_line o ∷ xs) h = (h.0, to_heads xs h.1)
    to_heads (elif_line o ∷ xs) h = (h.0, to_heads xs h.1)
    to_heads (x ∷ xs) h = to_heads xs h.1

    from_heads : (xs : List (Item L)) → Each P (heads_in xs) → Each (IsOf Any P) xs
    from_heads [] h = tt
    from_heads (if_line o ∷ xs) h = (h.0, from_heads xs h.1)
    from_heads (elif_line o ∷ xs) h = (h.0, from_heads xs h.1)
    from_heads (x ∷ xs) h = (tt, from_heads xs h)

    -- A property of each opener is one of each that is reached.
    module _ (w : World L) where
      mutual
        nodes_reached : (ns : Nodes L) → EachLine Any P ns → EachReached w P ns
        nodes_reached nothing h = tt
        nodes_reached (text ns l) h = nodes_reached ns h.0
        nodes_reached (section ns gs e) h = (nodes_reached ns h.0, groups_reached gs h.1)

        groups_reached : (gs : Groups L) → GroupLines Any P gs → GroupsReached w P gs
        groups_reached (conditional es) h = elifs_reached es h
        groups_reached (otherwise es l ns) h = (elifs_reached es h.0, λ e. nodes_reached ns h.1)

        elifs_reached : (es : Elifs L) → ElifLines Any P es → ElifsReached w P es
        elifs_reached (first o ns) h = (h.0, λ e. nodes_reached ns h.1)
        elifs_reached (elif es o ns) h = (elifs_reached es h.0, λ e. (h.1, λ t. nodes_reached ns h.2))

      pub each_reached : (ns : Nodes L) → Each P (heads_in (lines_of_nodes ns)) → EachReached w P ns
      each_reached ns h = nodes_reached ns (from_items Any P ns (from_heads (lines_of_nodes ns) h))

  -- If nothing is decided, each opener is unknown.
  pub each_unknown : (ns : Nodes L) → IsUndecided ns → Each IsUnknown (heads_in (lines_of_nodes ns))
  each_unknown ns h = to_heads IsUnknown (lines_of_nodes ns) (to_items Any IsUnknown ns h)

-- 2. The lines that are left of lines.

module _ {A B : Type 0} (R : A → B → Type 0) where
  -- The later list has some elements of the first, each with its relation.
  pub data Left : List A → List B → Type 0 where
    none : Left [] []
    gone : {x : A} {xs : List A} {ys : List B} → Left xs ys → Left (x ∷ xs) ys
    stays : {x : A} {y : B} {xs : List A} {ys : List B} → R x y → Left xs ys → Left (x ∷ xs) (y ∷ ys)

  none_left : (xs : List A) → Left xs []
  none_left [] = none
  none_left (x ∷ xs) = gone (none_left xs)

module _ {L : Type 0} where
  -- An opener of the output comes from this one.
  abbrev pub IsFrom : Opener L → Opener (Edited L) → Type 0
  IsFrom o p = (p.line.line ≡ o.line) × (p.cond ≡ o.cond)

  one_head : (v : Verdict) (x : Item L) {os : List (Opener L)} {ps : List (Opener (Edited L))} → Left IsFrom os ps → Left IsFrom (head_of x ++ os) (heads_in (kept_line v x) ++ ps)
  one_head v x h = grind (arith, gone, stays)

  pub heads_left : (xs : List (Item L)) (ms : List Mark) → Left IsFrom (heads_in xs) (heads_in (printed xs ms))
  heads_left (x ∷ xs) (m ∷ ms) = grind (arith, heads_append (kept_line m.verdict x) (printed xs ms), one_head m.verdict x (heads_left xs ms))
  heads_left xs ms = grind (arith, none_left)

  -- A text line of the output comes from this one.
  abbrev pub IsOfLine : L → Edited L → Type 0
  IsOfLine l e = e.line ≡ l

  one_text : (v : Verdict) (x : Item L) {ls : List L} {es : List (Edited L)} → Left IsOfLine ls es → Left IsOfLine (text_line_of x ++ ls) (text_lines_in (kept_line v x) ++ es)
  one_text v x h = grind (arith, gone, stays)

  pub texts_left : (xs : List (Item L)) (ms : List Mark) → Left IsOfLine (text_lines_in xs) (text_lines_in (printed xs ms))
  texts_left (x ∷ xs) (m ∷ ms) = grind (arith, text_lines_append (kept_line m.verdict x) (printed xs ms), one_text m.verdict x (texts_left xs ms))
  texts_left xs ms = grind (arith, none_left)

-- 3. The truths of the openers.

abbrev is_yes : Cond → Bool
is_yes Yes = true
is_yes _ = false

module _ {L : Type 0} where
  unknown_fits : (w : World L) (c : Cond) (l : L) → c ≡ Unknown → AgreesWith w c l
  unknown_fits w c l e = subst (λ (d : Cond). AgreesWith w d l) (sym e) tt

  -- The world agrees with each of the openers, and has these truths for those that are left.
  pub record Gives (os : List (Opener L)) (ps : List (Opener (Edited L))) (bs : List Bool) (w : World L) : Type 0 where
    pub agrees : Each (Fits w) os
    pub truths : map (out_world w) (lines_of_heads ps) ≡ bs

  -- If what is left is unknown, the openers can be given such truths.
  pub given : {os : List (Opener L)} {ps : List (Opener (Edited L))} → Left IsFrom os ps → Each IsUnknown ps → (bs : List Bool) → length bs ≡ length ps →
      Truths (lines_of_heads os) (Gives os ps bs)
  given (gone {x = o} h) u bs e =
      weaker (λ w s. record { agrees = (grind arith, s.1.agrees); truths = s.1.truths }) (both_truths (one_truth o.line (is_yes o.cond)) (given h u bs e))
  given (stays {x = o} r h) u (b ∷ bs) e =
      weaker (λ w s. record {
        agrees = (unknown_fits w o.cond o.line (sym r.1 ∙ u.0), s.1.agrees);
        truths = ap₂ (λ (c : Bool) (cs : List Bool). c ∷ cs) (ap w r.0 ∙ s.0) s.1.truths;
      }) (both_truths (one_truth o.line b) (given h u.1 bs (omega (arith, e))))
  given h g bs k = grind (arith, weaker, any_truths)

-- 4. Lists.

-- The first element, and the others.
is_first : {A : Type 0} (x : A) (xs : List A) → Contains (x ∷ xs) x
is_first x xs = Contains-append_left (x ∷ []) xs x (Contains-push [] x)

is_later : {A : Type 0} (x : A) (xs : List A) (y : A) → Contains xs y → Contains (x ∷ xs) y
is_later x xs y h = Contains-append_right (x ∷ []) xs y h

first_or_later : {A : Type 0} (x : A) (xs : List A) (y : A) → Contains (x ∷ xs) y → (x ≡ y) ⊎ Contains xs y
first_or_later x xs y h = ⊎_elim (λ a. inl (⊎_elim (λ n. absurd (none_there y n)) (λ e. e) (Contains-push_cases [] x y a))) (λ b. inr b) (Contains-append_cases (x ∷ []) xs y h)

module _ {A B : Type 0} (f : A → B) where
  -- An element of an image is the image of an element.
  from_map : (xs : List A) (y : B) → Contains (map f xs) y → (x : A) × Contains xs x × (f x ≡ y)
  from_map [] y h = absurd (none_there y h)
  from_map (x ∷ xs) y h =
      ⊎_elim (λ e. (x, is_first x xs, e)) (λ b. let r = from_map xs y b in (r.0, is_later x xs r.0 r.1, r.2)) (first_or_later (f x) (map f xs) y h)

  to_map : (xs : List A) (x : A) → Contains xs x → Contains (map f xs) (f x)
  to_map xs x h = grind (arith, common_steps, none_there, is_first, is_later, first_or_later)

-- 5. What is selected is a text line.

where_some : {A : Type 0} (b : Bool) (qs ls : List A) → where_true b qs ≡ Some ls → qs ≡ ls
where_some b qs ls e = grind arith

module _ {L : Type 0} where
  in_first : (xs ys : List (Item L)) (l : L) → Contains (text_lines_in xs) l → Contains (text_lines_in (xs ++ ys)) l
  in_first xs ys l h = subst (λ (ls : List L). Contains ls l) (sym (text_lines_append xs ys)) (Contains-append_left (text_lines_in xs) (text_lines_in ys) l h)

  in_second : (xs ys : List (Item L)) (l : L) → Contains (text_lines_in ys) l → Contains (text_lines_in (xs ++ ys)) l
  in_second xs ys l h = subst (λ (ls : List L). Contains ls l) (sym (text_lines_append xs ys)) (Contains-append_right (text_lines_in xs) (text_lines_in ys) l h)

  -- The lines of the group that is processed are text lines among these lines.
  abbrev AreTexts : Option (List L) → List (Item L) → Type 0
  AreTexts s xs = (ls : List L) (l : L) → s ≡ Some ls → Contains ls l → Contains (text_lines_in xs) l

  chosen_or : (s : Option (List L)) (xs : List (Item L)) (ls : List L) (l : L) → AreTexts s xs → Contains (lines_or s ls) l → Contains (text_lines_in xs) l ⊎ Contains ls l
  chosen_or None xs ls l h c = inr c
  chosen_or (Some qs) xs ls l h c = inl (h qs l refl c)

module _ {L : Type 0} (w : World L) where
  mutual
    selected_in : (ns : Nodes L) (l : L) → Contains (selected w ns) l → Contains (text_lines_in (lines_of_nodes ns)) l
    selected_in nothing l h = h
    selected_in (text ns k) l h =
        ⊎_elim (λ a. in_first (lines_of_nodes ns) (text_line k ∷ []) l (selected_in ns l a)) (λ b. in_second (lines_of_nodes ns) (text_line k ∷ []) l b)
        (Contains-append_cases (selected w ns) (k ∷ []) l h)
    selected_in (section ns gs e) l h =
        in_first (lines_of_nodes ns ++ lines_of_groups gs) (endif_line e ∷ []) l
        (⊎_elim (λ a. in_first (lines_of_nodes ns) (lines_of_groups gs) l (selected_in ns l a)) (λ b. in_second (lines_of_nodes ns) (lines_of_groups gs) l (groups_in gs l b))
        (Contains-append_cases (selected w ns) (selected_groups w gs) l h))

    groups_in : (gs : Groups L) (l : L) → Contains (selected_groups w gs) l → Contains (text_lines_in (lines_of_groups gs)) l
    groups_in (conditional es) l h =
        ⊎_elim (λ a. a) (λ b. absurd (none_there l b)) (chosen_or (selected_elifs w es) (lines_of_elifs es) [] l (elifs_in es) h)
    groups_in (otherwise es k ns) l h = ⊎_elim
        (λ a. in_first (lines_of_elifs es ++ else_line k ∷ []) (lines_of_nodes ns) l (in_first (lines_of_elifs es) (else_line k ∷ []) l a))
        (λ b. in_second (lines_of_elifs es ++ else_line k ∷ []) (lines_of_nodes ns) l (selected_in ns l b))
        (chosen_or (selected_elifs w es) (lines_of_elifs es) (selected w ns) l (elifs_in es) h)

    elifs_in : (es : Elifs L) → AreTexts (selected_elifs w es) (lines_of_elifs es)
    elifs_in (first o ns) = λ ls l e c.
        in_second (if_line o ∷ []) (lines_of_nodes ns) l
        (selected_in ns l (subst (λ (qs : List L). Contains qs l) (sym (where_some (w o.line) (selected w ns) ls e)) c))
    elifs_in (elif es o ns) = λ ls l e c.
        ⊎_elim
        (λ a. in_first (lines_of_elifs es ++ elif_line o ∷ []) (lines_of_nodes ns) l (in_first (lines_of_elifs es) (elif_line o ∷ []) l (elifs_in es ls l a c)))
        (λ b. in_second (lines_of_elifs es ++ elif_line o ∷ []) (lines_of_nodes ns) l
        (selected_in ns l (subst (λ (qs : List L). Contains qs l) (sym (where_some (w o.line) (selected w ns) ls b)) c)))
        (grind arith)

-- 6. The lines that are left, by their numbers.

abbrev pub line_from : Edited Reading → Reading
line_from e = e.line

rise_in : (n : ℕ) (rs : List Reading) (l : Reading) → Rise n rs → Contains rs l → n ≤ l.line.number
rise_in n [] l h c = absurd (none_there l c)
rise_in n (r ∷ rs) l h c =
    ⊎_elim (λ e. subst (λ (q : Reading). n ≤ q.line.number) e h.0) (λ b. let m : suc r.line.number ≤ l.line.number = rise_in (suc r.line.number) rs l h.1 b in omega (arith, m, h.0))
    (first_or_later r rs l c)

left_in : {rs : List Reading} {es : List (Edited Reading)} → Left IsOfLine rs es → (l : Reading) → Contains (map line_from es) l → Contains rs l
left_in none l c = c
left_in (gone {x = r} {xs = rs} h) l c = is_later r rs l (left_in h l c)
left_in (stays {x = r} {y = e} {xs = rs} {ys = es} q h) l c =
    ⊎_elim (λ i. subst (λ (k : Reading). Contains (r ∷ rs) k) (sym q ∙ i) (is_first r rs)) (λ b. is_later r rs l (left_in h l b)) (first_or_later e.line (map line_from es) l c)

texts_rise : (n : ℕ) (ys : List (Item Reading)) → Rise n (map reading_of ys) → Rise n (text_lines_in ys)
texts_rise n [] h = tt
texts_rise n (text_line l ∷ ys) h = (h.0, texts_rise (suc l.line.number) ys h.1)
texts_rise n (y ∷ ys) h = rise_from n (suc (line_of y).number) (text_lines_in ys) (omega (arith, h.0)) (texts_rise (suc (line_of y).number) ys h.1)

-- If the lines that are left are those that are so, they are so one by one.
those_left : (Is : Reading → Type 0) (n : ℕ) {rs : List Reading} {es : List (Edited Reading)} → Left IsOfLine rs es → Rise n rs →
    ((l : Reading) → Contains (map line_from es) l → Is l) → ((l : Reading) → Contains rs l → Is l → Contains (map line_from es) l) → AreThose Is rs (map line_from es)
those_left Is n none h a b = none_is
those_left Is n (gone {x = r} {xs = rs} f) h a b =
    this_is_not (λ i. let m : suc r.line.number ≤ r.line.number = rise_in (suc r.line.number) rs r h.1 (left_in f r (b r (is_first r rs) i)) in omega (arith, m))
    (those_left Is (suc r.line.number) f h.1 a (λ l c i. b l (is_later r rs l c) i))
those_left Is n (stays {x = r} {y = e} {xs = rs} {ys = es} q f) h a b =
    subst (λ (k : Reading). AreThose Is (k ∷ rs) (e.line ∷ map line_from es)) q
    (this_is (a e.line (is_first e.line (map line_from es)))
    (those_left Is (suc r.line.number) f h.1 (λ l c. a l (is_later e.line (map line_from es) l c))
    (λ l c i. ⊎_elim
    (λ j. let m : suc r.line.number ≤ l.line.number = rise_in (suc r.line.number) rs l h.1 c in
    absurd (let k : l.line.number ≡ r.line.number = ap (λ (x : Reading). x.line.number) (sym j ∙ q) in omega (arith, m, k)))
    (λ d. d) (first_or_later e.line (map line_from es) l (b l (is_later r rs l c) i)))))

-- 7. The live lines.

module _ (ns : Nodes Reading) where
  abbrev left_texts : List (Edited Reading)
  left_texts = text_lines_in (pruned_lines ns)

  abbrev left_heads : List (Opener (Edited Reading))
  left_heads = heads_in (pruned_lines ns)

  heads_are : lines_of_heads (heads_in (lines_of_nodes ns)) ≡ openers ns
  heads_are = head_lines (lines_of_nodes ns) ∙ openers_lines ns

  left_are : lines_of_heads left_heads ≡ openers (folded ns)
  left_are = grind (arith, printed-pruned, head_lines, openers_lines)

  -- A text line that is left is live.
  left_lives : (n : ℕ) → Rise n (map reading_of (lines_of_nodes ns)) → (e : Edited Reading) → Contains left_texts e → (edited Keep e.line ≡ e) × IsLive ns e.line
  left_lives n h e c =
      let t : Truths (openers (folded ns)) (λ v. Contains (selected v (folded ns)) e) =
      selected_somewhere (folded ns) e (subst (λ (xs : List (Item (Edited Reading))). Contains (text_lines_in xs) e) (printed-pruned ns) c) in
      let u = subst (λ (xs : List (Item (Edited Reading))). Each IsUnknown (heads_in xs)) (sym (printed-pruned ns)) (each_unknown (folded ns) (pruned_undecided ns)) in
      let g : Truths (lines_of_heads (heads_in (lines_of_nodes ns))) (Gives (heads_in (lines_of_nodes ns)) left_heads t.truths) =
      given (heads_left (lines_of_nodes ns) (marks (closed ns))) u t.truths
      (t.long ∙ ap (λ (ls : List (Edited Reading)). length ls) (sym left_are) ∙ length-map left_heads (λ (o : Opener (Edited Reading)). o.line)) in
      let v = world_by n ns g.truths h (g.long ∙ ap (λ (ls : List Reading). length ls) heads_are) in
      let s = g.so v.0 (ap (λ (ls : List Reading). map v.0 ls) heads_are ∙ v.1) in
      let a : Agrees v.0 ns = each_reached (Fits v.0) v.0 ns s.agrees in
      let d : Contains (selected (out_world v.0) (folded ns)) e = grind (arith, left_are) in
      let r = from_map (edited Keep) (selected v.0 ns) e (subst (λ (ls : List (Edited Reading)). Contains ls e) (sym (selected-pruned v.0 ns a)) d) in
      let q : r.0 ≡ e.line = ap line_from r.2 in
      (ap (edited Keep) (sym q) ∙ r.2, (v.0, a, subst (λ (l : Reading). Contains (selected v.0 ns) l) q r.1))

  -- A live line is left.
  live_left : (l : Reading) → IsLive ns l → Contains (map line_from left_texts) l
  live_left l (w, a, c) = to_map line_from left_texts (edited Keep l)
      (subst (λ (xs : List (Item (Edited Reading))). Contains (text_lines_in xs) (edited Keep l)) (sym (printed-pruned ns))
      (selected_in (out_world w) (folded ns) (edited Keep l)
      (subst (λ (ls : List (Edited Reading)). Contains ls (edited Keep l)) (selected-pruned w ns a) (to_map (edited Keep) (selected w ns) l c))))

  -- So the text lines that are left are the live ones.
  pub live_lines : (n : ℕ) → Rise n (map reading_of (lines_of_nodes ns)) → AreLive ns (map line_from left_texts)
  live_lines n h =
      those_left (IsLive ns) n (texts_left (lines_of_nodes ns) (marks (closed ns))) (texts_rise n (lines_of_nodes ns) h)
      (λ l c. let r = from_map line_from left_texts l c in subst (IsLive ns) r.2 (left_lives n h r.0 r.1).1)
      (λ l c i. live_left l i)

  -- They stay as they are.
  pub texts_stay : (n : ℕ) → Rise n (map reading_of (lines_of_nodes ns)) → map (edited Keep) (map line_from left_texts) ≡ left_texts
  texts_stay n h = each_stays left_texts (λ e c. (left_lives n h e c).0)
    where
      each_stays : (es : List (Edited Reading)) → ((e : Edited Reading) → Contains es e → edited Keep e.line ≡ e) → map (edited Keep) (map line_from es) ≡ es
      each_stays [] f = refl
      each_stays (e ∷ es) f = ap₂ (λ (d : Edited Reading) (ds : List (Edited Reading)). d ∷ ds) (f e (is_first e es)) (each_stays es (λ d c. f d (is_later e es d c)))
