-- Each text line of nodes is selected in a world that gives their openers certain truths.
use Rattle.std.proofs.Common.{◌≡◌, ℕ, ◌+◌, List, [], ◌∷◌, ◌++◌, length, map, Bool, true, false, Option, Some, None, refl, sym, ◌∙◌, ap, ap₂, subst, append_assoc, length-append, arith}
use Rattle.std.specs.Prelude.{◌⊎◌}
use Rattle.std.specs.List.{Contains}
use Rattle.std.proofs.Math.Logic.{⊎_elim}
use Rattle.std.proofs.lemmas.List.{map-append, length-map}
use Rattle.std.proofs.lemmas.List.Elements.{Contains-append_left, Contains-append_right, Contains-append_cases}
use Rattle.ud_model.specs.sections.Tree.{Item, Nodes, Groups, Elifs, text_line, elif_line, else_line, endif_line, nothing, text, section, conditional, otherwise, first, elif, lines_of_nodes, lines_of_groups, lines_of_elifs}
use Rattle.ud_model.specs.laws.Worlds.{World, or_else, lines_or, where_true, selected, selected_groups, selected_elifs, openers, openers_of_groups, openers_of_elifs}
use Rattle.ud_laws.specs.output.LiveLines.{text_line_of, text_lines_in}
use Rattle.ud_model.proofs.output.SameShape.{parts}

pub none_there : {A : Type 0} (x : A) → Contains [] x → ⊥
none_there x h = omega (arith, h.1)

module _ {L : Type 0} where
  pub text_lines_append : (xs ys : List (Item L)) → text_lines_in (xs ++ ys) ≡ text_lines_in xs ++ text_lines_in ys
  text_lines_append [] ys = refl
  text_lines_append (x ∷ xs) ys = cc (text_lines_append xs ys, append_assoc (text_line_of x) (text_lines_in xs) (text_lines_in ys))

  -- A text line is among the lines of one of two parts.
  apart : (xs ys : List (Item L)) (l : L) → Contains (text_lines_in (xs ++ ys)) l → Contains (text_lines_in xs) l ⊎ Contains (text_lines_in ys) l
  apart xs ys l h = Contains-append_cases (text_lines_in xs) (text_lines_in ys) l (subst (λ (ls : List L). Contains ls l) (text_lines_append xs ys) h)

  -- Each world that gives these lines certain truths is so.
  pub record Truths (os : List L) (IsSo : World L → Type 0) : Type 0 where
    pub truths : List Bool
    pub long : length truths ≡ length os
    pub so : (w : World L) → map w os ≡ truths → IsSo w

  pub weaker : {os : List L} {P Q : World L → Type 0} → ((w : World L) → P w → Q w) → Truths os P → Truths os Q
  weaker f t = record { truths = t.truths; long = t.long; so = λ w e. f w (t.so w e) }

  pub any_truths : (os : List L) → Truths os (λ w. Unit {0})
  any_truths os = record { truths = map (λ l. true) os; long = length-map os (λ l. true); so = λ w e. tt }

  pub one_truth : (l : L) (b : Bool) → Truths (l ∷ []) (λ w. w l ≡ b)
  one_truth l b = record { truths = b ∷ []; long = refl; so = λ w e. cc }

  pub both_truths : {os qs : List L} {P Q : World L → Type 0} → Truths os P → Truths qs Q → Truths (os ++ qs) (λ w. P w × Q w)
  both_truths {os} {qs} s t = record {
    truths = s.truths ++ t.truths;
    long = length-append s.truths t.truths ∙ ap₂ (λ (m n : ℕ). m + n) s.long t.long ∙ sym (length-append os qs);
    so = λ w e.
        let r = parts (map w os) s.truths (map w qs) t.truths (length-map os w ∙ sym s.long) (sym (map-append w os qs) ∙ e) in
        (s.so w r.0, t.so w r.1);
  }

  -- No group is processed in a world in which each condition is false.
  none_processed : (es : Elifs L) → Truths (openers_of_elifs es) (λ w. selected_elifs w es ≡ None)
  none_processed (first o ns) =
      weaker (λ w s. ap (λ (b : Bool). where_true b (selected w ns)) s.0) (both_truths (one_truth o.line false) (any_truths (openers ns)))
  none_processed (elif es o ns) =
      weaker (λ w s. ap₂ (λ (r : Option (List L)) (b : Bool). or_else r (where_true b (selected w ns))) s.0.0 s.0.1)
      (both_truths (both_truths (none_processed es) (one_truth o.line false)) (any_truths (openers ns)))

  -- The line is among those of the group that is processed.
  abbrev Chosen : World L → Elifs L → L → Type 0
  Chosen w es l = (ls : List L) × (selected_elifs w es ≡ Some ls) × Contains ls l

  mutual
    -- Each text line of nodes is selected if their openers have certain truths.
    pub selected_somewhere : (ns : Nodes L) (l : L) → Contains (text_lines_in (lines_of_nodes ns)) l → Truths (openers ns) (λ w. Contains (selected w ns) l)
    selected_somewhere nothing l h = absurd (none_there l h)
    selected_somewhere (text ns k) l h =
        ⊎_elim (λ a. weaker (λ w s. Contains-append_left (selected w ns) (k ∷ []) l s) (selected_somewhere ns l a))
        (λ b. weaker (λ w s. Contains-append_right (selected w ns) (k ∷ []) l b) (any_truths (openers ns)))
        (apart (lines_of_nodes ns) (text_line k ∷ []) l h)
    selected_somewhere (section ns gs e) l h = ⊎_elim
        (λ a. ⊎_elim
        (λ b. weaker (λ w s. Contains-append_left (selected w ns) (selected_groups w gs) l s.0) (both_truths (selected_somewhere ns l b) (any_truths (openers_of_groups gs))))
        (λ b. weaker (λ w s. Contains-append_right (selected w ns) (selected_groups w gs) l s.1) (both_truths (any_truths (openers ns)) (groups_somewhere gs l b)))
        (apart (lines_of_nodes ns) (lines_of_groups gs) l a))
        (λ a. absurd (none_there l a))
        (apart (lines_of_nodes ns ++ lines_of_groups gs) (endif_line e ∷ []) l h)

    groups_somewhere : (gs : Groups L) (l : L) → Contains (text_lines_in (lines_of_groups gs)) l → Truths (openers_of_groups gs) (λ w. Contains (selected_groups w gs) l)
    groups_somewhere (conditional es) l h =
        weaker (λ w s. subst (λ (r : Option (List L)). Contains (lines_or r []) l) (sym s.1) s.2) (elifs_somewhere es l h)
    groups_somewhere (otherwise es k ns) l h = ⊎_elim
        (λ a. ⊎_elim
        (λ b. weaker (λ w s. subst (λ (r : Option (List L)). Contains (lines_or r (selected w ns)) l) (sym s.0.1) s.0.2) (both_truths (elifs_somewhere es l b) (any_truths (openers ns))))
        (λ b. absurd (none_there l b))
        (apart (lines_of_elifs es) (else_line k ∷ []) l a))
        (λ a. weaker (λ w s. subst (λ (r : Option (List L)). Contains (lines_or r (selected w ns)) l) (sym s.0) s.1) (both_truths (none_processed es) (selected_somewhere ns l a)))
        (apart (lines_of_elifs es ++ else_line k ∷ []) (lines_of_nodes ns) l h)

    elifs_somewhere : (es : Elifs L) (l : L) → Contains (text_lines_in (lines_of_elifs es)) l → Truths (openers_of_elifs es) (λ w. Chosen w es l)
    elifs_somewhere (first o ns) l h =
        weaker (λ w s. (selected w ns, ap (λ (b : Bool). where_true b (selected w ns)) s.0, s.1))
        (both_truths (one_truth o.line true) (selected_somewhere ns l h))
    elifs_somewhere (elif es o ns) l h = ⊎_elim
        (λ a. ⊎_elim
        (λ b. weaker (λ w s. (s.0.0.0, ap (λ (r : Option (List L)). or_else r (where_true (w o.line) (selected w ns))) s.0.0.1, s.0.0.2))
        (both_truths (both_truths (elifs_somewhere es l b) (any_truths (o.line ∷ []))) (any_truths (openers ns))))
        (λ b. absurd (none_there l b))
        (apart (lines_of_elifs es) (elif_line o ∷ []) l a))
        (λ a. weaker (λ w s. (selected w ns, ap₂ (λ (r : Option (List L)) (b : Bool). or_else r (where_true b (selected w ns))) s.0.0 s.0.1, s.1))
        (both_truths (both_truths (none_processed es) (one_truth o.line true)) (selected_somewhere ns l a)))
        (apart (lines_of_elifs es ++ elif_line o ∷ []) (lines_of_nodes ns) l h)
