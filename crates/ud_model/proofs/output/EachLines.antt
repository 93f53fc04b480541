-- Each line: a property of each text line and opener of nodes is one of each of their items.
use Rattle.std.proofs.Common.{List, [], ◌∷◌, ◌++◌, ◌≡◌, ap, ap₂, refl, arith}
use Rattle.ud_model.specs.sections.Tree.{Item, Opener, Nodes, Groups, Elifs, text_line, if_line, elif_line, else_line, endif_line, nothing, text, section, conditional, otherwise, first, elif, lines_of_nodes, lines_of_groups, lines_of_elifs, opener_with_line, with_lines, groups_with_lines, elifs_with_lines}
use Rattle.ud_model.specs.laws.Pruned.{EachLine, GroupLines, ElifLines, Any}
use Rattle.ud_model.proofs.output.Each.{Each, each_parts, each_both}

module _ {L : Type 0} (T : L → Type 0) (P : Opener L → Type 0) where
  -- The item is a text line or opener with the property, or another line.
  abbrev pub IsOf : Item L → Type 0
  IsOf (text_line l) = T l
  IsOf (if_line o) = P o
  IsOf (elif_line o) = P o
  IsOf x = Unit {0}

  mutual
    pub to_items : (ns : Nodes L) → EachLine T P ns → Each IsOf (lines_of_nodes ns)
    to_items nothing h = tt
    to_items (text ns l) h = each_both IsOf (lines_of_nodes ns) (text_line l ∷ []) (to_items ns h.0) (h.1, tt)
    to_items (section ns gs e) h =
        each_both IsOf (lines_of_nodes ns ++ lines_of_groups gs) (endif_line e ∷ []) (each_both IsOf (lines_of_nodes ns) (lines_of_groups gs) (to_items ns h.0) (groups_to gs h.1)) (tt, tt)

    groups_to : (gs : Groups L) → GroupLines T P gs → Each IsOf (lines_of_groups gs)
    groups_to (conditional es) h = elifs_to es h
    groups_to (otherwise es l ns) h =
        each_both IsOf (lines_of_elifs es ++ else_line l ∷ []) (lines_of_nodes ns) (each_both IsOf (lines_of_elifs es) (else_line l ∷ []) (elifs_to es h.0) (tt, tt)) (to_items ns h.1)

    elifs_to : (es : Elifs L) → ElifLines T P es → Each IsOf (lines_of_elifs es)
    elifs_to (first o ns) h = each_both IsOf (if_line o ∷ []) (lines_of_nodes ns) (h.0, tt) (to_items ns h.1)
    elifs_to (elif es o ns) h =
        each_both IsOf (lines_of_elifs es ++ elif_line o ∷ []) (lines_of_nodes ns) (each_both IsOf (lines_of_elifs es) (elif_line o ∷ []) (elifs_to es h.0) (h.1, tt)) (to_items ns h.2)

  mutual
    pub from_items : (ns : Nodes L) → Each IsOf (lines_of_nodes ns) → EachLine T P ns
    from_items nothing h = tt
    from_items (text ns l) h = let p : Each IsOf (lines_of_nodes ns) × Each IsOf (text_line l ∷ []) = each_parts IsOf (lines_of_nodes ns) (text_line l ∷ []) h in (from_items ns p.0, p.1.0)
    from_items (section ns gs e) h =
        let p = each_parts IsOf (lines_of_nodes ns ++ lines_of_groups gs) (endif_line e ∷ []) h in
        let q = each_parts IsOf (lines_of_nodes ns) (lines_of_groups gs) p.0 in
        (from_items ns q.0, groups_from gs q.1)

    groups_from : (gs : Groups L) → Each IsOf (lines_of_groups gs) → GroupLines T P gs
    groups_from (conditional es) h = elifs_from es h
    groups_from (otherwise es l ns) h =
        let p = each_parts IsOf (lines_of_elifs es ++ else_line l ∷ []) (lines_of_nodes ns) h in
        (elifs_from es (each_parts IsOf (lines_of_elifs es) (else_line l ∷ []) p.0).0, from_items ns p.1)

    elifs_from : (es : Elifs L) → Each IsOf (lines_of_elifs es) → ElifLines T P es
    elifs_from (first o ns) h = let p : Each IsOf (if_line o ∷ []) × Each IsOf (lines_of_nodes ns) = each_parts IsOf (if_line o ∷ []) (lines_of_nodes ns) h in (p.0.0, from_items ns p.1)
    elifs_from (elif es o ns) h =
        let p = each_parts IsOf (lines_of_elifs es ++ elif_line o ∷ []) (lines_of_nodes ns) h in
        let q = each_parts IsOf (lines_of_elifs es) (elif_line o ∷ []) p.0 in
        (elifs_from es q.0, q.1.0, from_items ns p.1)

module _ {L M : Type 0} (f : L → M) (T : M → Type 0) (P : Opener M → Type 0) where
  abbrev Before : L → Type 0
  Before l = T (f l)

  abbrev BeforeOpener : Opener L → Type 0
  BeforeOpener o = P (opener_with_line f o)

  mutual
    -- A property of other lines in the places of those of nodes is one of these.
    pub other_lines : (ns : Nodes L) → ◌≡◌ {A = Type 0} (EachLine T P (with_lines f ns)) (EachLine Before BeforeOpener ns)
    other_lines nothing = refl
    other_lines (text ns l) = ap (λ (X : Type 0). X × T (f l)) (other_lines ns)
    other_lines (section ns gs e) = ap₂ (λ (X Y : Type 0). X × Y) (other_lines ns) (other_groups gs)

    other_groups : (gs : Groups L) → ◌≡◌ {A = Type 0} (GroupLines T P (groups_with_lines f gs)) (GroupLines Before BeforeOpener gs)
    other_groups (conditional es) = other_elifs es
    other_groups (otherwise es l ns) = ap₂ (λ (X Y : Type 0). X × Y) (other_elifs es) (other_lines ns)

    other_elifs : (es : Elifs L) → ◌≡◌ {A = Type 0} (ElifLines T P (elifs_with_lines f es)) (ElifLines Before BeforeOpener es)
    other_elifs (first o ns) = ap (λ (X : Type 0). BeforeOpener o × X) (other_lines ns)
    other_elifs (elif es o ns) = ap₂ (λ (X Y : Type 0). X × BeforeOpener o × Y) (other_elifs es) (other_lines ns)

module _ {L : Type 0} where
  -- There is each line.
  abbrev pub AnyOpener : Opener L → Type 0
  AnyOpener o = Unit {0}

  any_item : (x : Item L) → IsOf Any AnyOpener x
  any_item x = grind arith

  any_items : (xs : List (Item L)) → Each (IsOf Any AnyOpener) xs
  any_items [] = tt
  any_items (x ∷ xs) = (any_item x, any_items xs)

  pub any_lines : (ns : Nodes L) → EachLine Any AnyOpener ns
  any_lines ns = from_items Any AnyOpener ns (any_items (lines_of_nodes ns))
