-- Woven trees: items along those of a tree, with text lines inserted, have a tree of the same shape.
use Rattle.std.proofs.Common.{◌≡◌, List, [], ◌∷◌, ◌++◌, refl, sym, ◌∙◌, ap, ap₂, subst, append_assoc, append-nil, arith}
use Rattle.ud_model.specs.sections.Tree.{Item, Opener, Nodes, Groups, Elifs, text_line, if_line, elif_line, else_line, endif_line, nothing, text, section, conditional, otherwise, first, elif, lines_of_nodes, lines_of_groups, lines_of_elifs}
use Rattle.ud_model.proofs.output.Each.{Pairs, no_pair, pair}

-- The items as nodes, which go along others so.
pub record Woven {A B : Type 0} (N : Nodes A → Nodes B → Type 0) (ns : Nodes A) (zs : List (Item B)) : Type 0 where
  pub nodes : Nodes B
  pub lines : lines_of_nodes nodes ≡ zs
  pub alike : N ns nodes

-- The place of an item that goes along a line, which keeps the relations of nodes and groups.
module _ {A B : Type 0} (N : Nodes A → Nodes B → Type 0) (G : Groups A → Groups B → Type 0) (E : Elifs A → Elifs B → Type 0) where
  abbrev pub TextGoes : A → Item B → Type 0
  TextGoes l z = (m : B) × (z ≡ text_line m) × ((ns : Nodes A) (us : Nodes B) → N ns us → N (text ns l) (text us m))

  abbrev pub EndifGoes : A → Item B → Type 0
  EndifGoes l z = (m : B) × (z ≡ endif_line m) × ((ns : Nodes A) (us : Nodes B) (gs : Groups A) (hs : Groups B) → N ns us → G gs hs → N (section ns gs l) (section us hs m))

  abbrev pub ElseGoes : A → Item B → Type 0
  ElseGoes l z = (m : B) × (z ≡ else_line m) × ((es : Elifs A) (fs : Elifs B) (ns : Nodes A) (us : Nodes B) → E es fs → N ns us → G (otherwise es l ns) (otherwise fs m us))

  abbrev pub IfGoes : Opener A → Item B → Type 0
  IfGoes o z = (p : Opener B) × (z ≡ if_line p) × ((ns : Nodes A) (us : Nodes B) → N ns us → E (first o ns) (first p us))

  abbrev pub ElifGoes : Opener A → Item B → Type 0
  ElifGoes o z = (p : Opener B) × (z ≡ elif_line p) × ((es : Elifs A) (fs : Elifs B) (ns : Nodes A) (us : Nodes B) → E es fs → N ns us → E (elif es o ns) (elif fs p us))

module _ {A B : Type 0} (R : Item A → Item B → Type 0) (IsPut : B → Type 0) where
  -- 1. Items.

  -- The second items go along the first ones, with text lines inserted.
  pub data Strewn : List (Item A) → List (Item B) → Type 0 where
    none : Strewn [] []
    same : {y : Item A} {z : Item B} {ys : List (Item A)} {zs : List (Item B)} → R y z → Strewn ys zs → Strewn (y ∷ ys) (z ∷ zs)
    put : {d : B} {ys : List (Item A)} {zs : List (Item B)} → IsPut d → Strewn ys zs → Strewn ys (text_line d ∷ zs)

  pub strewn_pairs : {ys : List (Item A)} {zs : List (Item B)} → Pairs R ys zs → Strewn ys zs
  strewn_pairs no_pair = none
  strewn_pairs (pair r p) = same r (strewn_pairs p)

  pub strewn_both : {ys vs : List (Item A)} {zs ws : List (Item B)} → Strewn ys zs → Strewn vs ws → Strewn (ys ++ vs) (zs ++ ws)
  strewn_both none b = b
  strewn_both (same i a) b = same i (strewn_both a b)
  strewn_both (put p a) b = put p (strewn_both a b)

  -- The items of both parts.
  record SplitBoth (C D : List (Item A)) (zs : List (Item B)) : Type 0 where
    pub before : List (Item B)
    pub later : List (Item B)
    pub are : zs ≡ before ++ later
    pub first_part : Strewn C before
    pub second_part : Strewn D later

  both_by : (C D ws : List (Item A)) (zs : List (Item B)) → ws ≡ C ++ D → Strewn ws zs → SplitBoth C D zs
  both_by [] D ws zs e s = record { before = []; later = zs; are = refl; first_part = none; second_part = subst (λ (vs : List (Item A)). Strewn vs zs) e s }
  both_by (a ∷ C) D _ _ e none = cc
  both_by (a ∷ C) D _ _ e (same {y = x} {z = z} {ys = ys} {zs = zs} k s) = let p : x ≡ a = cc in
      let q : ys ≡ C ++ D = cc in
      let r : SplitBoth C D zs = both_by C D ys zs q s in
      record {
        before = z ∷ r.before;
        later = r.later;
        are = ap (λ (vs : List (Item B)). z ∷ vs) r.are;
        first_part = same (subst (λ (v : Item A). R v z) p k) r.first_part;
        second_part = r.second_part;
      }
  both_by (a ∷ C) D _ _ e (put {d = d} {ys = ys} {zs = zs} k s) =
      let r : SplitBoth (a ∷ C) D zs = both_by (a ∷ C) D ys zs e s in
      record {
        before = text_line d ∷ r.before;
        later = r.later;
        are = ap (λ (vs : List (Item B)). text_line d ∷ vs) r.are;
        first_part = put k r.first_part;
        second_part = r.second_part;
      }

  split_both : (C D : List (Item A)) (zs : List (Item B)) → Strewn (C ++ D) zs → SplitBoth C D zs
  split_both C D zs s = both_by C D (C ++ D) zs refl s

  -- The first items, one item, and the others.
  record SplitAt (C : List (Item A)) (y : Item A) (D : List (Item A)) (zs : List (Item B)) : Type 0 where
    pub before : List (Item B)
    pub here : Item B
    pub later : List (Item B)
    pub are : zs ≡ before ++ here ∷ later
    pub first_part : Strewn C before
    pub alike : R y here
    pub second_part : Strewn D later

  -- Text lines that are inserted before the one item belong to the first items.
  split_first : (C : List (Item A)) (y : Item A) (D : List (Item A)) (before zs : List (Item B)) → Strewn C before → Strewn (y ∷ D) zs → SplitAt C y D (before ++ zs)
  split_first C y D before _ a (same {z = z} {zs = zs} k s) = record { before = before; here = z; later = zs; are = refl; first_part = a; alike = k; second_part = s }
  split_first C y D before _ a (put {d = d} {zs = zs} k s) =
      let more : Strewn C (before ++ text_line d ∷ []) =
      subst (λ (ys : List (Item A)). Strewn ys (before ++ text_line d ∷ [])) (append-nil C) (strewn_both a (put k none)) in
      subst (SplitAt C y D) (append_assoc before (text_line d ∷ []) zs) (split_first C y D (before ++ text_line d ∷ []) zs more s)

  split_at : (C : List (Item A)) (y : Item A) (D : List (Item A)) (zs : List (Item B)) → Strewn (C ++ y ∷ D) zs → SplitAt C y D zs
  split_at C y D zs s = let r : SplitBoth C (y ∷ D) zs = split_both C (y ∷ D) zs s in grind (arith, r.are, split_first)

  -- 2. Nodes.

  -- How nodes of such items go along the first ones: each item has a place.
  pub record Weaving (N : Nodes A → Nodes B → Type 0) (G : Groups A → Groups B → Type 0) (E : Elifs A → Elifs B → Type 0) : Type 0 where
    pub nothing_goes : N nothing nothing
    pub put_goes : (ns : Nodes A) (us : Nodes B) (d : B) → IsPut d → N ns us → N ns (text us d)
    pub text_goes : (l : A) (z : Item B) → R (text_line l) z → TextGoes N G E l z
    pub endif_goes : (l : A) (z : Item B) → R (endif_line l) z → EndifGoes N G E l z
    pub groups_go : (es : Elifs A) (fs : Elifs B) → E es fs → G (conditional es) (conditional fs)
    pub else_goes : (l : A) (z : Item B) → R (else_line l) z → ElseGoes N G E l z
    pub if_goes : (o : Opener A) (z : Item B) → R (if_line o) z → IfGoes N G E o z
    pub elif_goes : (o : Opener A) (z : Item B) → R (elif_line o) z → ElifGoes N G E o z

  module _ (N : Nodes A → Nodes B → Type 0) (G : Groups A → Groups B → Type 0) (E : Elifs A → Elifs B → Type 0) (w : Weaving N G E) where
    -- The items as groups, after text lines.
    record WovenGroups (gs : Groups A) (zs : List (Item B)) : Type 0 where
      pub texts : List (Item B)
      pub groups : Groups B
      pub lines : zs ≡ texts ++ lines_of_groups groups
      pub put_in : Strewn [] texts
      pub alike : G gs groups

    record WovenElifs (es : Elifs A) (zs : List (Item B)) : Type 0 where
      pub texts : List (Item B)
      pub elifs : Elifs B
      pub lines : zs ≡ texts ++ lines_of_elifs elifs
      pub put_in : Strewn [] texts
      pub alike : E es elifs

    -- Further text lines after the nodes `us`.
    more_texts : (ns : Nodes A) (us : Nodes B) (zs : List (Item B)) → N ns us → Strewn [] zs → Woven N ns (lines_of_nodes us ++ zs)
    more_texts ns us _ n none = record { nodes = us; lines = sym (append-nil (lines_of_nodes us)); alike = n }
    more_texts ns us _ n (put {d = d} {zs = zs} k s) = grind (arith, append_assoc, more_texts ns (text us d) zs (w.put_goes ns us d k n) s)

    -- A further group: its opener and its nodes.
    further : (before texts ls ms zs later : List (Item B)) (z y : Item B) → zs ≡ before ++ z ∷ later → before ≡ texts ++ ls → z ≡ y → ms ≡ later →
        zs ≡ texts ++ ((ls ++ y ∷ []) ++ ms)
    further before texts ls ms zs later z y e f g h = grind (arith, append_assoc)

    mutual
      pub weave_nodes : (ns : Nodes A) (zs : List (Item B)) → Strewn (lines_of_nodes ns) zs → Woven N ns zs
      weave_nodes nothing zs s = more_texts nothing nothing zs w.nothing_goes s
      weave_nodes (text ns l) zs s =
          let c : SplitAt (lines_of_nodes ns) (text_line l) [] zs = split_at (lines_of_nodes ns) (text_line l) [] zs s in
          let i = w.text_goes l c.here c.alike in
          let n : Woven N ns c.before = weave_nodes ns c.before c.first_part in
          subst (Woven N (text ns l)) (
          append_assoc (lines_of_nodes n.nodes) (text_line i.0 ∷ []) c.later
          ∙ ap₂ (λ (b : List (Item B)) (x : Item B). b ++ x ∷ c.later) n.lines (sym i.1) ∙ sym c.are)
          (more_texts (text ns l) (text n.nodes i.0) c.later (i.2 ns n.nodes n.alike) c.second_part)
      weave_nodes (section ns gs e) zs s =
          let c = split_at (lines_of_nodes ns ++ lines_of_groups gs) (endif_line e) [] zs s in
          let i = w.endif_goes e c.here c.alike in
          let b = split_both (lines_of_nodes ns) (lines_of_groups gs) c.before c.first_part in
          let n : Woven N ns b.before = weave_nodes ns b.before b.first_part in
          let g : WovenGroups gs b.later = weave_groups gs b.later b.second_part in
          let m : Woven N ns (lines_of_nodes n.nodes ++ g.texts) = more_texts ns n.nodes g.texts n.alike g.put_in in
          let prefix : lines_of_nodes m.nodes ++ lines_of_groups g.groups ≡ c.before =
          ap (λ (ws : List (Item B)). ws ++ lines_of_groups g.groups) (m.lines ∙ ap (λ (ws : List (Item B)). ws ++ g.texts) n.lines)
          ∙ append_assoc b.before g.texts (lines_of_groups g.groups) ∙ ap (λ (ws : List (Item B)). b.before ++ ws) (sym g.lines) ∙ sym b.are in
          subst (Woven N (section ns gs e)) (
          append_assoc (lines_of_nodes m.nodes ++ lines_of_groups g.groups) (endif_line i.0 ∷ []) c.later
          ∙ ap₂ (λ (ws : List (Item B)) (x : Item B). ws ++ x ∷ c.later) prefix (sym i.1) ∙ sym c.are)
          (more_texts (section ns gs e) (section m.nodes g.groups i.0) c.later (i.2 ns m.nodes gs g.groups m.alike g.alike) c.second_part)

      weave_groups : (gs : Groups A) (zs : List (Item B)) → Strewn (lines_of_groups gs) zs → WovenGroups gs zs
      weave_groups (conditional es) zs s = let r : WovenElifs es zs = weave_elifs es zs s in
          record { texts = r.texts; groups = conditional r.elifs; lines = r.lines; put_in = r.put_in; alike = w.groups_go es r.elifs r.alike }
      weave_groups (otherwise es l ns) zs s =
          let c : SplitAt (lines_of_elifs es) (else_line l) (lines_of_nodes ns) zs =
          split_at (lines_of_elifs es) (else_line l) (lines_of_nodes ns) zs
          (subst (λ (ys : List (Item A)). Strewn ys zs)
          (append_assoc (lines_of_elifs es) (else_line l ∷ []) (lines_of_nodes ns)) s) in
          let i = w.else_goes l c.here c.alike in
          let r : WovenElifs es c.before = weave_elifs es c.before c.first_part in
          let n : Woven N ns c.later = weave_nodes ns c.later c.second_part in
          record {
            texts = r.texts;
            groups = otherwise r.elifs i.0 n.nodes;
            lines = further c.before r.texts (lines_of_elifs r.elifs) (lines_of_nodes n.nodes) zs c.later c.here (else_line i.0) c.are r.lines i.1 n.lines;
            put_in = r.put_in;
            alike = i.2 es r.elifs ns n.nodes r.alike n.alike;
          }

      weave_elifs : (es : Elifs A) (zs : List (Item B)) → Strewn (lines_of_elifs es) zs → WovenElifs es zs
      weave_elifs (first o ns) zs s =
          let c : SplitAt [] (if_line o) (lines_of_nodes ns) zs = split_at [] (if_line o) (lines_of_nodes ns) zs s in
          let i = w.if_goes o c.here c.alike in
          let n : Woven N ns c.later = weave_nodes ns c.later c.second_part in
          record {
            texts = c.before;
            elifs = first i.0 n.nodes;
            lines = c.are ∙ ap₂ (λ (x : Item B) (ws : List (Item B)). c.before ++ x ∷ ws) i.1 (sym n.lines);
            put_in = c.first_part;
            alike = i.2 ns n.nodes n.alike;
          }
      weave_elifs (elif es o ns) zs s =
          let c : SplitAt (lines_of_elifs es) (elif_line o) (lines_of_nodes ns) zs =
          split_at (lines_of_elifs es) (elif_line o) (lines_of_nodes ns) zs
          (subst (λ (ys : List (Item A)). Strewn ys zs)
          (append_assoc (lines_of_elifs es) (elif_line o ∷ []) (lines_of_nodes ns)) s) in
          let i = w.elif_goes o c.here c.alike in
          let r : WovenElifs es c.before = weave_elifs es c.before c.first_part in
          let n : Woven N ns c.later = weave_nodes ns c.later c.second_part in
          record {
            texts = r.texts;
            elifs = elif r.elifs i.0 n.nodes;
            lines = further c.before r.texts (lines_of_elifs r.elifs) (lines_of_nodes n.nodes) zs c.later c.here (elif_line i.0) c.are r.lines i.1 n.lines;
            put_in = r.put_in;
            alike = i.2 es r.elifs ns n.nodes r.alike n.alike;
          }
