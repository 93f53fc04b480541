-- Trees that differ in their lines alone: the same lines are selected of them if their openers have
-- the same truths.
use Rattle.std.proofs.Common.{◌≡◌, List, [], ◌∷◌, ◌++◌, length, map, Bool, Option, option_map, refl, sym, ◌∙◌, ap, ap₂, arith}
use Rattle.std.proofs.lemmas.List.{map-append, length-map}
use Rattle.ud_model.specs.sections.Tree.{Opener, Nodes, Groups, Elifs, nothing, text, section, conditional, otherwise, first, elif, opener_with_line, with_lines, groups_with_lines, elifs_with_lines}
use Rattle.ud_model.specs.laws.Worlds.{World, or_else, lines_or, where_true, selected, selected_groups, selected_elifs, openers, openers_of_groups, openers_of_elifs}

module _ {L M : Type 0} (f : L → M) where
  mutual
    pub openers-with : (ns : Nodes L) → openers (with_lines f ns) ≡ map f (openers ns)
    openers-with nothing = refl
    openers-with (text ns l) = openers-with ns
    openers-with (section ns gs e) =
        ap₂ (λ (a b : List M). a ++ b) (openers-with ns) (groups_openers gs) ∙ sym (map-append f (openers ns) (openers_of_groups gs))

    groups_openers : (gs : Groups L) → openers_of_groups (groups_with_lines f gs) ≡ map f (openers_of_groups gs)
    groups_openers (conditional es) = elifs_openers es
    groups_openers (otherwise es l ns) =
        ap₂ (λ (a b : List M). a ++ b) (elifs_openers es) (openers-with ns) ∙ sym (map-append f (openers_of_elifs es) (openers ns))

    pub elifs_openers : (es : Elifs L) → openers_of_elifs (elifs_with_lines f es) ≡ map f (openers_of_elifs es)
    elifs_openers (first o ns) = ap (λ (a : List M). f o.line ∷ a) (openers-with ns)
    elifs_openers (elif es o ns) =
        ap₂ (λ (a b : List M). (a ++ f o.line ∷ []) ++ b) (elifs_openers es) (openers-with ns)
        ∙ sym (map-append f (openers_of_elifs es ++ o.line ∷ []) (openers ns)
        ∙ ap (λ (a : List M). a ++ map f (openers ns)) (map-append f (openers_of_elifs es) (o.line ∷ [])))

-- Two lists that are made up of parts of the same lengths have the same parts.
pub parts : {A : Type 0} (a b c d : List A) → length a ≡ length b → a ++ c ≡ b ++ d → (a ≡ b) × (c ≡ d)
parts [] [] c d l e = (refl, e)
parts (x ∷ a) (y ∷ b) c d l e = let t : a ++ c ≡ b ++ d = cc in
    let h : x ≡ y = cc in
    let r : (a ≡ b) × (c ≡ d) = parts a b c d (omega arith) t in
    (ap₂ (λ (z : _) (zs : _). z ∷ zs) h r.0, r.1)
parts h g c d l e = absurd (omega arith)

module _ {L K M : Type 0} (f : L → M) (g : K → M) (v : World L) (w : World K) where
  same_long : (a : List L) (b : List K) → map f a ≡ map g b → length (map v a) ≡ length (map w b)
  same_long a b e = grind (arith, length-map)

  -- The openers of two lists of groups, apart.
  pub openers_apart : (a c : List L) (b d : List K) → map f a ≡ map g b → map v (a ++ c) ≡ map w (b ++ d) → (map v a ≡ map w b) × (map v c ≡ map w d)
  openers_apart a c b d e t = parts (map v a) (map w b) (map v c) (map w d) (same_long a b e) (sym (map-append v a c) ∙ t ∙ map-append w b d)

  -- Both trees have as many openers.
  pub long_with : (ns : Nodes L) (ms : Nodes K) → with_lines f ns ≡ with_lines g ms → map f (openers ns) ≡ map g (openers ms)
  long_with ns ms e = sym (openers-with f ns) ∙ ap openers e ∙ openers-with g ms

  pub long_elifs : (es : Elifs L) (ds : Elifs K) → elifs_with_lines f es ≡ elifs_with_lines g ds → map f (openers_of_elifs es) ≡ map g (openers_of_elifs ds)
  long_elifs es ds e = sym (elifs_openers f es) ∙ ap openers_of_elifs e ∙ elifs_openers g ds

  where_same : (a b : Bool) (ls : List L) (ks : List K) → a ≡ b → map f ls ≡ map g ks → option_map (map f) (where_true a ls) ≡ option_map (map g) (where_true b ks)
  where_same a b ls ks e h = grind arith

  or_same : (s : Option (List L)) (r : Option (List K)) (t : Option (List L)) (u : Option (List K)) → option_map (map f) s ≡ option_map (map g) r →
      option_map (map f) t ≡ option_map (map g) u → option_map (map f) (or_else s t) ≡ option_map (map g) (or_else r u)
  or_same s r t u e h = grind arith

  lines_same : (s : Option (List L)) (r : Option (List K)) (ls : List L) (ks : List K) → option_map (map f) s ≡ option_map (map g) r → map f ls ≡ map g ks →
      map f (lines_or s ls) ≡ map g (lines_or r ks)
  lines_same s r ls ks e h = grind arith

  mutual
    -- Trees that differ in their lines alone have the same selected lines, if their openers have
    -- the same truths.
    pub same_selected : (ns : Nodes L) (ms : Nodes K) → with_lines f ns ≡ with_lines g ms → map v (openers ns) ≡ map w (openers ms) →
        map f (selected v ns) ≡ map g (selected w ms)
    same_selected nothing nothing e t = refl
    same_selected (text ns l) (text ms k) e t = let p : with_lines f ns ≡ with_lines g ms = cc in
        let q : f l ≡ g k = cc in
        map-append f (selected v ns) (l ∷ []) ∙ ap₂ (λ (a : List M) (b : M). a ++ b ∷ []) (same_selected ns ms p t) q ∙ sym (map-append g (selected w ms) (k ∷ []))
    same_selected (section ns gs l) (section ms hs k) e t =
        let p : with_lines f ns ≡ with_lines g ms = cc in
        let q : groups_with_lines f gs ≡ groups_with_lines g hs = cc in
        let r : (map v (openers ns) ≡ map w (openers ms)) × (map v (openers_of_groups gs) ≡ map w (openers_of_groups hs)) =
        openers_apart (openers ns) (openers_of_groups gs) (openers ms) (openers_of_groups hs) (long_with ns ms p) t in
        map-append f (selected v ns) (selected_groups v gs)
        ∙ ap₂ (λ (a b : List M). a ++ b) (same_selected ns ms p r.0) (same_groups gs hs q r.1) ∙ sym (map-append g (selected w ms) (selected_groups w hs))
    same_selected _ _ e t = cc

    same_groups : (gs : Groups L) (hs : Groups K) → groups_with_lines f gs ≡ groups_with_lines g hs → map v (openers_of_groups gs) ≡ map w (openers_of_groups hs) →
        map f (selected_groups v gs) ≡ map g (selected_groups w hs)
    same_groups (conditional es) (conditional ds) e t =
        let p : elifs_with_lines f es ≡ elifs_with_lines g ds = cc in lines_same (selected_elifs v es) (selected_elifs w ds) [] [] (same_elifs es ds p t) refl
    same_groups (otherwise es l ns) (otherwise ds k ms) e t =
        let p : elifs_with_lines f es ≡ elifs_with_lines g ds = cc in
        let q : with_lines f ns ≡ with_lines g ms = cc in
        let r : (map v (openers_of_elifs es) ≡ map w (openers_of_elifs ds)) × (map v (openers ns) ≡ map w (openers ms)) =
        openers_apart (openers_of_elifs es) (openers ns) (openers_of_elifs ds) (openers ms) (long_elifs es ds p) t in
        lines_same (selected_elifs v es) (selected_elifs w ds) (selected v ns) (selected w ms) (same_elifs es ds p r.0) (same_selected ns ms q r.1)
    same_groups _ _ e t = cc

    pub same_elifs : (es : Elifs L) (ds : Elifs K) → elifs_with_lines f es ≡ elifs_with_lines g ds → map v (openers_of_elifs es) ≡ map w (openers_of_elifs ds) →
        option_map (map f) (selected_elifs v es) ≡ option_map (map g) (selected_elifs w ds)
    same_elifs (first o ns) (first p ms) e t = let q : with_lines f ns ≡ with_lines g ms = cc in
        let a : v o.line ≡ w p.line = cc in
        let r : map v (openers ns) ≡ map w (openers ms) = cc in
        where_same (v o.line) (w p.line) (selected v ns) (selected w ms) a (same_selected ns ms q r)
    same_elifs (elif es o ns) (elif ds p ms) e t =
        let h : elifs_with_lines f es ≡ elifs_with_lines g ds = cc in
        let q : with_lines f ns ≡ with_lines g ms = cc in
        let oe : opener_with_line f o ≡ opener_with_line g p = cc in
        let le : f o.line ≡ g p.line = ap (λ (x : Opener M). x.line) oe in
        let prefix : map f (openers_of_elifs es ++ o.line ∷ []) ≡ map g (openers_of_elifs ds ++ p.line ∷ []) =
        map-append f (openers_of_elifs es) (o.line ∷ []) ∙ ap₂ (λ (a : List M) (b : M). a ++ b ∷ []) (long_elifs es ds h) le ∙ sym (map-append g (openers_of_elifs ds) (p.line ∷ [])) in
        let r : (map v (openers_of_elifs es ++ o.line ∷ []) ≡ map w (openers_of_elifs ds ++ p.line ∷ [])) × (map v (openers ns) ≡ map w (openers ms)) =
        openers_apart (openers_of_elifs es ++ o.line ∷ []) (openers ns) (openers_of_elifs ds ++ p.line ∷ []) (openers ms) prefix t in
        let s : (map v (openers_of_elifs es) ≡ map w (openers_of_elifs ds)) × (v o.line ∷ [] ≡ w p.line ∷ []) =
        openers_apart (openers_of_elifs es) (o.line ∷ []) (openers_of_elifs ds) (p.line ∷ []) (long_elifs es ds h) r.0 in
        let a : v o.line ≡ w p.line = cc (s.1) in
        or_same (selected_elifs v es) (selected_elifs w ds) (where_true (v o.line) (selected v ns)) (where_true (w p.line) (selected w ms)) (same_elifs es ds h s.0)
        (where_same (v o.line) (w p.line) (selected v ns) (selected w ms) a (same_selected ns ms q r.1))
    same_elifs _ _ e t = cc
