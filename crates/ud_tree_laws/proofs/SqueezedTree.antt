-- Squeezed trees: if items with blank lines inserted have a tree, the items without these have one.
use Rattle.std.proofs.Common.{◌≡◌, List, [], ◌∷◌, ◌++◌, refl, sym, ◌∙◌, subst, append_assoc, append-nil, arith}
use Rattle.ud_model.specs.text.Scans.{Reading}
use Rattle.ud_model.specs.sections.Tree.{Item, Opener, Nodes, Groups, Elifs, text_line, if_line, elif_line, else_line, endif_line, nothing, text, section, conditional, otherwise, first, elif, lines_of_nodes, lines_of_groups, lines_of_elifs}
use Rattle.ud_model.proofs.output.WovenTrees.{Woven, Strewn, none, same, put}
use Rattle.ud_laws.specs.output.InsertedLines.{IsBlankLine}
use Rattle.ud_laws.specs.output.InsertedNodes.{IsSame, IsSameOpener, NodesWithInserted, no_nodes, same_text, inserted_text, same_section, GroupsWithInserted, all_conditional, last_otherwise, ElifsWithInserted, same_first, same_elif}
use Rattle.ud_laws.proofs.output.InsertedTree.{ItemAlike, a_text, an_if, an_elif, an_else, an_endif}

abbrev pub Items : Type 0
Items = List (Item Reading)

-- The items `zs` are the items `ys` with blank lines inserted.
abbrev pub Blanks : Items → Items → Type 0
Blanks ys zs = Strewn ItemAlike IsBlankLine ys zs

-- The items `ys` begin with those of a part, and `rest` are the later ones with blank lines.
record Cut {A : Type 0} (lines_of : A → Items) (IsLike : A → Type 0) (rest ys : Items) : Type 0 where
  pub part : A
  pub later : Items
  pub are : ys ≡ lines_of part ++ later
  pub alike : IsLike part
  pub others : Blanks later rest

-- Three parts and what follows them.
regroup : (xs bs cs ds : Items) → ((xs ++ bs) ++ cs) ++ ds ≡ xs ++ (bs ++ (cs ++ ds))
regroup xs bs cs ds = grind (arith, append_assoc)

three : (xs bs cs ds : Items) {ys ps qs : Items} →
    ys ≡ xs ++ ps → ps ≡ bs ++ qs → qs ≡ cs ++ ds → ys ≡ ((xs ++ bs) ++ cs) ++ ds
three xs bs cs ds e f g = grind (arith, append_assoc)

-- 1. Directives, which all stay.

cut_if : (o : Opener Reading) (rest ys : Items) → Blanks ys (if_line o ∷ rest) →
    Cut (λ p. if_line p ∷ []) (λ p. IsSameOpener p o) rest ys
cut_if o rest _ (same {ys = later} (an_if {o = p} k) s) = record { part = p; later = later; are = refl; alike = k; others = s }

cut_elif : (o : Opener Reading) (rest ys : Items) → Blanks ys (elif_line o ∷ rest) →
    Cut (λ p. elif_line p ∷ []) (λ p. IsSameOpener p o) rest ys
cut_elif o rest _ (same {ys = later} (an_elif {o = p} k) s) = record { part = p; later = later; are = refl; alike = k; others = s }

cut_else : (l : Reading) (rest ys : Items) → Blanks ys (else_line l ∷ rest) →
    Cut (λ r. else_line r ∷ []) (λ r. IsSame r l) rest ys
cut_else l rest _ (same {ys = later} (an_else {r = r} k) s) = record { part = r; later = later; are = refl; alike = k; others = s }

cut_endif : (l : Reading) (rest ys : Items) → Blanks ys (endif_line l ∷ rest) →
    Cut (λ r. endif_line r ∷ []) (λ r. IsSame r l) rest ys
cut_endif l rest _ (same {ys = later} (an_endif {r = r} k) s) = record { part = r; later = later; are = refl; alike = k; others = s }

-- 2. Nodes.

abbrev CutNodes : Nodes Reading → Items → Items → Type 0
CutNodes ns rest ys = Cut lines_of_nodes (λ us. NodesWithInserted IsBlankLine us ns) rest ys

-- Nodes, and a text line that may be one of the blank ones.
cut_text : (ns us : Nodes Reading) (l : Reading) (rest ys later : Items) → ys ≡ lines_of_nodes us ++ later → NodesWithInserted IsBlankLine us ns →
    Blanks later (text_line l ∷ rest) → CutNodes (text ns l) rest ys
cut_text ns us l rest ys _ e n (same {ys = later} (a_text {r = r} k) s) = record {
  part = text us r;
  later = later;
  are = e ∙ sym (append_assoc (lines_of_nodes us) (text_line r ∷ []) later);
  alike = same_text n k;
  others = s;
}
cut_text ns us l rest ys later e n (put k s) = record { part = us; later = later; are = e; alike = inserted_text n k; others = s }

mutual
  cut_nodes : (ns : Nodes Reading) (rest ys : Items) → Blanks ys (lines_of_nodes ns ++ rest) → CutNodes ns rest ys
  cut_nodes nothing rest ys s = record { part = nothing; later = ys; are = refl; alike = no_nodes; others = s }
  cut_nodes (text ns l) rest ys s =
      let n : CutNodes ns (text_line l ∷ rest) ys = cut_nodes ns (text_line l ∷ rest) ys (subst (Blanks ys) (append_assoc (lines_of_nodes ns) (text_line l ∷ []) rest) s) in
      cut_text ns n.part l rest ys n.later n.are n.alike n.others
  cut_nodes (section ns gs l) rest ys s =
      let n = cut_nodes ns (lines_of_groups gs ++ endif_line l ∷ rest) ys (subst (Blanks ys) (regroup (lines_of_nodes ns) (lines_of_groups gs) (endif_line l ∷ []) rest) s) in
      let g = cut_groups gs (endif_line l ∷ rest) n.later n.others in
      let e = cut_endif l rest g.later g.others in
      record {
        part = section n.part g.part e.part;
        later = e.later;
        are = three (lines_of_nodes n.part) (lines_of_groups g.part) (endif_line e.part ∷ []) e.later n.are g.are e.are;
        alike = same_section n.alike g.alike e.alike;
        others = e.others;
      }

  cut_groups : (gs : Groups Reading) (rest ys : Items) → Blanks ys (lines_of_groups gs ++ rest) → Cut lines_of_groups (λ hs. GroupsWithInserted IsBlankLine hs gs) rest ys
  cut_groups (conditional es) rest ys s = let e = cut_elifs es rest ys s in
      record { part = conditional e.part; later = e.later; are = e.are; alike = all_conditional e.alike; others = e.others }
  cut_groups (otherwise es l ns) rest ys s =
      let e = cut_elifs es (else_line l ∷ (lines_of_nodes ns ++ rest)) ys (subst (Blanks ys) (regroup (lines_of_elifs es) (else_line l ∷ []) (lines_of_nodes ns) rest) s) in
      let m = cut_else l (lines_of_nodes ns ++ rest) e.later e.others in
      let n = cut_nodes ns rest m.later m.others in
      record {
        part = otherwise e.part m.part n.part;
        later = n.later;
        are = three (lines_of_elifs e.part) (else_line m.part ∷ []) (lines_of_nodes n.part) n.later e.are m.are n.are;
        alike = last_otherwise e.alike m.alike n.alike;
        others = n.others;
      }

  cut_elifs : (es : Elifs Reading) (rest ys : Items) → Blanks ys (lines_of_elifs es ++ rest) → Cut lines_of_elifs (λ fs. ElifsWithInserted IsBlankLine fs es) rest ys
  cut_elifs (first o ns) rest ys s =
      let i = cut_if o (lines_of_nodes ns ++ rest) ys s in
      let n = cut_nodes ns rest i.later i.others in
      record {
        part = first i.part n.part;
        later = n.later;
        are = three [] (if_line i.part ∷ []) (lines_of_nodes n.part) n.later refl i.are n.are;
        alike = same_first i.alike n.alike;
        others = n.others;
      }
  cut_elifs (elif es o ns) rest ys s =
      let e = cut_elifs es (elif_line o ∷ (lines_of_nodes ns ++ rest)) ys (subst (Blanks ys) (regroup (lines_of_elifs es) (elif_line o ∷ []) (lines_of_nodes ns) rest) s) in
      let i = cut_elif o (lines_of_nodes ns ++ rest) e.later e.others in
      let n = cut_nodes ns rest i.later i.others in
      record {
        part = elif e.part i.part n.part;
        later = n.later;
        are = three (lines_of_elifs e.part) (elif_line i.part ∷ []) (lines_of_nodes n.part) n.later e.are i.are n.are;
        alike = same_elif e.alike i.alike n.alike;
        others = n.others;
      }

-- So nodes with blank lines inserted are nodes without these.
pub unweave : (ns : Nodes Reading) (ys : Items) → Blanks ys (lines_of_nodes ns) → Woven (λ ms us. NodesWithInserted IsBlankLine us ms) ns ys
unweave ns ys s = let c : CutNodes ns [] ys = cut_nodes ns [] ys (subst (Blanks ys) (sym (append-nil (lines_of_nodes ns))) s) in
    by c c.later c.are c.others
  where
    by : (c : CutNodes ns [] ys) (later : Items) → ys ≡ lines_of_nodes c.part ++ later → Blanks later [] → Woven (λ ms us. NodesWithInserted IsBlankLine us ms) ns ys
    by c _ e none = record { nodes = c.part; lines = sym (e ∙ append-nil (lines_of_nodes c.part)); alike = c.alike }
