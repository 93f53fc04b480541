-- The lines that are selected of a text have presumed numbers, if C obeys each `#line` among them.
use Rattle.std.proofs.Common.{◌≡◌, ℕ, List, [], ◌∷◌, ◌++◌, map, Bool, true, Option, Some, None, inl, inr, refl, sym, ◌∙◌, ap, subst, append_assoc, append-nil}
use Rattle.std.proofs.lemmas.List.{map-append}
use Rattle.ud_model.specs.text.Scans.{Reading}
use Rattle.ud_model.specs.sections.Tree.{Item, Nodes, Groups, Elifs, nothing, text, section, conditional, otherwise, first, elif, closed, text_line, elif_line, else_line, endif_line, lines_of_nodes, lines_of_groups, lines_of_elifs}
use Rattle.ud_model.specs.sections.Items.{Options, reading_of, mode_by}
use Rattle.ud_model.specs.laws.Rereading.{IsPlain, IsTreeOf}
use Rattle.ud_model.specs.laws.Worlds.{World, or_else, lines_or, where_true, selected, selected_groups, selected_elifs}
use Rattle.ud_model.specs.aids.ReadAs.{read_as}
use Rattle.ud_laws.specs.output.PresumedLines.{Presumed, Presumes, no_lines, passes, processes, obeys, ArePresumed}
use Rattle.ud_model.proofs.output.Each.{Each, each_parts}
use Rattle.ud_laws.proofs.output.ListComplete.{each_unmap}
use Rattle.ud_laws.proofs.output.PresumedNumbers.{IsClear}
use Rattle.ud_laws.proofs.output.ReadInMode.{read_in_one_mode}

abbrev line_in : Presumed → Reading
line_in p = p.line

-- Of these lines C processes the second ones.
record Got (ls ss : List Reading) : Type 0 where
  pub lines : List Presumed
  pub sure : Bool
  pub next : ℕ
  pub presumes : Presumes ls lines sure next
  pub are : map line_in lines ≡ ss

moved : {ls ks ss rs : List Reading} → ls ≡ ks → ss ≡ rs → Got ls ss → Got ks rs
moved {ks = ks} {ss = ss} e f g = subst (λ (z : List Reading). Got ks z) f (subst (λ (z : List Reading). Got z ss) e g)

pass_one : {ls ss : List Reading} → Got ls ss → (r : Reading) → Got (ls ++ r ∷ []) ss
pass_one g r = record { lines = g.lines; sure = _; next = _; presumes = passes g.presumes r; are = g.are }

take_one : {ls ss : List Reading} → Got ls ss → (r : Reading) → IsClear r → Got (ls ++ r ∷ []) (ss ++ r ∷ [])
take_one g r (inl h) = record {
  lines = g.lines ++ record { line = r; number = g.next; sure = g.sure } ∷ [];
  sure = _;
  next = _;
  presumes = processes g.presumes r h;
  are = map-append line_in g.lines (record { line = r; number = g.next; sure = g.sure } ∷ []) ∙ ap (λ (z : List Reading). z ++ r ∷ []) g.are;
}
take_one g r (inr h) = record {
  lines = g.lines ++ record { line = r; number = g.next; sure = g.sure } ∷ [];
  sure = _;
  next = _;
  presumes = obeys g.presumes r h.0 h.1;
  are = map-append line_in g.lines (record { line = r; number = g.next; sure = g.sure } ∷ []) ∙ ap (λ (z : List Reading). z ++ r ∷ []) g.are;
}

pass_all : {ls ss : List Reading} → Got ls ss → (rs : List Reading) → Got (ls ++ rs) ss
pass_all {ls} g [] = moved (sym (append-nil ls)) refl g
pass_all {ls} g (r ∷ rs) = moved (append_assoc ls (r ∷ []) rs) refl (pass_all (pass_one g r) rs)

-- The readings of items.
abbrev of : List (Item Reading) → List Reading
of xs = map reading_of xs

abbrev Clear : List (Item Reading) → Type 0
Clear xs = Each (λ (y : Item Reading). IsClear (reading_of y)) xs

clear_parts : (xs ys : List (Item Reading)) → Clear (xs ++ ys) → Clear xs × Clear ys
clear_parts xs ys h = each_parts (λ (y : Item Reading). IsClear (reading_of y)) xs ys h

-- Lines after lines, as the readings of items after items.
after : (ls : List Reading) (xs ys : List (Item Reading)) → (ls ++ of xs) ++ of ys ≡ ls ++ of (xs ++ ys)
after ls xs ys = append_assoc ls (of xs) (of ys) ∙ ap (λ (z : List Reading). ls ++ z) (sym (map-append reading_of xs ys))

module _ (x : World Reading) where
  -- Of these nodes, after other lines, C processes the selected lines.
  abbrev GotNodes : Nodes Reading → Type 0
  GotNodes ns = (ls ss : List Reading) → Got ls ss → Got (ls ++ of (lines_of_nodes ns)) (ss ++ selected x ns)

  -- The group of an `#else` is processed if none before it is.
  got_else : (ns : Nodes Reading) → GotNodes ns → (q : Option (List Reading)) (ls ss : List Reading) → Got ls (ss ++ lines_or q []) →
      Got (ls ++ of (lines_of_nodes ns)) (ss ++ lines_or q (selected x ns))
  got_else ns h (Some rs) ls ss g = pass_all g (of (lines_of_nodes ns))
  got_else ns h None ls ss g = h ls ss (moved refl (append-nil ss) g)

  -- Another group is processed if none before it is and its condition is true.
  got_group : (ns : Nodes Reading) → GotNodes ns → (q : Option (List Reading)) (b : Bool) (ls ss : List Reading) → Got ls (ss ++ lines_or q []) →
      Got (ls ++ of (lines_of_nodes ns)) (ss ++ lines_or (or_else q (where_true b (selected x ns))) [])
  got_group ns h None true ls ss g = h ls ss (moved refl (append-nil ss) g)
  got_group ns _ _ _ ls ss g = pass_all g (of (lines_of_nodes ns))

  mutual
    -- The lines of nodes that are processed.
    got_nodes : (ns : Nodes Reading) → Clear (lines_of_nodes ns) → GotNodes ns
    got_nodes nothing h ls ss g = moved (sym (append-nil ls)) (sym (append-nil ss)) g
    got_nodes (text ns l) h ls ss g =
        let k = clear_parts (lines_of_nodes ns) (text_line l ∷ []) h in
        moved (after ls (lines_of_nodes ns) (text_line l ∷ [])) (append_assoc ss (selected x ns) (l ∷ [])) (take_one (got_nodes ns k.0 ls ss g) l k.1.0)
    got_nodes (section ns gs e) h ls ss g =
        let k = clear_parts (lines_of_nodes ns ++ lines_of_groups gs) (endif_line e ∷ []) h in
        let m = clear_parts (lines_of_nodes ns) (lines_of_groups gs) k.0 in
        moved (ap (λ (z : List Reading). z ++ e ∷ []) (after ls (lines_of_nodes ns) (lines_of_groups gs)) ∙ after ls (lines_of_nodes ns ++ lines_of_groups gs) (endif_line e ∷ []))
        (append_assoc ss (selected x ns) (selected_groups x gs)) (pass_one (got_groups gs m.1 (got_nodes ns m.0 ls ss g)) e)

    got_groups : (gs : Groups Reading) → Clear (lines_of_groups gs) → {ls ss : List Reading} → Got ls ss → Got (ls ++ of (lines_of_groups gs)) (ss ++ selected_groups x gs)
    got_groups (conditional es) h g = got_elifs es h g
    got_groups (otherwise es l ns) h {ls} {ss} g =
        let k = clear_parts (lines_of_elifs es ++ else_line l ∷ []) (lines_of_nodes ns) h in
        let m = clear_parts (lines_of_elifs es) (else_line l ∷ []) k.0 in
        moved (ap (λ (z : List Reading). z ++ of (lines_of_nodes ns)) (after ls (lines_of_elifs es) (else_line l ∷ []))
        ∙ after ls (lines_of_elifs es ++ else_line l ∷ []) (lines_of_nodes ns)) refl
        (got_else ns (got_nodes ns k.1) (selected_elifs x es) ((ls ++ of (lines_of_elifs es)) ++ l ∷ []) ss (pass_one (got_elifs es m.0 g) l))

    got_elifs : (es : Elifs Reading) → Clear (lines_of_elifs es) → {ls ss : List Reading} → Got ls ss → Got (ls ++ of (lines_of_elifs es)) (ss ++ lines_or (selected_elifs x es) [])
    got_elifs (first o ns) h {ls} {ss} g =
        moved (append_assoc ls (o.line ∷ []) (of (lines_of_nodes ns))) refl
        (got_group ns (got_nodes ns h.1) None (x o.line) (ls ++ o.line ∷ []) ss (moved refl (sym (append-nil ss)) (pass_one g o.line)))
    got_elifs (elif es o ns) h {ls} {ss} g =
        let k = clear_parts (lines_of_elifs es ++ elif_line o ∷ []) (lines_of_nodes ns) h in
        let m = clear_parts (lines_of_elifs es) (elif_line o ∷ []) k.0 in
        moved (ap (λ (z : List Reading). z ++ of (lines_of_nodes ns)) (after ls (lines_of_elifs es) (elif_line o ∷ []))
        ∙ after ls (lines_of_elifs es ++ elif_line o ∷ []) (lines_of_nodes ns)) refl
        (got_group ns (got_nodes ns k.1) (selected_elifs x es) (x o.line) ((ls ++ of (lines_of_elifs es)) ++ o.line ∷ []) ss (pass_one (got_elifs es m.0 g) o.line))

-- The selected lines of a text whose lines are clear have presumed numbers.
pub selected_presumed : (o : Options) → IsPlain o → (output : List ℕ) (vs : Nodes Reading) → IsTreeOf o output (closed vs) →
    Each IsClear (read_as (mode_by o.settings.plain) output) → (x : World Reading) → ArePresumed (mode_by o.settings.plain) output (selected x vs)
selected_presumed o p output vs i h x =
    let same : of (lines_of_nodes vs) ≡ read_as (mode_by o.settings.plain) output = read_in_one_mode o p output (closed vs) i in
    let clear = each_unmap reading_of IsClear (lines_of_nodes vs) (subst (λ (z : List Reading). Each IsClear z) (sym same) h) in
    let g : Got (of (lines_of_nodes vs)) (selected x vs) =
    got_nodes x vs clear [] [] (record { lines = []; sure = true; next = 1; presumes = no_lines; are = refl }) in
    record {
      lines = g.lines;
      sure = g.sure;
      next = g.next;
      presumes = subst (λ (z : List Reading). Presumes z g.lines g.sure g.next) same g.presumes;
      are = g.are;
    }
