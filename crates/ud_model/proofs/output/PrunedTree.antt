-- Nodes have exactly one pruned tree, and it is the folded one.
use Rattle.std.proofs.Common.{◌≡◌, List, [], ◌∷◌, ◌++◌, refl, sym, ◌∙◌, ap, ap₂, append-nil, append_assoc}
use Rattle.ud_model.specs.sections.Tree.{Item, Nodes, Groups, Elifs, Tree, text_line, elif_line, else_line, endif_line, nothing, text, section, conditional, otherwise, first, elif, closed, lines_of_nodes, lines_of_groups, lines_of_elifs}
use Rattle.ud_model.specs.laws.Worlds.{openers, openers_of_groups, openers_of_elifs, opener_line, openers_in}
use Rattle.ud_model.specs.laws.Pruned.{Edited, IsPruned, pruned_lines}
use Rattle.ud_model.proofs.sections.Unique.{unique}
use Rattle.ud_model.proofs.output.Folded.{folded}
use Rattle.ud_model.proofs.output.PrintedPruned.{printed-pruned}

module _ {L : Type 0} where
  pub closed_same : (ns ms : Nodes L) → ◌≡◌ {A = Tree L} (closed ns) (closed ms) → ns ≡ ms
  closed_same ns ms e = cc

  -- Nodes with the same lines are the same.
  pub nodes_same : (ns ms : Nodes L) → lines_of_nodes ns ≡ lines_of_nodes ms → ns ≡ ms
  nodes_same ns ms e = closed_same ns ms (unique (closed ns) (closed ms) e)

  openers_append : (xs ys : List (Item L)) → openers_in (xs ++ ys) ≡ openers_in xs ++ openers_in ys
  openers_append [] ys = refl
  openers_append (x ∷ xs) ys = ap (λ (ls : List L). opener_line x ++ ls) (openers_append xs ys) ∙ sym (append_assoc (opener_line x) (openers_in xs) (openers_in ys))

  mutual
    -- The openers of nodes are those among their lines.
    pub openers_lines : (ns : Nodes L) → openers_in (lines_of_nodes ns) ≡ openers ns
    openers_lines nothing = refl
    openers_lines (text ns l) =
        openers_append (lines_of_nodes ns) (text_line l ∷ []) ∙ append-nil (openers_in (lines_of_nodes ns)) ∙ openers_lines ns
    openers_lines (section ns gs e) =
        openers_append (lines_of_nodes ns ++ lines_of_groups gs) (endif_line e ∷ []) ∙ append-nil (openers_in (lines_of_nodes ns ++ lines_of_groups gs))
        ∙ openers_append (lines_of_nodes ns) (lines_of_groups gs) ∙ ap₂ (λ (a b : List L). a ++ b) (openers_lines ns) (groups_lines gs)

    groups_lines : (gs : Groups L) → openers_in (lines_of_groups gs) ≡ openers_of_groups gs
    groups_lines (conditional es) = elifs_lines es
    groups_lines (otherwise es l ns) =
        openers_append (lines_of_elifs es ++ else_line l ∷ []) (lines_of_nodes ns)
        ∙ ap₂ (λ (a b : List L). a ++ b)
        (openers_append (lines_of_elifs es) (else_line l ∷ []) ∙ append-nil (openers_in (lines_of_elifs es)) ∙ elifs_lines es) (openers_lines ns)

    elifs_lines : (es : Elifs L) → openers_in (lines_of_elifs es) ≡ openers_of_elifs es
    elifs_lines (first o ns) = ap (λ (ls : List L). o.line ∷ ls) (openers_lines ns)
    elifs_lines (elif es o ns) =
        openers_append (lines_of_elifs es ++ elif_line o ∷ []) (lines_of_nodes ns)
        ∙ ap₂ (λ (a b : List L). a ++ b)
        (openers_append (lines_of_elifs es) (elif_line o ∷ []) ∙ ap (λ (ls : List L). ls ++ o.line ∷ []) (elifs_lines es)) (openers_lines ns)

module _ {L : Type 0} where
  -- The folded nodes are pruned nodes.
  pub folded_is : (ns : Nodes L) → IsPruned ns (folded ns)
  folded_is ns = sym (printed-pruned ns)

  -- Nodes have one pruned tree.
  pub one_pruned : (ns : Nodes L) (ps qs : Nodes (Edited L)) → IsPruned ns ps → IsPruned ns qs → ps ≡ qs
  one_pruned ns ps qs h i = nodes_same ps qs (h ∙ sym i)

  -- Pruned nodes are the folded ones.
  pub is_folded : (ns : Nodes L) (ps : Nodes (Edited L)) → IsPruned ns ps → folded ns ≡ ps
  is_folded ns ps h = one_pruned ns (folded ns) ps (folded_is ns) h

  -- The openers among the lines of the output are those of the folded nodes.
  pub pruned_openers : (ns : Nodes L) → openers_in (pruned_lines ns) ≡ openers (folded ns)
  pruned_openers ns = ap (λ (xs : List (Item (Edited L))). openers_in xs) (printed-pruned ns) ∙ openers_lines (folded ns)
