-- The tree of a simplified text is that of the text, with simplified openers.
use Rattle.std.proofs.Common.{◌≡◌, ℕ, List, false, refl, sym, ◌∙◌, ap, subst, arith}
use Rattle.ud_model.specs.text.Lines.{Line, lines_of}
use Rattle.ud_model.specs.text.Scans.{Reading}
use Rattle.ud_model.specs.sections.Tree.{Item, Opener, Nodes, Groups, Elifs, closed, text_line, if_line, elif_line, else_line, endif_line, lines_of_nodes}
use Rattle.ud_model.specs.sections.Items.{Options, rules_of, mode_by, item_of, item_by, directive_item}
use Rattle.ud_model.specs.laws.Rereading.{NoneIgnores, IsTreeOf}
use Rattle.ud_model.specs.aids.ReadAs.{read_in}
use Rattle.ud_laws.proofs.output.NodesAlike.{NodesAlike, nothing_alike, text_alike, section_alike, GroupsAlike, conditional_alike, otherwise_alike, ElifsAlike, first_alike, elif_alike}
use Rattle.ud_simplified.specs.SimplifiedTexts.{simplified_text}
use Rattle.ud_model.specs.declared.kind.Mode.{Mode}
use Rattle.ud_model.specs.declared.kind.Mode.TheVariants.{C}
use Rattle.ud_model.proofs.text.Pushes.{by_push}
use Rattle.ud_model.proofs.sections.Soundness.{read_lines}
use Rattle.ud_model.proofs.output.Heeding.{ReadIn, the_mode, are_read}
use Rattle.ud_laws.proofs.output.InsertedTree.{items}
use Rattle.ud_laws.proofs.output.InsertedText.{read_items, lines_back, items_are}
use Rattle.ud_model.proofs.output.Each.{Pairs, no_pair, pair}
use Rattle.ud_model.proofs.output.WovenTrees.{Woven, IfGoes, ElifGoes, strewn_pairs, weave_nodes}
use Rattle.ud_simplified.proofs.SimplifiedReadings.{left_lines, readings_simplified, ReadingSimplified, reading_stays, reading_edited}
use Rattle.ud_laws.proofs.output.SimplifiedConditions.{LineSimplified, condition_stays, line_simplified}
use Rattle.ud_model.specs.sections.Directives.{Content, directive, Directive, content_of, role_of}
use Rattle.ud_model.specs.conditions.Conditions.{Decision, decision_on}
use Rattle.ud_model.specs.declared.kind.Kind.{Kind}
use Rattle.ud_simplified.proofs.SimplifiedLines.{SameKind, both_if, both_elif, both_else, both_endif}

-- A simplified text has the items of the text, line for line, with the residuals of their
-- conditions.

module _ (o : Options) where
  abbrev Simplified : Reading → Reading → Type 0
  Simplified l k = LineSimplified o.table (rules_of o.settings) l k

  -- The items have the same part in sections, and the same condition or its residual.
  pub data ItemSimplified : Item Reading → Item Reading → Type 0 where
    a_text : {r : Reading} → ItemSimplified (text_line r) (text_line r)
    an_if : {p q : Opener Reading} → Simplified p.line q.line → ItemSimplified (if_line p) (if_line q)
    an_elif : {p q : Opener Reading} → Simplified p.line q.line → ItemSimplified (elif_line p) (elif_line q)
    an_else : {r s : Reading} → ItemSimplified (else_line r) (else_line s)
    an_endif : {r s : Reading} → ItemSimplified (endif_line r) (endif_line s)

  same_item : (x : Item Reading) → ItemSimplified x x
  same_item (text_line r) = a_text
  same_item (if_line p) = an_if (condition_stays refl)
  same_item (elif_line p) = an_elif (condition_stays refl)
  same_item (else_line r) = an_else
  same_item (endif_line r) = an_endif

  by_kind : (r s : Reading) {j k : Kind} (d e : Decision) → SameKind j k → Simplified r s → ItemSimplified (directive_item r (role_of j) d) (directive_item s (role_of k) e)
  by_kind r s d e both_if g = an_if g
  by_kind r s d e both_elif g = an_elif g
  by_kind r s d e both_else g = an_else
  by_kind r s d e both_endif g = an_endif

  edited_item : (r s : Reading) (d e : Directive) → content_of r.scan ≡ directive d → content_of s.scan ≡ directive e →
      SameKind d.kind e.kind → Simplified r s → ItemSimplified (item_of o r) (item_of o s)
  edited_item r s d e p q i j = subst (λ (c : Content). ItemSimplified (item_by o r c) (item_of o s)) (sym p)
      (subst (λ (c : Content). ItemSimplified (directive_item r (role_of d.kind) (decision_on r.scan d o.table (rules_of o.settings))) (item_by o s c)) (sym q)
      (by_kind r s (decision_on r.scan d o.table (rules_of o.settings)) (decision_on s.scan e o.table (rules_of o.settings)) i j))

  item_simplified : (r s : Reading) → ReadingSimplified o.table (rules_of o.settings) r s → ItemSimplified (item_of o r) (item_of o s)
  item_simplified r s (reading_stays e q h) = subst (λ (x : Reading). ItemSimplified (item_of o r) (item_of o x)) (sym q) (same_item (item_of o r))
  item_simplified r s (reading_edited d i) =
      edited_item r s d i.edited.now i.edited.has (ap content_of i.after ∙ i.edited.has_now) i.edited.kind (line_simplified o.table (rules_of o.settings) r s d i.edited i.before i.after)

  -- The items of both texts.
  pub items_simplified : {rs ss : List Reading} → Pairs (ReadingSimplified o.table (rules_of o.settings)) rs ss → Pairs ItemSimplified (items o rs) (items o ss)
  items_simplified no_pair = no_pair
  items_simplified (pair {x = r} {y = s} i p) = pair (item_simplified r s i) (items_simplified p)

-- 1. Nodes.

module _ (o : Options) where
  -- The line stays.
  abbrev pub IsSame : Reading → Reading → Type 0
  IsSame r s = r ≡ s

  abbrev pub OpenerLeft : Opener Reading → Opener Reading → Type 0
  OpenerLeft p q = LineSimplified o.table (rules_of o.settings) p.line q.line

  -- The tree with simplified openers.
  abbrev pub Like : Nodes Reading → Nodes Reading → Type 0
  Like ns us = NodesAlike IsSame OpenerLeft ns us

  abbrev pub GroupsLike : Groups Reading → Groups Reading → Type 0
  GroupsLike gs hs = GroupsAlike IsSame OpenerLeft gs hs

  abbrev pub ElifsLike : Elifs Reading → Elifs Reading → Type 0
  ElifsLike es fs = ElifsAlike IsSame OpenerLeft es fs

  if_goes : (p : Opener Reading) (z : Item Reading) → ItemSimplified o (if_line p) z → IfGoes Like GroupsLike ElifsLike p z
  if_goes p _ (an_if {q = q} k) = (q, refl, λ ns us n. first_alike k n)

  elif_goes : (p : Opener Reading) (z : Item Reading) → ItemSimplified o (elif_line p) z → ElifGoes Like GroupsLike ElifsLike p z
  elif_goes p _ (an_elif {q = q} k) = (q, refl, λ es fs ns us e n. elif_alike e k n)

  weave : (ns : Nodes Reading) (zs : List (Item Reading)) → Pairs (ItemSimplified o) (lines_of_nodes ns) zs → Woven Like ns zs
  weave ns zs s =
      weave_nodes (ItemSimplified o) (λ r. ⊥) Like GroupsLike ElifsLike (record {
        nothing_goes = nothing_alike;
        put_goes = λ ns us d k n. absurd k;
        text_goes = λ r z h. grind (arith, text_alike);
        endif_goes = λ r z h. grind (arith, section_alike);
        groups_go = λ es fs e. conditional_alike e;
        else_goes = λ r z h. grind (arith, otherwise_alike);
        if_goes = if_goes;
        elif_goes = elif_goes;
      }) ns zs (strewn_pairs (ItemSimplified o) (λ r. ⊥) s)

  -- 2. The text.

  -- The simplified text has the tree of the text.
  pub simplified_tree : NoneIgnores o.table → o.settings.plain ≡ false → (bytes : List ℕ) (ns : Nodes Reading) → IsTreeOf o bytes (closed ns) →
      lines_of (simplified_text o.table (rules_of o.settings) bytes) ≡ left_lines o.table (rules_of o.settings) (lines_of bytes) →
      (us : Nodes Reading) × IsTreeOf o (simplified_text o.table (rules_of o.settings) bytes) (closed us) × Like ns us
  simplified_tree n c bytes ns i e = let m : the_mode o ≡ C = ap mode_by c in
      let ls : List Line = lines_of bytes in
      let ks : List Line = left_lines o.table (rules_of o.settings) ls in
      let zs : List (Item Reading) = items o (read_in C ks) in
      let here : lines_of_nodes ns ≡ items o (read_in C ls) = cc (read_lines i.read, items_are o n i.read, m, i.are) in
      let w : Woven Like ns zs = grind (arith, weave, items_simplified, readings_simplified) in (
        w.nodes,
        record {
          items = zs;
          read = are_read o n zs (subst (λ (q : Mode). ReadIn o q zs) (sym m) (read_items o C ks (by_push ks))) (closed w.nodes) w.lines;
          are = e ∙ sym (lines_back o C ks (by_push ks));
        },
        w.alike,
      )
