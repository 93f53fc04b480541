-- Inserted lines are text lines, so the tree stays as it is, with them.
use Rattle.std.proofs.Common.{◌≡◌, ℕ, List, [], ◌∷◌, ◌++◌, map, inl, inr, sym, ap, subst}
use Rattle.std.proofs.Common.{append-nil, arith}
use Rattle.std.proofs.lemmas.List.{map-append}
use Rattle.ud_model.specs.text.Scans.{Reading}
use Rattle.ud_model.specs.sections.Directives.{Content, text as text_content, content_of}
use Rattle.ud_model.specs.sections.Tree.{Item, Opener, Nodes, Groups, Elifs, text_line, if_line, elif_line, else_line, endif_line, lines_of_nodes}
use Rattle.ud_model.specs.sections.Items.{Options, item_of, item_by}
use Rattle.ud_model.specs.answer.Printing.{Judged}
use Rattle.ud_laws.specs.output.InsertedLines.{IsPrinted, Counted, no_line, goes, blanked, counts_on, starts_anew}
use Rattle.ud_laws.specs.output.InsertedNodes.{IsSame, IsSameOpener, IsInserted, NodesWithInserted, no_nodes, same_text, inserted_text, same_section, GroupsWithInserted, all_conditional, last_otherwise, ElifsWithInserted, same_first, same_elif}
use Rattle.ud_model.proofs.output.WovenTrees.{Woven, Strewn, none, same, put, strewn_both}
use Rattle.ud_model.proofs.output.WovenTrees.{weave_nodes}

-- 1. Items.

-- The items have the same part in sections, and their lines are scanned alike.
pub data ItemAlike : Item Reading → Item Reading → Type 0 where
  a_text : {r s : Reading} → IsSame r s → ItemAlike (text_line r) (text_line s)
  an_if : {o p : Opener Reading} → IsSameOpener o p → ItemAlike (if_line o) (if_line p)
  an_elif : {o p : Opener Reading} → IsSameOpener o p → ItemAlike (elif_line o) (elif_line p)
  an_else : {r s : Reading} → IsSame r s → ItemAlike (else_line r) (else_line s)
  an_endif : {r s : Reading} → IsSame r s → ItemAlike (endif_line r) (endif_line s)

-- The items with text lines inserted.
abbrev pub Inserted : List (Item Reading) → List (Item Reading) → Type 0
Inserted ys zs = Strewn ItemAlike IsInserted ys zs

inserted_both : {ys zs vs ws : List (Item Reading)} → Inserted ys zs → Inserted vs ws → Inserted (ys ++ vs) (zs ++ ws)
inserted_both a b = strewn_both ItemAlike IsInserted a b

pub alike_by : (o : Options) (r s : Reading) (c : Content) → IsSame r s →
    ItemAlike (item_by o r c) (item_by o s c)
alike_by o r s c h = grind (arith, a_text, an_if, an_elif, an_else, an_endif)

text_is : (d : Reading) → IsInserted d → content_of d.scan ≡ text_content
text_is d h = grind arith

pub put_item : (o : Options) (d : Reading) → IsInserted d → item_of o d ≡ text_line d
put_item o d k = ap (λ (c : Content). item_by o d c) (text_is d k)

put_one : (o : Options) (d : Reading) → IsInserted d → Inserted [] (item_of o d ∷ [])
put_one o d k = subst (λ (z : Item Reading). Inserted [] (z ∷ [])) (sym (put_item o d k)) (put k none)

same_one : (o : Options) (j : Judged) (r s : Reading) → IsPrinted j r s → Inserted (item_of o r ∷ []) (item_of o s ∷ [])
same_one o j r s k = same (grind (arith, alike_by)) none

abbrev pub items : Options → List Reading → List (Item Reading)
items o rs = map (λ r. item_of o r) rs

pub last_item : (o : Options) (rs : List Reading) (r : Reading) → items o (rs ++ r ∷ []) ≡ items o rs ++ item_of o r ∷ []
last_item o rs r = map-append (λ r. item_of o r) rs (r ∷ [])

-- Counted lines are such items.
pub strewn_counted : (o : Options) {js : List Judged} {rs ss : List Reading} {n : ℕ} → Counted js rs ss n → Inserted (items o rs) (items o ss)
strewn_counted o no_line = none
strewn_counted o (goes c j g) = strewn_counted o c
strewn_counted o (blanked {rs = rs} {ss = ss} j c g d k) =
    grind (arith, last_item o ss d, append-nil (items o rs), inserted_both (strewn_counted o c) (put_one o d (inl k)))
strewn_counted o (counts_on j c r s k) =
    grind (arith, last_item, inserted_both, same_one, strewn_counted o c)
strewn_counted o (starts_anew {rs = rs} {ss = ss} c j d q r s k) =
    subst (λ (ys : List (Item Reading)). Inserted ys (items o ((ss ++ d ∷ []) ++ s ∷ []))) (sym (last_item o rs r))
    (subst (λ (zs : List (Item Reading)). Inserted (items o rs ++ item_of o r ∷ []) zs) (sym (last_item o (ss ++ d ∷ []) s))
    (inserted_both
    (subst (λ (zs : List (Item Reading)). Inserted (items o rs) zs) (sym (last_item o ss d))
    (subst (λ (ys : List (Item Reading)). Inserted ys (items o ss ++ item_of o d ∷ [])) (append-nil (items o rs))
    (inserted_both (strewn_counted o c) (put_one o d (inr (j.line.number, q))))))
    (same_one o j r s k)))

-- 2. Nodes.

-- The nodes with blank lines and `#line`s inserted.
abbrev WithLines : Nodes Reading → Nodes Reading → Type 0
WithLines ns us = NodesWithInserted IsInserted ns us

abbrev GroupsWithLines : Groups Reading → Groups Reading → Type 0
GroupsWithLines gs hs = GroupsWithInserted IsInserted gs hs

abbrev ElifsWithLines : Elifs Reading → Elifs Reading → Type 0
ElifsWithLines es fs = ElifsWithInserted IsInserted es fs

-- So items with text lines inserted are nodes with text lines inserted.
pub weave_inserted : (ns : Nodes Reading) (zs : List (Item Reading)) → Inserted (lines_of_nodes ns) zs → Woven WithLines ns zs
weave_inserted ns zs s =
    weave_nodes ItemAlike IsInserted WithLines GroupsWithLines ElifsWithLines (record {
      nothing_goes = no_nodes;
      put_goes = λ ms us d k n. inserted_text n k;
      text_goes = λ r z h. grind (arith, same_text);
      endif_goes = λ r z h. grind (arith, same_section);
      groups_go = λ es fs e. all_conditional e;
      else_goes = λ r z h. grind (arith, last_otherwise);
      if_goes = λ r z h. grind (arith, same_first);
      elif_goes = λ r z h. grind (arith, same_elif);
    }) ns zs s
