-- The tree of an output under `-n` or `-b` is that of the output without them, with the inserted
-- lines.
use Rattle.std.proofs.Common.{◌≡◌, ℕ, List, [], ◌∷◌, ◌++◌, map, Bool, true, false, ◌||◌, refl, sym, ◌∙◌, ap, ap₂, subst, arith}
use Rattle.std.proofs.lemmas.List.{map-append}
use Rattle.ud_model.specs.text.Lines.{Line, lines_of}
use Rattle.ud_model.specs.text.Scans.{Reading}
use Rattle.ud_model.specs.sections.Tree.{Item, Nodes, Tree, closed, lines_of_nodes}
use Rattle.ud_model.specs.sections.Items.{Options, reading_of, line_of, item_of, mode_after, read_after, next_item}
use Rattle.ud_model.specs.answer.Outcomes.{Outcome, HasOutcome}
use Rattle.ud_model.specs.laws.Rereading.{NoneIgnores, IsPlain, IsTreeOf, AreRead, no_items, one_item}
use Rattle.ud_laws.specs.output.InsertedLines.{with_blank_renumber}
use Rattle.ud_model.specs.aids.ReadAs.{read_in, read_as}
use Rattle.ud_laws.specs.output.InsertedNodes.{IsInserted, NodesWithInserted}
use Rattle.ud_model.specs.declared.kind.Mode.{Mode}
use Rattle.ud_model.proofs.text.Pushes.{ByPush, none, push, by_push}
use Rattle.ud_model.proofs.sections.Exists.{reading_exists}
use Rattle.ud_model.proofs.sections.Soundness.{reading_of-item_of, read_lines, lines_with_next}
use Rattle.ud_model.proofs.output.Each.{Each, each_both}
use Rattle.ud_model.proofs.output.Heeding.{ReadIn, none_read, one_read, the_mode, Heeds, item_heeds, one_mode, are_read}
use Rattle.ud_laws.proofs.output.CountedText.{counted_text}
use Rattle.ud_laws.proofs.output.InsertedTree.{items, Inserted, strewn_counted, weave_inserted}
use Rattle.ud_model.proofs.text.ScanLaws.{read_more}

-- The readings of items are those from which they come.
pub readings_back : (o : Options) (rs : List Reading) → map reading_of (items o rs) ≡ rs
readings_back o [] = refl
readings_back o (r ∷ rs) = ap₂ (λ (q : Reading) (qs : List Reading). q ∷ qs) (reading_of-item_of o r) (readings_back o rs)

items_more : (o : Options) (m : Mode) (ls : List Line) (l : Line) →
    items o (read_in m (ls ++ l ∷ [])) ≡ items o (read_in m ls) ++ item_of o (read_after (items o (read_in m ls)) m l) ∷ []
items_more o m ls l = grind (arith, read_more, map-append, readings_back)

-- The items of lines are read so.
pub read_items : (o : Options) (m : Mode) (ls : List Line) → ByPush ls → ReadIn o m (items o (read_in m ls))
read_items o m _ none = none_read
read_items o m _ (push {xs = ls} l p) = grind (arith, items_more o m ls l, one_read (items o (read_in m ls)) (read_items o m ls p) l)

-- The items of lines are of these lines.
pub lines_back : (o : Options) (m : Mode) (ls : List Line) → ByPush ls → map line_of (items o (read_in m ls)) ≡ ls
lines_back o m _ none = refl
lines_back o m _ (push {xs = ls} l p) =
    ap (λ (xs : List (Item Reading)). map line_of xs) (items_more o m ls l)
    ∙ map-append line_of (items o (read_in m ls)) (item_of o (read_after (items o (read_in m ls)) m l) ∷ [])
    ∙ ap₂ (λ (ks : List Line) (r : Reading). ks ++ r.line ∷ []) (lines_back o m ls p) (reading_of-item_of o (read_after (items o (read_in m ls)) m l))

module _ (o : Options) (n : NoneIgnores o.table) where
  all_heed : {xs : List (Item Reading)} {t : Tree Reading} → AreRead o xs t → Each Heeds xs
  all_heed no_items = tt
  all_heed (one_item xs t a l u e) = each_both Heeds xs (next_item o xs t l ∷ []) (all_heed a) (item_heeds o (read_after xs (mode_after o t) l) n, tt)

  -- Items that were read are those of their lines.
  pub items_are : {xs : List (Item Reading)} {t : Tree Reading} → AreRead o xs t → xs ≡ items o (read_in (the_mode o) (map line_of xs))
  items_are no_items = refl
  items_are (one_item xs t a l u e) =
      grind (arith, one_mode, read_lines, all_heed, items_more, lines_with_next, items_are a)

-- The output's tree.
pub inserted_in_text : (o : Options) → IsPlain o → (b n : Bool) → (b || n) ≡ true → o.settings.unpadded ≡ false → (input : List ℕ) → {r s : Outcome} →
    HasOutcome o input r → HasOutcome (with_blank_renumber b n o) input s → (us : Nodes Reading) →
    IsTreeOf o r.output (closed us) → (vs : Nodes Reading) × IsTreeOf o s.output (closed vs) × NodesWithInserted IsInserted us vs
inserted_in_text o p b n some padded input {r = r} {s = s} run other us a = let m : Mode = the_mode o in
    let z = reading_exists o input in
    let c = counted_text o p b n some padded input z.3 run other in
    let zs : List (Item Reading) = items o (read_as m s.output) in
    let first : lines_of_nodes us ≡ items o (read_as m r.output) = cc (read_lines a.read, items_are o p.none_ignores a.read, a.are) in
    let w = weave_inserted us zs (subst (λ (ys : List (Item Reading)). Inserted ys zs) (sym first) (strewn_counted o c.1)) in (
      w.nodes,
      record {
        items = zs;
        read = are_read o p.none_ignores zs (read_items o m (lines_of s.output) (by_push (lines_of s.output))) (closed w.nodes) w.lines;
        are = sym (lines_back o m (lines_of s.output) (by_push (lines_of s.output)));
      },
      w.alike,
    )
