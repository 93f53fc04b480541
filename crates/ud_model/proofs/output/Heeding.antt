-- If no argument makes sections plain text, no section is ignoring, and every line is read in one
-- mode.
use Rattle.std.proofs.Common.{◌≡◌, ℕ, List, [], ◌∷◌, ◌++◌, Bool, false, ◌||◌, Option, Some, None, bytes_eq, if◌then◌else◌, refl, sym, ◌∙◌, ap, ap₂, subst, arith}
use Rattle.ud_model.specs.text.Lines.{Line}
use Rattle.ud_model.specs.text.Scans.{Reading}
use Rattle.ud_model.specs.sections.Directives.{Content, content_of}
use Rattle.ud_model.specs.conditions.Table.{Argument, Entry, entry_from}
use Rattle.ud_model.specs.sections.Tree.{Item, Elifs, Head, Tree, if_line, elif_line, else_line, nothing, first, elif, if_head, elif_head, else_head, closed, open_section, lines, lines_of_nodes, lines_of_elifs, lines_of_head, is_ignoring, opener_of_elifs, opener_of_head}
use Rattle.ud_model.specs.sections.Items.{Options, item_of, item_by, mode_by, mode_after, read_after, next_item}
use Rattle.ud_model.specs.sections.Faults.{AreFaultless, no_lines, one_more}
use Rattle.ud_model.specs.laws.Rereading.{NoneIgnores, AreRead, no_items, one_item}
use Rattle.ud_model.specs.declared.kind.Mode.{Mode}
use Rattle.ud_model.proofs.output.Each.{Each, each_parts, each_both}
use Rattle.ud_model.proofs.sections.Unique.{unique, tree_before}

-- The items, each of a line that is read in this mode after those before.
pub data ReadIn (o : Options) (m : Mode) : List (Item Reading) → Type 0 where
  none_read : ReadIn o m []
  one_read : (ys : List (Item Reading)) → ReadIn o m ys → (l : Line) → ReadIn o m (ys ++ item_of o (read_after ys m l) ∷ [])

-- The mode in which every line is read.
abbrev pub the_mode : Options → Mode
the_mode o = mode_by o.settings.plain

-- An opener isn't ignoring.
abbrev pub Heeds : Item Reading → Type 0
Heeds (if_line p) = p.ignoring ≡ false
Heeds (elif_line p) = p.ignoring ≡ false
Heeds _ = Unit {0}

abbrev Calm : Option Entry → Type 0
Calm None = Unit {0}
Calm (Some e) = e.ignoring ≡ false

calm_from : (earlier : Option Entry) (table : List Argument) (name : List ℕ) → Calm earlier → NoneIgnores table → Calm (entry_from earlier table name)
calm_from earlier [] name c n = c
calm_from earlier (a ∷ table) name c n =
    calm_from (if bytes_eq a.name name then Some a.entry else earlier) table name (grind (arith, n.0, c)) n.1

by_content : (o : Options) (r : Reading) (c : Content) → NoneIgnores o.table → Heeds (item_by o r c)
by_content o r c n = grind (arith, calm_from)

-- The opener of an item that was read so isn't ignoring.
pub item_heeds : (o : Options) (r : Reading) → NoneIgnores o.table → Heeds (item_of o r)
item_heeds o r n = by_content o r (content_of r.scan) n

elifs_heed : (es : Elifs Reading) → Each Heeds (lines_of_elifs es) → (opener_of_elifs es).ignoring ≡ false
elifs_heed (first o ns) h = h.0
elifs_heed (elif es o ns) h =
    elifs_heed es (each_parts Heeds (lines_of_elifs es) (elif_line o ∷ []) (each_parts Heeds (lines_of_elifs es ++ elif_line o ∷ []) (lines_of_nodes ns) h).0).0

head_heeds : (h : Head Reading) → Each Heeds (lines_of_head h) → (opener_of_head h).ignoring ≡ false
head_heeds (if_head o) e = e.0
head_heeds (elif_head es o) e = elifs_heed es (each_parts Heeds (lines_of_elifs es) (elif_line o ∷ []) e).0
head_heeds (else_head es l) e = elifs_heed es (each_parts Heeds (lines_of_elifs es) (else_line l ∷ []) e).0

-- No section is ignoring.
pub tree_heeds : (t : Tree Reading) → Each Heeds (lines t) → is_ignoring t ≡ false
tree_heeds (closed ns) e = refl
tree_heeds (open_section ns h t) e =
    let p = each_parts Heeds (lines_of_nodes ns ++ lines_of_head h) (lines t) e in
    ap₂ (λ (a b : Bool). a || b) (head_heeds h (each_parts Heeds (lines_of_nodes ns) (lines_of_head h) p.0).1) (tree_heeds t p.1)

module _ (o : Options) (n : NoneIgnores o.table) where
  -- After lines none of which is ignoring the mode is the one mode.
  pub one_mode : (xs : List (Item Reading)) (t : Tree Reading) → lines t ≡ xs → Each Heeds xs → mode_after o t ≡ the_mode o
  one_mode xs t e h = grind (arith, tree_heeds)

  all_heed : (m : Mode) (ys : List (Item Reading)) → ReadIn o m ys → Each Heeds ys
  all_heed m _ none_read = tt
  all_heed m _ (one_read ys r l) = each_both Heeds ys (item_of o (read_after ys m l) ∷ []) (all_heed m ys r) (item_heeds o (read_after ys m l) n, tt)

  -- No opener of faultless items is ignoring.
  pub sound_heed : (xs : List (Item Reading)) (t : Tree Reading) → AreFaultless o xs t → Each Heeds xs
  sound_heed _ _ no_lines = tt
  sound_heed _ _ (one_more xs t s l u e w) = each_both Heeds xs (next_item o xs t l ∷ []) (sound_heed xs t s) (item_heeds o (read_after xs (mode_after o t) l) n, tt)

  -- Items that are read in the one mode and have a tree are read in the modes of the lines before
  -- them.
  pub are_read : (ys : List (Item Reading)) → ReadIn o (the_mode o) ys → (t : Tree Reading) → lines t ≡ ys → AreRead o ys t
  are_read _ none_read t e = subst (AreRead o []) (sym (unique t (closed nothing) e)) no_items
  are_read _ (one_read ys r l) t e =
      let b = tree_before ys (item_of o (read_after ys (the_mode o) l)) t e in
      let m : mode_after o b.0 ≡ the_mode o = one_mode ys b.0 b.1 (all_heed (the_mode o) ys r) in
      let x = ap (λ (q : Mode). item_of o (read_after ys q l)) m in
      subst (λ (y : Item Reading). AreRead o (ys ++ y ∷ []) t) x
      (one_item ys b.0 (are_read ys r b.0 b.1) l t (e ∙ ap (λ (y : Item Reading). ys ++ y ∷ []) (sym x)))
