-- The logical lines of a text without long directives have the nodes of its lines, and are processed
-- as these are.
use Rattle.std.proofs.Common.{rules, ◌&&◌, if◌then◌else◌, ◌≡◌, ℕ, List, [], ◌∷◌, ◌++◌, map, Bool}
use Rattle.std.proofs.Common.{true, false, refl, sym, ◌∙◌, ap, ap₂, subst, append-nil, arith}
use Rattle.std.proofs.lemmas.Bool.{or_parts}
use Rattle.std.proofs.lemmas.List.{map-append}
use Rattle.std.specs.List.{flat_map, list_any}
use Rattle.ud_model.specs.aids.SpacedBytes.{spaced}
use Rattle.ud_model.proofs.output.Each.{Each, each_parts}
use Rattle.ud_model.proofs.output.EachLines.{IsOf, from_items}
use Rattle.ud_simplified.proofs.FoldedReadings.{IsLogical, AreLogical, text_logical, all_there, has_directive, next_joined, logical_unnumbered, IsJoined, not_foldable}
use Rattle.ud_laws.proofs.output.InsertedText.{items_are}
use Rattle.ud_laws.proofs.output.LiveAnswers.{lines_with}
use Rattle.ud_laws.proofs.output.NodesAlike.{nothing_alike, text_alike, section_alike, conditional_alike, otherwise_alike, first_alike, elif_alike}
use Rattle.ud_laws.proofs.output.ProcessedAlike.{IsText, TextAlike, OpenerAlike, IsDoneAlike, GroupsDone, ElifsDone}
use Rattle.ud_model.proofs.output.PrunedTree.{nodes_same}
use Rattle.ud_model.proofs.sections.Soundness.{read_lines}
use Rattle.ud_model.specs.declared.kind.Mode.TheVariants.{C}
use Rattle.ud_simplified.specs.FoldedTexts.{is_directive, logical_lines, unnumbered, CLine, directive_line, other_lines, c_line_by, c_line, c_lines, c_line_in, folded_bytes, folded_line, folded_lines, folded_text, has_tab, is_foldable}
use Rattle.ud_model.specs.aids.ReadAs.{read_as}
use Rattle.ud_laws.specs.output.LogicalProcessing.{HasNoLong, is_long, unknown_opener, role_item}
use Rattle.ud_laws.specs.output.LogicalProcessing.{line_items, IsCTree, condition_of}
use Rattle.ud_laws.specs.output.LogicalProcessing.{over_logical_lines}
use Rattle.ud_model.specs.laws.WrittenConditions.{Condition, condition_on}
use Rattle.ud_laws.specs.output.Processing.{Preprocessor, over_readings}
use Rattle.ud_model.specs.laws.Pruned.{EachLine, GroupLines, ElifLines}
use Rattle.ud_model.specs.laws.Rereading.{IsPlainC, IsTreeOf}
use Rattle.ud_model.specs.sections.Directives.{cut_keyword, text as text_content, Content, directive, Directive, content_of, role_of}
use Rattle.ud_model.specs.sections.Items.{Options, item_of}
use Rattle.ud_model.specs.sections.Tree.{Item, Opener, Nodes, Groups, Elifs, text_line, nothing, text, section, conditional, otherwise, first, elif, closed, item_with, opener_with_line, with_lines, groups_with_lines, elifs_with_lines, if_line, elif_line, lines_of_nodes, lines_of_groups, lines_of_elifs}
use Rattle.ud_model.specs.text.Scans.{Scan, Reading, is_spanning}
use Rattle.ud_model.specs.text.Lines.{text_of, lines_of}
use Rattle.ud_model.proofs.text.Pushes.{by_push}
use Rattle.ud_model.proofs.output.Changed.{lines_join}
use Rattle.ud_simplified.proofs.SimplifiedLineTexts.{read_back_by}
use Rattle.std.specs.List.{concat}
use Rattle.std.proofs.lemmas.Grind.{flat_map-append, common_steps}

-- 1. Trees of which no condition is known.

module _ {L : Type 0} where
  abbrev unknown_item : Item L → Item L
  unknown_item (if_line o) = if_line (unknown_opener o.line)
  unknown_item (elif_line o) = elif_line (unknown_opener o.line)
  unknown_item x = x

  abbrev mutual
    pub unknown_nodes : Nodes L → Nodes L
    unknown_nodes nothing = nothing
    unknown_nodes (text ns l) = text (unknown_nodes ns) l
    unknown_nodes (section ns gs e) = section (unknown_nodes ns) (unknown_groups gs) e

    pub unknown_groups : Groups L → Groups L
    unknown_groups (conditional es) = conditional (unknown_elifs es)
    unknown_groups (otherwise es l ns) = otherwise (unknown_elifs es) l (unknown_nodes ns)

    pub unknown_elifs : Elifs L → Elifs L
    unknown_elifs (first o ns) = first (unknown_opener o.line) (unknown_nodes ns)
    unknown_elifs (elif es o ns) = elif (unknown_elifs es) (unknown_opener o.line) (unknown_nodes ns)

  mutual
    lines_unknown : (ns : Nodes L) → lines_of_nodes (unknown_nodes ns) ≡ map unknown_item (lines_of_nodes ns)
    lines_unknown nothing = refl
    lines_unknown (text ns l) = grind (arith, map-append, lines_unknown ns)
    lines_unknown (section ns gs e) = grind (arith, map-append, lines_unknown ns, groups_lines_unknown gs)

    groups_lines_unknown : (gs : Groups L) → lines_of_groups (unknown_groups gs) ≡ map unknown_item (lines_of_groups gs)
    groups_lines_unknown (conditional es) = elifs_lines_unknown es
    groups_lines_unknown (otherwise es l ns) = grind (arith, map-append, elifs_lines_unknown es, lines_unknown ns)

    elifs_lines_unknown : (es : Elifs L) → lines_of_elifs (unknown_elifs es) ≡ map unknown_item (lines_of_elifs es)
    elifs_lines_unknown (first o ns) = ap (λ (xs : List (Item L)). if_line (unknown_opener o.line) ∷ xs) (lines_unknown ns)
    elifs_lines_unknown (elif es o ns) = grind (arith, map-append, elifs_lines_unknown es, lines_unknown ns)

-- 2. The items of logical lines.

abbrev item_as : {L : Type 0} → Content → L → Item L
item_as (directive d) l = role_item (role_of d.kind) l
item_as cut_keyword l = text_line l
item_as text_content l = text_line l

abbrev IsTextLine : Reading → Type 0
IsTextLine r = is_directive (content_of r.scan) ≡ false

abbrev pub NotLong : Reading → Type 0
NotLong r = is_long r ≡ false

no_directive : (all rs : List Reading) → Each IsTextLine rs → c_line_in all rs ≡ other_lines all
no_directive all [] h = refl
no_directive all (r ∷ rs) h = (grind (arith, h.0)) ∙ no_directive all rs h.1

later_texts : (rs : List Reading) → Each IsJoined rs → Each NotLong rs → Each IsTextLine rs
later_texts [] j n = tt
later_texts (r ∷ rs) j n = (grind (arith, j.0, n.0), later_texts rs j.1 n.1)

none_long : (rs ss : List Reading) → map unnumbered rs ≡ map unnumbered ss → list_any is_long rs ≡ false → Each NotLong ss
none_long rs [] e h = tt
none_long [] (s ∷ ss) e h = cc
none_long (r ∷ rs) (s ∷ ss) e h = let same : unnumbered r ≡ unnumbered s = cc in
    let more : map unnumbered rs ≡ map unnumbered ss = cc in
    let p = or_parts (is_long r) (list_any is_long rs) h in
    (ap is_long (sym same) ∙ p.0, none_long rs ss more p.1)

-- A line as a logical line of its own.
abbrev pub c_one : Reading → CLine
c_one r = c_line (unnumbered r ∷ [])

abbrev c_item : Reading → Item CLine
c_item r = item_as (content_of r.scan) (c_one r)

line_of_directive : (c : Content) (d : Directive) (other : CLine) → c ≡ directive d → c_line_by c [] other ≡ directive_line d.kind (spaced true (d.after ++ []))
line_of_directive c d other e = ap (λ (x : Content). c_line_by x [] other) e

one_text : (r : Reading) → IsTextLine r → text_line (other_lines (unnumbered r ∷ [])) ≡ c_item r
one_text r e = grind arith

text_items : (rs : List Reading) → Each IsTextLine rs → map (λ (r : Reading). text_line (other_lines (r ∷ []))) (map unnumbered rs) ≡ map c_item rs
text_items [] h = refl
text_items (r ∷ rs) h = ap₂ (λ (x : Item CLine) (xs : List (Item CLine)). x ∷ xs) (one_text r h.0) (text_items rs h.1)

unnumbered_texts : (rs : List Reading) → Each IsTextLine rs → Each IsTextLine (map unnumbered rs)
unnumbered_texts [] h = tt
unnumbered_texts (r ∷ rs) h = (h.0, unnumbered_texts rs h.1)

alone : (r : Reading) (rs : List Reading) (d : Directive) → content_of r.scan ≡ directive d → IsLogical (r ∷ rs) → NotLong r → line_items (c_line (map unnumbered (r ∷ rs))) ≡ map c_item (r ∷ rs)
alone r [] d e i n = grind (arith, line_of_directive, e)
alone r (s ∷ rs) d e i n = grind (arith, common_steps, next_joined)

group_items : (g : List Reading) → IsLogical g → Each NotLong g → line_items (c_line (map unnumbered g)) ≡ map c_item g
group_items [] i n = absurd i.one
group_items (r ∷ rs) i n = by (is_directive (content_of r.scan)) refl
  where
    by : (t : Bool) → is_directive (content_of r.scan) ≡ t → line_items (c_line (map unnumbered (r ∷ rs))) ≡ map c_item (r ∷ rs)
    by true p = let d = has_directive (content_of r.scan) p in alone r rs d.0 d.1 i n.0
    by false p = let h : Each IsTextLine (r ∷ rs) = (p, later_texts rs i.one.1 n.1) in
        ap line_items (no_directive (map unnumbered (r ∷ rs)) (map unnumbered (r ∷ rs)) (unnumbered_texts (r ∷ rs) h)) ∙ text_items (r ∷ rs) h

groups_items : (gs : List (List Reading)) → AreLogical gs → Each NotLong (flat_map (λ (g : List Reading). g) gs) →
    flat_map line_items (map c_line (map (map unnumbered) gs)) ≡ map c_item (flat_map (λ (g : List Reading). g) gs)
groups_items [] a n = refl
groups_items (g ∷ gs) a n = let m = each_parts NotLong g (flat_map (λ (g : List Reading). g) gs) n in
    ap₂ (λ (xs ys : List (Item CLine)). xs ++ ys) (group_items g a.0 m.0) (groups_items gs a.2 m.1) ∙ sym (map-append c_item g (flat_map (λ (g : List Reading). g) gs))

-- The logical lines of a text without long directives are its lines.
text_lines : (bytes : List ℕ) → HasNoLong bytes → flat_map line_items (c_lines bytes) ≡ map c_item (read_as C bytes)
text_lines bytes h =
    search (rules, logical_unnumbered, groups_items, text_logical, none_long, all_there)

-- 3. Nodes.

abbrev pub c_nodes : Nodes Reading → Nodes CLine
c_nodes ns = with_lines c_one (unknown_nodes ns)

-- The opener is on one line.
abbrev pub IsShort : Opener Reading → Type 0
IsShort o = NotLong o.line

abbrev pub LinesShort : Nodes Reading → Type 0
LinesShort ns = EachLine IsText IsShort ns

module _ (o : Options) (p : IsPlainC o) where
  items_there : (rs : List Reading) → map (item_with c_one) (map unknown_item (map (item_of o) rs)) ≡ map c_item rs
  items_there [] = refl
  items_there (r ∷ rs) =
      ap₂ (λ (x : Item CLine) (xs : List (Item CLine)). x ∷ xs) (grind arith) (items_there rs)

  -- The nodes of the logical lines.
  pub c_nodes_of : (bytes : List ℕ) → HasNoLong bytes → (ns : Nodes Reading) → IsTreeOf o bytes (closed ns) → IsCTree bytes (c_nodes ns)
  c_nodes_of bytes h ns t =
      lines_with c_one (unknown_nodes ns) ∙ ap (map (item_with c_one)) (lines_unknown ns ∙ ap (map unknown_item) (grind (arith, read_lines, items_are))) ∙ items_there (read_as C bytes) ∙ sym (text_lines bytes h)

  pub c_nodes_are : (bytes : List ℕ) → HasNoLong bytes → (ns : Nodes Reading) → IsTreeOf o bytes (closed ns) → (us : Nodes CLine) → IsCTree bytes us → us ≡ c_nodes ns
  c_nodes_are bytes h ns t us i = nodes_same us (c_nodes ns) (i ∙ sym (c_nodes_of bytes h ns t))

  items_short : (rs : List Reading) → Each NotLong rs → Each (IsOf IsText IsShort) (map (item_of o) rs)
  items_short [] h = tt
  items_short (r ∷ rs) h = (grind arith, items_short rs h.1)

  -- Its lines are short.
  pub lines_short : (bytes : List ℕ) → HasNoLong bytes → (ns : Nodes Reading) → IsTreeOf o bytes (closed ns) → LinesShort ns
  lines_short bytes h ns t = from_items IsText IsShort ns
      (subst (Each (IsOf IsText IsShort)) (sym (grind (arith, read_lines, items_are))) (items_short (read_as C bytes) (none_long (read_as C bytes) (read_as C bytes) refl h)))

-- 4. They are processed alike.

ends_here : (scan : Scan) → (true && is_spanning scan) ≡ false → scan.joins_after ≡ false
ends_here scan h = (or_parts scan.joins_before scan.joins_after h).1

-- The condition of the line is that of the logical line.
condition_is : (r : Reading) → NotLong r → condition_on r ≡ condition_of (c_one r)
condition_is r h = grind (arith, append-nil, ends_here)

text_one : (r : Reading) → IsText r → c_one r ≡ other_lines (unnumbered r ∷ [])
text_one r h = grind arith

module _ {S F : Type 0} (takes : S → List ℕ → Scan → S → Type 0) (enters : S → List ℕ → Scan → F → S → Type 0) (leaves : S → S → Type 0) (decides : S → Condition → Bool → S → Type 0) where
  -- The preprocessor over lines that were read.
  abbrev pub by_lines : Preprocessor S F Reading
  by_lines = over_readings takes enters leaves decides

  -- The preprocessor over logical lines.
  abbrev pub by_logical : Preprocessor S F CLine
  by_logical = over_logical_lines takes enters leaves decides

  -- It does at each what the other one does.
  pub record Both (ns : Nodes Reading) (us : Nodes CLine) : Type 0 where
    pub to : IsDoneAlike by_lines by_logical ns us
    pub back : IsDoneAlike by_logical by_lines us ns

  pub record BothGroups (gs : Groups Reading) (hs : Groups CLine) : Type 0 where
    pub to : GroupsDone by_lines by_logical gs hs
    pub back : GroupsDone by_logical by_lines hs gs

  pub record BothElifs (es : Elifs Reading) (fs : Elifs CLine) : Type 0 where
    pub to : ElifsDone by_lines by_logical es fs
    pub back : ElifsDone by_logical by_lines fs es

  text_to : (r : Reading) → IsText r → TextAlike by_lines by_logical r (c_one r)
  text_to r h = grind (arith, text_one)

  text_back : (r : Reading) → IsText r → TextAlike by_logical by_lines (c_one r) r
  text_back r h = grind (arith, text_one)

  opener_to : (o : Opener Reading) → IsShort o → OpenerAlike by_lines by_logical o (opener_with_line c_one (unknown_opener o.line))
  opener_to o h s b t d = subst (λ (c : Condition). decides s c b t) (condition_is o.line h) d

  opener_back : (o : Opener Reading) → IsShort o → OpenerAlike by_logical by_lines (opener_with_line c_one (unknown_opener o.line)) o
  opener_back o h s b t d = subst (λ (c : Condition). decides s c b t) (sym (condition_is o.line h)) d

  mutual
    pub nodes_both : (ns : Nodes Reading) → LinesShort ns → Both ns (c_nodes ns)
    nodes_both nothing h = record { to = nothing_alike; back = nothing_alike }
    nodes_both (text ns r) h = let b = nodes_both ns h.0 in
        record { to = text_alike b.to (text_to r h.1); back = text_alike b.back (text_back r h.1) }
    nodes_both (section ns gs e) h = let b = nodes_both ns h.0 in let c = groups_both gs h.1 in
        record { to = section_alike b.to c.to; back = section_alike b.back c.back }

    groups_both : (gs : Groups Reading) → GroupLines IsText IsShort gs → BothGroups gs (groups_with_lines c_one (unknown_groups gs))
    groups_both (conditional es) h = let b = elifs_both es h in record { to = conditional_alike b.to; back = conditional_alike b.back }
    groups_both (otherwise es l ns) h = let b = elifs_both es h.0 in let c = nodes_both ns h.1 in
        record { to = otherwise_alike b.to c.to; back = otherwise_alike b.back c.back }

    elifs_both : (es : Elifs Reading) → ElifLines IsText IsShort es → BothElifs es (elifs_with_lines c_one (unknown_elifs es))
    elifs_both (first o ns) h = let b = nodes_both ns h.1 in record {
      to = first_alike (opener_to o h.0) b.to;
      back = first_alike (opener_back o h.0) b.back;
    }
    elifs_both (elif es o ns) h = let a = elifs_both es h.0 in let b = nodes_both ns h.2 in record {
      to = elif_alike a.to (opener_to o h.1) b.to;
      back = elif_alike a.back (opener_back o h.1) b.back;
    }

-- 5. Such a text is its own folded text.

abbrev plain : List Reading → List ℕ
plain rs = flat_map (λ (r : Reading). text_of r.line) rs

no_directive_on : (r : Reading) → NotLong r → r.scan.joins_after ≡ true → is_directive (content_of r.scan) ≡ false
no_directive_on r n j = grind (arith, n, j)

group_stays : (g : List Reading) → IsLogical g → Each NotLong g → folded_bytes g ≡ plain g
group_stays [] i n = absurd i.one
group_stays (r ∷ []) i n = by (is_foldable (r ∷ []))
  where
    by : (b : Bool) → (if b then text_of (folded_line (r ∷ [])) else plain (r ∷ [])) ≡ plain (r ∷ [])
    by b = grind (arith, append-nil)
group_stays (r ∷ s ∷ rs) i n = grind (arith, common_steps, not_foldable, no_directive_on, next_joined)

groups_stay : (gs : List (List Reading)) → AreLogical gs → Each NotLong (flat_map (λ (g : List Reading). g) gs) →
    flat_map folded_bytes gs ≡ plain (flat_map (λ (g : List Reading). g) gs)
groups_stay [] a n = refl
groups_stay (g ∷ gs) a n = let m = each_parts NotLong g (flat_map (λ (g : List Reading). g) gs) n in
    ap₂ (λ (xs ys : List ℕ). xs ++ ys) (group_stays g a.0 m.0) (groups_stay gs a.2 m.1)
    ∙ sym (flat_map-append (λ (r : Reading). text_of r.line) g (flat_map (λ (g : List Reading). g) gs))

line_texts : (rs : List Reading) → plain rs ≡ concat (map text_of (map (λ (r : Reading). r.line) rs))
line_texts [] = refl
line_texts (r ∷ rs) = ap (λ (t : List ℕ). text_of r.line ++ t) (line_texts rs)

-- A text without long directives is its own folded text.
pub stays_folded : (bytes : List ℕ) → HasNoLong bytes → folded_text bytes ≡ bytes
stays_folded bytes h = by (has_tab bytes)
  where
    by : (b : Bool) → (if b then bytes else folded_lines (read_as C bytes)) ≡ bytes
    by true = refl
    by false = groups_stay (logical_lines (read_as C bytes)) (text_logical bytes)
        (none_long (read_as C bytes) (flat_map (λ (g : List Reading). g) (logical_lines (read_as C bytes))) (ap (map unnumbered) (sym (all_there bytes))) h)
        ∙ ap plain (all_there bytes)
        ∙ line_texts (read_as C bytes)
        ∙ ap (λ ls. concat (map text_of ls)) (read_back_by [] (record { constants = false; strict = false }) (by_push (lines_of bytes)))
        ∙ lines_join bytes
