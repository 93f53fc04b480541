-- Texts without a symbol's name: unless constants are decided, nothing of them is pruned, and a run
-- copies them. So it is with their folded texts.
use Rattle.std.proofs.Common.{◌≡◌, ℕ, suc, List, [], ◌∷◌, ◌++◌, ◌-◌, length, map, take, drop, take-append-drop, Bool, true, false, not, ◌||◌, if◌then◌else◌, None, refl, sym, ◌∙◌, ap, ap₂, subst, arith, append_assoc, append-nil}
use Rattle.std.specs.List.{concat, flat_map}
use Rattle.std.proofs.lemmas.Bool.{and_parts, or_parts}
use Rattle.std.proofs.lemmas.List.{map-append}
use Rattle.std.proofs.lemmas.Simd.{map-map}
use Rattle.std.proofs.lemmas.Slice.Eq.{bytes_eq-Decides}
use Rattle.ud_model.specs.text.Bytes.{is_word_byte, are_word_bytes, leading_word}
use Rattle.ud_model.specs.text.Lines.{Line, text_of, line_at, numbered_from, texts_of, lines_of}
use Rattle.ud_model.specs.text.Lexemes.{LexemeKind, block_comment, line_comment, literal, single, Cell, shown, shown_as}
use Rattle.ud_model.specs.text.Splicing.{is_spliced, content, c_run_of, spliced_text, spliced_part}
use Rattle.ud_model.specs.text.Scans.{Scan, Reading}
use Rattle.ud_model.specs.text.Lexemes.{kind_at_end}
use Rattle.ud_model.specs.text.Scanning.{is_block, content_cells, scan_after, next_reading, readings_after}
use Rattle.ud_model.specs.aids.ReadAs.{in_mode, read_in, read_as}
use Rattle.ud_model.specs.declared.kind.Mode.{Mode}
use Rattle.ud_model.specs.declared.kind.Mode.TheVariants.{C}
use Rattle.ud_model.specs.declared.kind.Role.{Role}
use Rattle.ud_model.specs.declared.kind.Role.TheVariants.{IfGroup, ElifGroup, ElseGroup, EndifLine}
use Rattle.ud_model.specs.sections.Directives.{Directive, Content, directive, text, cut_keyword, content_of, is_outside, role_of}
use Rattle.ud_model.specs.sections.Tree.{Item, Nodes, Tree, closed, open_section, innermost}
use Rattle.ud_model.specs.sections.Pruning.{marks}
use Rattle.ud_model.specs.sections.Items.{Options, rules_of, directive_item, item_by, item_of, reading_of, line_of, mode_by, mode_after, read_after, next_item}
use Rattle.ud_model.specs.sections.Faults.{AreFaultless, no_lines, one_more, ends_in_comment, last_number}
use Rattle.ud_model.specs.conditions.Table.{Argument, entry_in}
use Rattle.ud_model.specs.conditions.Conditions.{Rules, Decision, undecided, decision_on}
use Rattle.ud_model.specs.answer.Printing.{Judged, judged_lines, piece_after, pieces_by, style_of}
use Rattle.ud_model.specs.answer.Outcomes.{Outcome, HasOutcome, ran_as, HasNoFault, output_by}
use Rattle.ud_model.specs.answer.Outcomes.ReadsAs.{stops, ends}
use Rattle.ud_model.specs.laws.Pruned.{IsUndecided, IsUnknown, Any}
use Rattle.ud_model.specs.declared.settings.Listing.{Listing}
use Rattle.ud_model.specs.declared.settings.Listing.TheVariants.{Off}
use Rattle.ud_model.proofs.text.ByteLemmas.{leading_word-word}
use Rattle.ud_model.proofs.text.LinesLemmas.{lines_exist, text_of-line_at}
use Rattle.ud_model.proofs.text.ScanBytes.{bytes-content_cells, masked-content_cells, content-prefix}
use Rattle.ud_model.proofs.text.ScanLaws.{joins_after-code, read_more}
use Rattle.ud_model.proofs.text.ScanLemmas.{joins_last}
use Rattle.ud_model.proofs.sections.Soundness.{reading_of-item_of, sound_lines, lines_with_next}
use Rattle.ud_model.proofs.sections.Stays.{length_marks}
use Rattle.ud_model.proofs.output.Changed.{lines_join, changed, lone, pieces_lone, whole_lines_are, no_innermost, end_parts}
use Rattle.ud_model.proofs.output.DirectiveFront.{directive_front}
use Rattle.ud_model.proofs.output.Each.{Each, each_parts, each_both}
use Rattle.ud_model.proofs.output.EachLines.{IsOf, from_items}
use Rattle.ud_model.proofs.output.Heeding.{Heeds, tree_heeds}
use Rattle.ud_model.proofs.output.Sizes.{whole}
use Rattle.ud_model.proofs.output.RereadLaws.{whole_pieces}
use Rattle.ud_model.proofs.output.Undecided.{undecided_stay}
use Rattle.ud_simplified.specs.FoldedTexts.{has_tab, folded_body, folded_line, is_foldable, logical_lines, folded_lines, folded_text, folded_readings, unnumbered}
use Rattle.ud_simplified.specs.SimplifiedTexts.{keyword_end, text_cells, left_line, may_change, line_by, simplified_line}
use Rattle.ud_simplified.proofs.SimplifiedLines.{text_bytes}
use Rattle.ud_simplified.proofs.FoldedReadings.{all_there, readings_folded}
use Rattle.ud_cond.specs.symbols.SymbolTable.{LacksNames}
use Rattle.ud_passes.specs.Passes.{fits}
use Rattle.ud_passes.specs.pruning.PrunedTexts.{pruned_line, pruned_bytes, pruned_text, edited_among, edited_count}
use Rattle.ud_passes.proofs.RestoreLemmas.{lines_read}
use Rattle.ud_replace.proofs.UnnamedConditions.{Unnamed, last_unnamed, decision_none, simplified_whole}

-- 1. The masked bytes of a line.

-- A word byte is shown as it is.
word_shown : (k : LexemeKind) (b : ℕ) → is_word_byte (shown_as k b) ≡ true → b ≡ shown_as k b
word_shown block_comment b w = absurd cc
word_shown line_comment b w = absurd cc
word_shown literal b w = refl
word_shown single b w = refl

-- So the first word of masked bytes is a part of the bytes.
kept : (cells : List Cell) (rest : List ℕ) → (after : List ℕ) × (map (λ (c : Cell). c.byte) cells ++ rest ≡ leading_word (map shown cells) ++ after)
kept [] rest = (rest, refl)
kept (c ∷ cells) rest = by (is_word_byte (shown c)) refl (kept cells rest)
  where
    by : (w : Bool) → is_word_byte (shown c) ≡ w → (after : List ℕ) × (map (λ (c : Cell). c.byte) cells ++ rest ≡ leading_word (map shown cells) ++ after) →
        (after : List ℕ) × (c.byte ∷ (map (λ (c : Cell). c.byte) cells ++ rest) ≡ (if w then shown c ∷ leading_word (map shown cells) else []) ++ after)
    by true w (after, e) = (after, ap₂ (λ (y : ℕ) (l : List ℕ). y ∷ l) (word_shown c.kind c.byte w) e)
    by false w more = (c.byte ∷ (map (λ (c : Cell). c.byte) cells ++ rest), refl)

-- Word bytes before another byte come from the bytes before it.
word_in : (name after xs more : List ℕ) (c : ℕ) → are_word_bytes name ≡ true → is_word_byte c ≡ false → name ++ after ≡ xs ++ c ∷ more → (rest : List ℕ) × (xs ≡ name ++ rest)
word_in [] after xs more c w e q = (xs, refl)
word_in (b ∷ name) after [] more c w e q = let f : b ≡ c = cc in absurd (cc ((and_parts (is_word_byte b) (are_word_bytes name) w).0, ap is_word_byte f, e))
word_in (b ∷ name) after (x ∷ xs) more c w e q = let f : b ≡ x = cc in
    let r = word_in name after xs more c (and_parts (is_word_byte b) (are_word_bytes name) w).1 e cc in
    (r.0, ap₂ (λ (y : ℕ) (l : List ℕ). y ∷ l) (sym f) r.1)

module _ (table : List Argument) where
  -- No word bytes of the text are a name.
  abbrev pub LacksWords : List ℕ → Type 0
  LacksWords t = (before name after : List ℕ) → t ≡ before ++ (name ++ after) → are_word_bytes name ≡ true → entry_in table name ≡ None

  prefix_lacks : (xs more : List ℕ) → LacksWords (xs ++ more) → LacksWords xs
  prefix_lacks xs more h = λ p n s e. h p n (s ++ more) (ap (λ (l : List ℕ). l ++ more) e ∙ append_assoc p (n ++ s) more ∙ ap (λ (l : List ℕ). p ++ l) (append_assoc n s more))

  suffix_lacks : (xs more : List ℕ) → LacksWords (xs ++ more) → LacksWords more
  suffix_lacks xs more h = λ p n s e. h (xs ++ p) n s (ap (λ (l : List ℕ). xs ++ l) e ∙ sym (append_assoc xs p (n ++ s)))

  seam : (xs more : List ℕ) (c : ℕ) → is_word_byte c ≡ false → LacksWords xs → LacksWords more → LacksWords (xs ++ c ∷ more)
  seam xs more c e h k [] n s q w = let r = word_in n s xs more c w e (sym q) in h [] n r.0 r.1 w
  seam [] more c e h k (b ∷ p) n s q w = k p n s (cc) w
  seam (x ∷ xs) more c e h k (b ∷ p) n s q w = seam xs more c e (suffix_lacks (x ∷ []) xs h) k p n s (cc) w

  cells_unnamed : (cells : List Cell) (rest : List ℕ) → LacksWords (map (λ (c : Cell). c.byte) cells ++ rest) → Unnamed table (map shown cells)
  cells_unnamed [] rest h = tt
  cells_unnamed (c ∷ cells) rest h = let k = kept (c ∷ cells) rest in (
    λ w. h [] (leading_word (map shown (c ∷ cells))) k.0 k.1 (leading_word-word (map shown (c ∷ cells))),
    cells_unnamed cells rest (λ p n s e. h (c.byte ∷ p) n s (ap (λ (l : List ℕ). c.byte ∷ l) e)),
  )

  line_unnamed : (before : List Reading) (l : Line) → LacksWords l.body → Unnamed table (scan_after before C l).masked
  line_unnamed before l h = let p = content-prefix l in
      subst (Unnamed table) (sym (masked-content_cells before l)) (cells_unnamed (content_cells (c_run_of before) l) p.0
      (subst LacksWords (p.1 ∙ ap (λ (x : List ℕ). x ++ p.0) (sym (bytes-content_cells (c_run_of before) l))) h))

  -- 2. The lines of a text, and of its folded text.

  -- No word of the line is a name, also as it was read. If it doesn't join the next one, it has no splice.
  pub record IsQuiet (r : Reading) : Type 0 where
    pub lacks : LacksWords r.line.body
    pub read : Unnamed table r.scan.masked
    pub unspliced : r.scan.joins_after ≡ false → is_spliced r.line ≡ false

  next_quiet : (before : List Reading) (l : Line) → LacksWords l.body → IsQuiet (next_reading before C l)
  next_quiet before l h = let run : List Line = c_run_of before in record {
    lacks = h;
    read = line_unnamed before l h;
    unspliced = λ e. (or_parts (is_spliced l) (is_block (kind_at_end (spliced_text run ++ spliced_part l))) (sym (joins_last run l) ∙ sym (joins_after-code run l) ∙ e)).0;
  }

  lines_quiet : (t : List ℕ) → LacksNames table t → (ls : List (List ℕ)) (n : ℕ) (before : List ℕ) (rs : List Reading) → t ≡ before ++ concat ls → Each IsQuiet rs →
      Each IsQuiet (readings_after rs (map (in_mode C) (numbered_from n ls)))
  lines_quiet t h [] n before rs e k = k
  lines_quiet t h (l ∷ ls) n before rs e k =
      let line : Line = line_at n l in
      let is : t ≡ before ++ ((line.body ++ line.ending) ++ concat ls) = e ∙ ap (λ (x : List ℕ). before ++ (x ++ concat ls)) (sym (text_of-line_at n l)) in
      let lacks : LacksWords line.body = λ p m s d w. h (before ++ p) m (s ++ (line.ending ++ concat ls))
      (is ∙ ap (λ (x : List ℕ). before ++ ((x ++ line.ending) ++ concat ls)) d ∙ regroup before p m s line.ending (concat ls)) in
      lines_quiet t h ls (suc n) (before ++ l) (rs ++ next_reading rs C line ∷ []) (e ∙ sym (append_assoc before l (concat ls)))
      (each_both IsQuiet rs (next_reading rs C line ∷ []) k (next_quiet rs line lacks, tt))
    where
      regroup : (a p m s b c : List ℕ) → a ++ (((p ++ (m ++ s)) ++ b) ++ c) ≡ (a ++ p) ++ (m ++ (s ++ (b ++ c)))
      regroup a p m s b c = grind (arith, append_assoc)

  pub text_quiet : (t : List ℕ) → LacksNames table t → Each IsQuiet (read_as C t)
  text_quiet t h = lines_quiet t h (texts_of t) 1 [] [] (lines_exist t).joined tt

  content_lacks : (l : Line) (b : Bool) → LacksWords l.body → LacksWords (if b then content l else l.body)
  content_lacks l true h = let p = content-prefix l in prefix_lacks (content l) p.0 (subst LacksWords p.1 h)
  content_lacks l false h = h

  folded_lacks : (r : Reading) (rs : List Reading) → Each IsQuiet (r ∷ rs) → LacksWords (folded_body (r ∷ rs))
  folded_lacks r [] h = h.0.lacks
  folded_lacks r (s ∷ rs) h = let b : Bool = is_outside r.scan.comment in
      let part : List ℕ = if b then content r.line else r.line.body in
      subst LacksWords (sym (append_assoc part (11 ∷ []) (folded_body (s ∷ rs)))) (seam part (folded_body (s ∷ rs)) 11 refl (content_lacks r.line b h.0.lacks) (folded_lacks s rs h.1))

  group_quiet : (g : List Reading) → Each IsQuiet g → Each IsQuiet (folded_readings g)
  group_quiet [] h = tt
  group_quiet (r ∷ rs) h = by (is_foldable (r ∷ rs))
    where
      by : (b : Bool) → Each IsQuiet (if b then next_reading [] C (folded_line (r ∷ rs)) ∷ [] else r ∷ rs)
      by true = (next_quiet [] (folded_line (r ∷ rs)) (folded_lacks r rs h), tt)
      by false = h

  groups_quiet : (gs : List (List Reading)) → Each IsQuiet (flat_map (λ (g : List Reading). g) gs) → Each IsQuiet (flat_map folded_readings gs)
  groups_quiet [] h = tt
  groups_quiet (g ∷ gs) h = let p = each_parts IsQuiet g (flat_map (λ (g : List Reading). g) gs) h in
      each_both IsQuiet (folded_readings g) (flat_map folded_readings gs) (group_quiet g p.0) (groups_quiet gs p.1)

  -- Numbers never count.
  quiet_alike : (r s : Reading) → unnumbered r ≡ unnumbered s → IsQuiet s → IsQuiet r
  quiet_alike r s e h =
      let body : r.line.body ≡ s.line.body = ap (λ (x : Reading). x.line.body) e in
      let scan : r.scan ≡ s.scan = ap (λ (x : Reading). x.scan) e in
      record {
        lacks = subst LacksWords (sym body) h.lacks;
        read = subst (λ (c : Scan). Unnamed table c.masked) (sym scan) h.read;
        unspliced = λ j. ap (λ (x : Reading). is_spliced x.line) e ∙ h.unspliced (sym (ap (λ (c : Scan). c.joins_after) scan) ∙ j);
      }

  all_alike : (rs ss : List Reading) → map unnumbered rs ≡ map unnumbered ss → Each IsQuiet ss → Each IsQuiet rs
  all_alike [] ss e h = tt
  all_alike (r ∷ rs) [] e h = absurd cc
  all_alike (r ∷ rs) (s ∷ ss) e h = (quiet_alike r s (cc) h.0, all_alike rs ss (cc) h.1)

  pub folded_quiet : (t : List ℕ) → Each IsQuiet (read_as C t) → Each IsQuiet (read_as C (folded_text t))
  folded_quiet t h = by (has_tab t) refl
    where
      by : (b : Bool) → has_tab t ≡ b → Each IsQuiet (read_as C (folded_text t))
      by true e = subst (λ (x : List ℕ). Each IsQuiet (read_as C x)) (sym (ap (λ (b : Bool). if b then t else folded_lines (read_as C t)) e)) h
      by false e = all_alike (read_as C (folded_text t)) (flat_map folded_readings (logical_lines (read_as C t))) (readings_folded t e)
          (groups_quiet (logical_lines (read_as C t)) (subst (Each IsQuiet) (sym (all_there t)) h))

  -- 3. Nothing is pruned.

  module _ (rules : Rules) (off : rules.constants ≡ false) where
    body_stays : (r : Reading) (d : Directive) → IsQuiet r → is_spliced r.line ≡ false → text_of (left_line table rules r.line d) ≡ text_of r.line
    body_stays r d h e = let n : ℕ = keyword_end d in
        let cells : List Cell = text_cells r.line d in
        let bytes : map (λ (c : Cell). c.byte) cells ≡ drop n r.line.body = text_bytes table rules r.line d e in
        let whole : take n r.line.body ++ map (λ (c : Cell). c.byte) cells ≡ r.line.body = ap (λ (x : List ℕ). take n r.line.body ++ x) bytes ∙ take-append-drop n r.line.body in
        let lacks : LacksWords (map (λ (c : Cell). c.byte) cells) = suffix_lacks (take n r.line.body) (map (λ (c : Cell). c.byte) cells) (subst (LacksWords) (sym whole) h.lacks) in
        let u : Unnamed table (map shown cells) = cells_unnamed cells [] (subst (LacksWords) (sym (append-nil (map (λ (c : Cell). c.byte) cells))) lacks) in
        ap (λ (x : List ℕ). x ++ r.line.ending)
        (ap (λ (cs : List Cell). take n r.line.body ++ map (λ (c : Cell). c.byte) cs) (simplified_whole table rules off cells u) ∙ whole)

    line_stays : (r : Reading) → IsQuiet r → text_of (simplified_line table rules r) ≡ text_of r.line
    line_stays r h = by (content_of r.scan)
      where
        lone_spliced : (d : Directive) → may_change table rules r.scan r.line d ≡ true → is_spliced r.line ≡ false
        lone_spliced d e = h.unspliced (grind (arith, e))

        if_changed : (d : Directive) (b : Bool) → may_change table rules r.scan r.line d ≡ b → text_of (if b then left_line table rules r.line d else r.line) ≡ text_of r.line
        if_changed d true e = body_stays r d h (lone_spliced d e)
        if_changed d false e = refl

        by : (c : Content) → text_of (line_by table rules r.scan r.line c) ≡ text_of r.line
        by cut_keyword = refl
        by text = refl
        by (directive d) = if_changed d (may_change table rules r.scan r.line d) refl

    pruned_stays : (r : Reading) → IsQuiet r → pruned_bytes table rules r ≡ text_of r.line
    unfolding pruned_line
    pruned_stays r h = by (fits r.line)
      where
        by : (b : Bool) → text_of (if b then simplified_line table rules r else r.line) ≡ text_of r.line
        by true = line_stays r h
        by false = refl

    all_stay : (rs : List Reading) → Each IsQuiet rs → (concat (map (pruned_bytes table rules) rs) ≡ concat (map (λ (r : Reading). text_of r.line) rs)) × (edited_among table rules rs ≡ 0)
    all_stay [] h = (refl, refl)
    all_stay (r ∷ rs) h = let p = pruned_stays r h.0 in let q = all_stay rs h.1 in (
      ap₂ (λ (x y : List ℕ). x ++ y) p q.0,
      ap (λ (b : Bool). if not b then suc (edited_among table rules rs) else edited_among table rules rs)
          ((bytes_eq-Decides (pruned_bytes table rules r) (text_of r.line)).1 p) ∙ q.1,
    )

    pub none_pruned : (t : List ℕ) → Each IsQuiet (read_as C t) → (pruned_text table rules t ≡ t) × (edited_count table rules t ≡ 0)
    none_pruned t h = let q = all_stay (read_as C t) h in
        (q.0 ∙ ap concat (sym (map-map text_of (λ (r : Reading). r.line) (read_as C t)) ∙ ap (map text_of) (lines_read [] (lines_of t))) ∙ lines_join t, q.1)

-- 4. A run copies the text.

module _ (o : Options) (off : o.settings.constants ≡ false) where
  abbrev IsOpen : Item Reading → Type 0
  IsOpen x = IsOf Any IsUnknown x × Heeds x

  item_open : (r : Reading) → Unnamed o.table r.scan.masked → IsOpen (item_of o r)
  item_open r h = by (content_of r.scan) refl
    where
      by_role : (role : Role) (d : Decision) → d ≡ undecided → IsOpen (directive_item r role d)
      by_role IfGroup d e = (ap (λ (x : Decision). x.cond) e, ap (λ (x : Decision). x.ignoring) e)
      by_role ElifGroup d e = (ap (λ (x : Decision). x.cond) e, ap (λ (x : Decision). x.ignoring) e)
      by_role ElseGroup d e = (tt, tt)
      by_role EndifLine d e = (tt, tt)

      by : (c : Content) → content_of r.scan ≡ c → IsOpen (item_by o r c)
      by cut_keyword e = (tt, tt)
      by text e = (tt, tt)
      by (directive d) e = let f = directive_front r.scan d e in
          by_role (role_of d.kind) (decision_on r.scan d o.table (rules_of o.settings)) (decision_none o.table (rules_of o.settings) off r.scan d
          (last_unnamed o.table f.word d.after (last_unnamed o.table (f.white ++ 35 ∷ f.gap) (f.word ++ d.after) (subst (Unnamed o.table) f.masked_is h))))

  module _ (in_c : o.settings.plain ≡ false) where
    record IsReadSo (xs : List (Item Reading)) : Type 0 where
      reads : map reading_of xs ≡ read_in C (map line_of xs)
      open_all : Each IsOpen xs

    heeding : (xs : List (Item Reading)) → Each IsOpen xs → Each Heeds xs × Each (IsOf Any IsUnknown) xs
    heeding [] h = (tt, tt)
    heeding (x ∷ xs) h = let p = heeding xs h.1 in ((h.0.1, p.0), (h.0.0, p.1))

    read_so : {xs : List (Item Reading)} {t : Tree Reading} → AreFaultless o xs t → Each (IsQuiet o.table) (read_in C (map line_of xs)) → IsReadSo xs
    read_so no_lines h = record { reads = refl; open_all = tt }
    read_so (one_more xs t s l u e n) h =
        let ls : List Line = map line_of xs in
        let q : Reading = next_reading (read_in C ls) C l in
        let both : read_in C (map line_of (xs ++ next_item o xs t l ∷ [])) ≡ read_in C ls ++ q ∷ [] = ap (read_in C) (lines_with_next o xs t l) ∙ read_more C ls l in
        let p = each_parts (IsQuiet o.table) (read_in C ls) (q ∷ []) (subst (Each (IsQuiet o.table)) both h) in
        let i : IsReadSo xs = read_so s p.0 in
        let mode : mode_after o t ≡ C = ap₂ (λ (a b : Bool). mode_by (a || b)) in_c (tree_heeds t (subst (Each Heeds) (sym (sound_lines s)) (heeding xs i.open_all).0)) in
        let x : next_item o xs t l ≡ item_of o q = ap (λ (m : Mode). item_of o (read_after xs m l)) mode
        ∙ ap (λ (rs : List Reading). item_of o (next_reading rs C l)) i.reads in
        record {
          reads = map-append reading_of xs (next_item o xs t l ∷ []) ∙ ap₂ (λ (rs : List Reading) (r : Reading). rs ++ r ∷ []) i.reads (ap reading_of x ∙ reading_of-item_of o q) ∙ sym both;
          open_all = each_both IsOpen xs (next_item o xs t l ∷ []) i.open_all (subst IsOpen (sym x) (item_open q p.1.0.read), tt);
        }

    module _ (unlisted : o.settings.listing ≡ Off) (unnumbered_run : o.settings.renumber ≡ false) (unblanked : o.settings.blank ≡ false) (uncomplemented : o.settings.complement ≡ false)
        (text : List ℕ) (quiet : Each (IsQuiet o.table) (read_as C text)) where
      nodes_copied : (xs : List (Item Reading)) (ns : Nodes Reading) → HasNoFault o (lines_of text) xs (closed ns) → output_by o.settings.listing o.settings xs (closed ns) ≡ text
      nodes_copied xs ns g =
          let i : IsReadSo xs = read_so g.sound (subst (λ (ls : List Line). Each (IsQuiet o.table) (read_in C ls)) g.are quiet) in
          let undecided : IsUndecided ns = from_items Any IsUnknown ns (subst (Each (IsOf Any IsUnknown)) (sym (sound_lines g.sound)) (heeding xs i.open_all).1) in
          let js : List Judged = judged_lines xs (marks (closed ns)) in
          let many : length xs ≡ length (marks (closed ns)) = cc (sound_lines g.sound, length_marks true (closed ns)) in
          let pieces : pieces_by (piece_after (style_of o.settings)) [] js ≡ map whole js =
          pieces_lone o.settings.unpadded o.settings.blank o.settings.complement o.settings.renumber [] js unnumbered_run
          ∙ ap₂ (λ (b c : Bool). map (lone o.settings.unpadded b c) js) unblanked uncomplemented ∙ whole_pieces o.settings.unpadded xs (marks (closed ns)) (undecided_stay ns undecided) in
          ap (λ (q : Listing). output_by q o.settings xs (closed ns)) unlisted
          ∙ ap concat (pieces ∙ whole_lines_are xs (marks (closed ns)) many ∙ ap (map text_of) (sym g.are)) ∙ lines_join text

      copied : {a : Outcome} → HasOutcome o text a → a.fault ≡ None → a.output ≡ text
      copied (ran_as (stops xs t f h)) e = absurd cc
      copied (ran_as (ends xs t g)) e = by t (end_parts (ends_in_comment xs) (last_number xs) _ e).1 g
        where
          by : (t : Tree Reading) → innermost t ≡ None → HasNoFault o (lines_of text) xs t → output_by o.settings.listing o.settings xs t ≡ text
          by (closed ns) e g = nodes_copied xs ns g
          by (open_section ns h t) e g = absurd (no_innermost ns t h e)

      -- Without a fault, the output is the text.
      pub copies : {a : Outcome} → HasOutcome o text a → a.fault ≡ None → (a.output ≡ text) × (a.differs ≡ false)
      copies {a = a} h e = let c = copied h e in
          (c, changed o unnumbered_run unlisted text h e ∙ ap not ((bytes_eq-Decides a.output text).1 c))
