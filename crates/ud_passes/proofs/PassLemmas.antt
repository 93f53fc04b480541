-- The pass: the rest of one line more, and of many text lines more.
use Rattle.std.proofs.Common.{◌≡◌, ℕ, ◌+◌, List, [], ◌∷◌, ◌++◌, map, Bool, true, false, ◌&&◌, if◌then◌else◌, refl, sym, ◌∙◌, ap, subst, append_assoc, append-nil, arith}
use Rattle.std.specs.List.{concat}
use Rattle.std.proofs.lemmas.List.{map-append}
use Rattle.std.proofs.lemmas.Slice.Eq.{bytes_eq-Decides}
use Rattle.ud_model.specs.text.Lines.{Line, text_of}
use Rattle.ud_model.specs.text.Scans.{Scan, Reading}
use Rattle.ud_model.specs.text.Scanning.{scan_after_run, scan_after}
use Rattle.ud_model.specs.sections.Directives.{Content, cut_keyword, directive, text, content_of}
use Rattle.ud_model.specs.conditions.Table.{Argument}
use Rattle.ud_model.specs.conditions.Conditions.{Rules}
use Rattle.ud_simplified.specs.SimplifiedTexts.{is_lone, keeps_ending, left_line, is_read_back, line_by, simplified_line}
use Rattle.ud_model.specs.declared.kind.Mode.TheVariants.{C}
use Rattle.ud_model.proofs.text.ScanBytes.{scan_after-same}
use Rattle.ud_model.proofs.output.Each.{Pairs, pair}
use Rattle.ud_simplified.proofs.SimplifiedReadings.{ReadingSimplified, readings_simplified}
use Rattle.ud_passes.specs.Passes.{fits}
use Rattle.ud_passes.specs.Walks.{read_after, AreTexts, HaveBytes, Walked}
use Rattle.ud_passes.specs.pruning.PrunedTexts.{pruned_line, pruned_bytes, is_edited, edited_among}
use Rattle.ud_passes.specs.pruning.EditedLines.{IsEditedTo, IsScannedAlone}
use Rattle.ud_passes.specs.pruning.Passing.{PrunesLine, Pruned}
use Rattle.ud_passes.specs.declared.walk.Walk.{Walk}

concat-append : (xs ys : List (List ℕ)) → concat (xs ++ ys) ≡ concat xs ++ concat ys
concat-append [] ys = refl
concat-append (x ∷ xs) ys = grind (arith, append_assoc, concat-append xs ys)

-- 1. One line.

module _ (table : List Argument) (rules : Rules) where
  pub pruned_short : (r : Reading) → fits r.line ≡ true → pruned_line table rules r ≡ simplified_line table rules r
  unfolding pruned_line
  pruned_short r e = grind arith

  pruned_long : (r : Reading) → fits r.line ≡ false → pruned_line table rules r ≡ r.line
  unfolding pruned_line
  pruned_long r e = grind arith

  -- The line that was edited or stays is what is left.
  pub next_edited : (r : Reading) (edited : Bool) (bytes old new : List ℕ) → fits r.line ≡ true → IsEditedTo edited (text_of (simplified_line table rules r)) r.line bytes →
      new ≡ old ++ (if edited then bytes else text_of r.line) → (new ≡ old ++ pruned_bytes table rules r) × (edited ≡ is_edited table rules r)
  next_edited r edited bytes old new f i e = grind (arith, pruned_short, bytes_eq-Decides)

  -- A text line stays.
  text_bytes : (r : Reading) → content_of r.scan ≡ text → pruned_bytes table rules r ≡ text_of r.line
  unfolding pruned_line
  text_bytes r e = grind arith

  -- 2. The number of a line never counts.

  module _ (l : Line) (m : ℕ) where
    abbrev k : Line
    k = record l { number = m }

    by_content : (scan : Scan) (c : Content) → text_of (line_by table rules scan l c) ≡ text_of (line_by table rules scan k c)
    by_content scan cut_keyword = refl
    by_content scan text = refl
    by_content scan (directive d) =
        ap (λ (s : Scan). text_of (if is_lone scan l && (keeps_ending (left_line table rules l d) && is_read_back table rules l d s) then left_line table rules l d else l))
        (scan_after-same [] [] C (left_line table rules l d) (left_line table rules k d) refl refl refl)
        ∙ by (is_lone scan l && (keeps_ending (left_line table rules l d) && is_read_back table rules l d (scan_after_run [] (left_line table rules k d))))
      where
        by : (t : Bool) → text_of (if t then left_line table rules l d else l) ≡ text_of (if t then left_line table rules k d else k)
        by t = grind arith

    renumbered : (scan : Scan) → pruned_bytes table rules (record { line = l; mode = C; scan = scan }) ≡ pruned_bytes table rules (record { line = k; mode = C; scan = scan })
    unfolding pruned_line
    renumbered scan = grind (arith, by_content)

  -- 3. More lines.

  abbrev pieces : List Reading → List ℕ
  pieces rs = concat (map (pruned_bytes table rules) rs)

  count-append : (before rs : List Reading) → edited_among table rules (before ++ rs) ≡ edited_among table rules before + edited_among table rules rs
  count-append [] rs = omega arith
  count-append (q ∷ before) rs = grind (arith, count-append before rs)

  texts_stay : (rs : List Reading) → AreTexts rs → (pieces rs ≡ concat (map (λ (r : Reading). text_of r.line) rs)) × (edited_among table rules rs ≡ 0)
  texts_stay [] h = (refl, refl)
  texts_stay (r ∷ rs) h = grind (arith, text_bytes, bytes_eq-Decides, texts_stay rs h.1)

  last_pair : {P : Reading → Reading → Type 0} (xs : List Reading) (x : Reading) (ys : List Reading) → Pairs P (xs ++ x ∷ []) ys → (y : Reading) × P x y
  last_pair [] x _ (pair {y = y} h q) = (y, h)
  last_pair (w ∷ xs) x _ (pair h q) = last_pair xs x _ q

  -- The place of a walk after more lines.
  module _ (text start : List ℕ) (count : ℕ) (walk : Walk) (out : List ℕ) (l : Pruned table rules text start count walk out) (next : Walk) (more : List ℕ) where
    lines_more : (rs : List Reading) (n : ℕ) → n ≡ count + edited_among table rules rs → more ≡ out ++ pieces rs → Walked C text (l.read ++ rs) next.rest.now next.scanner → Pruned table rules text start n next more
    lines_more rs n c e w = grind (arith, count-append, append_assoc, map-append, concat-append)

    pub texts_more : (bytes : List ℕ) (rs : List Reading) → AreTexts rs → HaveBytes bytes rs → more ≡ out ++ bytes → Walked C text (l.read ++ rs) next.rest.now next.scanner → Pruned table rules text start count next more
    texts_more bytes rs h b e w = grind (arith, texts_stay, lines_more)

    module _ (k : Line) (w : Walked C text (l.read ++ read_after C l.read k ∷ []) next.rest.now next.scanner) where
      abbrev r : Reading
      r = read_after C l.read k

      line_more : (n : ℕ) (edited : Bool) → n ≡ count + (if edited then 1 else 0) → edited ≡ is_edited table rules r → more ≡ out ++ pruned_bytes table rules r → Pruned table rules text start n next more
      line_more n edited c s e = lines_more (r ∷ []) n (c ∙ ap (λ (b : Bool). count + (if b then 1 else 0)) s) (e ∙ ap (λ (x : List ℕ). out ++ x) (sym (append-nil (pruned_bytes table rules r)))) w

      pub long_more : fits k ≡ false → more ≡ out ++ text_of k → Pruned table rules text start count next more
      long_more f e = grind (arith, pruned_long, bytes_eq-Decides, line_more)

      -- The line is scanned as the first of a text, unless the line before joins it.
      alone : IsScannedAlone (scan_after l.read C k) k
      alone =
          let q = subst (λ (rs : List Reading). (ss : List Reading) × Pairs (ReadingSimplified table rules) rs ss) (sym w.read_is) (_, readings_simplified table rules w.done) in
          let s = last_pair l.read r q.0 q.1 in
          λ j. by s.0 s.1 j ∙ scan_after-same [] [] C r.line k refl refl refl
        where
          by : (s : Reading) → ReadingSimplified table rules r s → IsScannedAlone r.scan r.line
          by s h = grind arith

      pub line_pruned : (n : ℕ) (edited : Bool) → n ≡ count + (if edited then 1 else 0) → (scan : Scan) → scan ≡ scan_after l.read C k → PrunesLine table rules k scan edited out more →
          Pruned table rules text start n next more
      line_pruned n edited c scan q h = let p = subst (λ (s : Scan). PrunesLine table rules k s edited out more) q h alone in grind (arith, renumbered, line_more)

  pub first_place : (all start : List ℕ) (walk : Walk) → Walked C all [] walk.rest.now walk.scanner → Pruned table rules all start 0 walk start
  first_place all start walk w = grind (arith, append-nil)
