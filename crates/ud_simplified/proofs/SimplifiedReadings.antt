-- Simplified readings: line for line, a simplified text is read as the text, with the residuals of
-- its conditions.
use Rattle.std.proofs.Common.{◌≡◌, ◌≢◌, ℕ, List, [], ◌∷◌, ◌++◌, map, false, refl, sym, ◌∙◌, ap, subst, ◌⊎◌, inl, inr, append-nil, arith}
use Rattle.std.proofs.lemmas.List.{map-append, same_from_push}
use Rattle.std.proofs.lemmas.Bool.{or_parts}
use Rattle.ud_model.specs.text.Lines.{Line, lines_of, texts_of}
use Rattle.ud_model.specs.text.Scans.{Scan, Reading}
use Rattle.ud_model.specs.text.Splicing.{c_run_of}
use Rattle.ud_model.specs.text.Scanning.{joins, scan_after_run, scan_after, next_reading}
use Rattle.ud_model.specs.sections.Directives.{Directive}
use Rattle.ud_model.specs.conditions.Table.{Argument}
use Rattle.ud_model.specs.conditions.Conditions.{Rules}
use Rattle.ud_model.specs.aids.ReadAs.{read_in}
use Rattle.ud_simplified.specs.SimplifiedTexts.{left_line, simplified_line}
use Rattle.ud_model.specs.declared.kind.Mode.TheVariants.{C}
use Rattle.ud_model.proofs.text.Pushes.{ByPush, none, push, by_push}
use Rattle.ud_model.proofs.text.LinesLemmas.{lines_exist}
use Rattle.ud_model.proofs.text.ScanLaws.{joins_before-code, joins_after-code, with_next}
use Rattle.ud_model.proofs.text.ScanLaws.{EndsLogicalLine, ends_with, read_more}
use Rattle.ud_model.proofs.text.ScanLemmas.{run_of_last}
use Rattle.ud_simplified.proofs.OtherLineScans.{AreReadAlike, no_lines, same_line, other_line}
use Rattle.ud_simplified.proofs.OtherLineScans.{scanned_alone, scanned_alike}
use Rattle.ud_model.proofs.output.Each.{Each, each_parts, Pairs, no_pair, pair, pairs_both}
use Rattle.ud_model.proofs.output.LeavesOff.{HasEnd}
use Rattle.ud_model.proofs.output.RereadChain.{AllButLast, IsInner, ends_before, lines_end}
use Rattle.ud_simplified.proofs.SimplifiedLines.{IsEdited, Becomes, it_stays, it_changes, becomes}

-- 1. Where logical lines end.

abbrev Begins : List Reading → Type 0
Begins before = (before ≡ []) ⊎ EndsLogicalLine before

inner_end : (ls : List Line) (last : Line) → joins (c_run_of (with_next (read_in C ls) C last)) ≡ false → HasEnd last → EndsLogicalLine (with_next (read_in C ls) C last)
inner_end ls last j h = ends_with (read_in C ls) C last
    (joins_after-code (c_run_of (read_in C ls)) last ∙ ap joins (sym (run_of_last (read_in C ls) (next_reading (read_in C ls) C last))) ∙ j) h

-- If the last line doesn't join the next one, a logical line ends there.
begins : {ls : List Line} → ByPush ls → Each HasEnd ls → joins (c_run_of (read_in C ls)) ≡ false → Begins (read_in C ls)
begins none h j = inl refl
begins (push {xs = ls} l p) h j = inr (subst EndsLogicalLine (sym (read_more C ls l))
    (inner_end ls l (ap (λ (rs : List Reading). joins (c_run_of rs)) (sym (read_more C ls l)) ∙ j) (each_parts HasEnd ls (l ∷ []) h).1.0))

alike_after : {before after : List Reading} → AreReadAlike before after → (l : Line) → scan_after before C l ≡ scan_after after C l
alike_after {before = before} {after = after} p l = cc (append-nil before, scanned_alike p [] C l, append-nil after)

not_pushed : (rs : List Reading) (r : Reading) → rs ++ r ∷ [] ≡ [] → ⊥
not_pushed [] r e = cc
not_pushed (q ∷ rs) r e = cc

there : {rs : List Reading} → EndsLogicalLine rs → (before : List Reading) (l : Line) → rs ≡ with_next before C l → ((scan_after before C l).joins_after ≡ false) × (l.ending ≢ [])
there h before l e = grind (arith, same_from_push)

ends_alike : {before after : List Reading} → AreReadAlike before after → Begins before → Begins after
ends_alike no_lines b = inl refl
ends_alike (same_line {before = before} {after = after} p l) (inl e) = absurd (not_pushed before (next_reading before C l) e)
ends_alike (same_line {before = before} {after = after} p l) (inr e) =
    let t : ((scan_after before C l).joins_after ≡ false) × (l.ending ≢ []) = there e before l refl in
    inr (ends_with after C l (ap (λ (s : Scan). s.joins_after) (sym (alike_after p l)) ∙ t.0) t.1)
ends_alike (other_line {before = before} {after = after} p l k s t) b =
    inr (ends_with after C k (ap (λ (c : Scan). c.joins_after) (scanned_alone after k t.begins) ∙ t.alone) t.has_ending)

-- 2. Lines.

module _ (table : List Argument) (rules : Rules) where
  -- `s` is the reading of the edited line, which has the residual of the condition of `d`.
  pub record IsLeft (r s : Reading) (d : Directive) : Type 0 where
    pub edited : IsEdited table rules r.line r.scan d
    pub line : s.line ≡ left_line table rules r.line d
    pub simplified : simplified_line table rules r ≡ s.line
    pub before : r.scan ≡ scan_after [] C r.line
    pub after : s.scan ≡ scan_after_run [] (left_line table rules r.line d)

  -- `s` is the reading of the line that the line of `r` becomes.
  pub data ReadingSimplified (r s : Reading) : Type 0 where
    reading_stays : simplified_line table rules r ≡ r.line → s ≡ r → (r.scan.joins_before ≡ false → r.scan ≡ scan_after [] C r.line) → ReadingSimplified r s
    reading_edited : (d : Directive) → IsLeft r s d → ReadingSimplified r s

  abbrev pub left_lines : List Line → List Line
  left_lines ls = map (simplified_line table rules) (read_in C ls)

  abbrev left_one : List Line → Line → Line
  left_one ls l = simplified_line table rules (next_reading (read_in C ls) C l)

  abbrev Alike : List Line → Type 0
  Alike ls = AreReadAlike (read_in C ls) (read_in C (left_lines ls))

  -- The next line of both texts.
  record Next (before after : List Reading) (l k : Line) : Type 0 where
    pub reading : ReadingSimplified (next_reading before C l) (next_reading after C k)
    pub alike : AreReadAlike (with_next before C l) (with_next after C k)

  next_by : (before after : List Reading) → AreReadAlike before after → (l : Line) → ((scan_after before C l).joins_before ≡ false → Begins before) → (k : Line) →
      simplified_line table rules (next_reading before C l) ≡ k → Becomes table rules l (scan_after before C l) k → Next before after l k
  next_by before after p l b _ q it_stays = record {
    reading = reading_stays q (ap (λ (s : Scan). record { line = l; mode = C; scan = s }) (sym (alike_after p l))) (λ j. scanned_alone before l (b j));
    alike = same_line p l;
  }
  next_by before after p l b _ q (it_changes d i) = let k : Line = left_line table rules l d in
      let x : Begins before = b (or_parts (scan_after before C l).joins_before (scan_after before C l).joins_after i.lone).0 in
      let y : Begins after = ends_alike p x in
      let scan : Scan = scan_after before C l in
      let e : scan ≡ scan_after [] C l = scanned_alone before l x in
      record {
        reading = reading_edited d (record { edited = i; line = refl; simplified = q; before = e; after = scanned_alone after k y });
        alike = other_line p l k
            (record {
              begins = x;
              alone = ap (λ (s : Scan). s.joins_after) (sym e) ∙ (or_parts scan.joins_before scan.joins_after i.lone).1;
              has_ending = i.some;
            })
            (record { begins = y; alone = i.alone; has_ending = i.some });
      }

  next_line : (ls : List Line) → ByPush ls → Each HasEnd ls → Alike ls → (l : Line) → Next (read_in C ls) (read_in C (left_lines ls)) l (left_one ls l)
  next_line ls p h a l = next_by (read_in C ls) (read_in C (left_lines ls)) a l
      (λ j. begins p h (sym (joins_before-code (c_run_of (read_in C ls)) l) ∙ j)) (left_one ls l) refl (becomes table rules (next_reading (read_in C ls) C l))

  abbrev Paired : List Line → Type 0
  Paired ls = Pairs ReadingSimplified (read_in C ls) (read_in C (left_lines ls))

  read_left : (ls : List Line) (l : Line) → read_in C (left_lines (ls ++ l ∷ [])) ≡ with_next (read_in C (left_lines ls)) C (left_one ls l)
  read_left ls l = grind (arith, read_more, map-append)

  one_more_pair : (ls : List Line) (l : Line) → Next (read_in C ls) (read_in C (left_lines ls)) l (left_one ls l) → Paired ls → Paired (ls ++ l ∷ [])
  one_more_pair ls l n a = grind (arith, read_more C ls l, read_left ls l, pairs_both ReadingSimplified a (pair n.reading no_pair))

  inner_pairs : {ls : List Line} → ByPush ls → Each HasEnd ls → Alike ls × Paired ls
  inner_pairs none h = (no_lines, no_pair)
  inner_pairs (push {xs = ls} l p) h =
      let q : Each HasEnd ls = (each_parts HasEnd ls (l ∷ []) h).0 in
      let r : Alike ls × Paired ls = inner_pairs p q in
      let n : Next (read_in C ls) (read_in C (left_lines ls)) l (left_one ls l) = next_line ls p q r.0 l in (
        subst (λ (rs : List Reading). AreReadAlike rs (read_in C (left_lines (ls ++ l ∷ [])))) (sym (read_more C ls l))
            (subst (λ (rs : List Reading). AreReadAlike (with_next (read_in C ls) C l) rs) (sym (read_left ls l)) n.alike),
        one_more_pair ls l n r.1,
      )

  have_ends : (ls : List Line) → Each IsInner ls → Each HasEnd ls
  have_ends [] h = tt
  have_ends (l ∷ ls) h = (h.0.0, have_ends ls h.1)

  all_pairs : {ls : List Line} → ByPush ls → AllButLast ls → Paired ls
  all_pairs none h = no_pair
  all_pairs (push {xs = ls} l p) h = let q : Each HasEnd ls = have_ends ls (ends_before ls l h).0 in
      let r : Alike ls × Paired ls = inner_pairs p q in
      one_more_pair ls l (next_line ls p q r.0 l) r.1

  -- The readings of both texts.
  pub readings_simplified : (bytes : List ℕ) → Paired (lines_of bytes)
  readings_simplified bytes = all_pairs (by_push (lines_of bytes)) (lines_end 1 (texts_of bytes) (lines_exist bytes).formed)
