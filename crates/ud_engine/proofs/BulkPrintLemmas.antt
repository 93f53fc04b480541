-- The state of a line processor after many text lines at once.
use Rattle.std.proofs.Common.{◌≡◌, ℕ, suc, ◌<◌, List, [], ◌∷◌, ◌++◌, length, map, Bool, true, false, not, ◌||◌, None, refl, sym, ◌∙◌, ap, ap₂, append-nil, arith}
use Rattle.std.specs.List.{concat}
use Rattle.std.proofs.lemmas.List.Folds.{concat-append}
use Rattle.std.proofs.lemmas.Slice.Eq.{bytes_eq-Decides}
use Rattle.ud_model.specs.text.Lines.{Line, text_of, AreWhole, numbered_from, whole_lines, split_lines}
use Rattle.ud_model.specs.text.Scans.{Reading}
use Rattle.ud_model.specs.sections.Tree.{Item, Tree}
use Rattle.ud_model.specs.sections.Pruning.{Mark, marks}
use Rattle.ud_model.specs.sections.Items.{Options}
use Rattle.ud_model.specs.answer.Printing.{Judged, judged_line, judged_lines, pieces_by, some_other}
use Rattle.std.specs.Option.{is_some}
use Rattle.ud_model.specs.declared.settings.Listing.TheVariants.{Off}
use Rattle.ud_model.specs.declared.verdict.Verdict.{Verdict}
use Rattle.ud_model.proofs.sections.Soundness.{sound_lines}
use Rattle.ud_model.proofs.sections.Stays.{length_marks}
use Rattle.ud_model.proofs.text.LinesLemmas.{map-numbered_from, are_whole}
use Rattle.ud_text.specs.bulk.BulkScanning.{AreWholeLines}
use Rattle.ud_text.proofs.lemmas.bulk.QuietLineLemmas.{ended_lines}
use Rattle.ud_sections.specs.printing.PrinterOutputs.{judged_text, PrintsOne}
use Rattle.ud_sections.proofs.lemmas.printing.PrintedRuns.{each_of}
use Rattle.ud_engine.specs.declared.line_processor.LineProcessor.{LineProcessor}
use Rattle.ud_engine.specs.DecidedLines.{DecidesBulk}
use Rattle.ud_engine.specs.ProcessedLines.{ProcessorRepresents, PrintsBulk}
use Rattle.ud_engine.proofs.NameListingLemmas.{lists_none}
use Rattle.ud_engine.proofs.ProcessorLemmas.{is_off}
use Rattle.ud_model.proofs.answer.Onward.{pieces_by-append}
use Rattle.std.proofs.lemmas.Grind.{common_steps}

judged_line-append : (xs ys : List (Item Reading)) (ms ns : List Mark) → length ms ≡ length xs →
    judged_lines (xs ++ ys) (ms ++ ns) ≡ judged_lines xs ms ++ judged_lines ys ns
judged_line-append [] ys [] ns e = refl
judged_line-append [] ys (m ∷ ms) ns e = cc
judged_line-append (x ∷ xs) ys [] ns e = cc
judged_line-append (x ∷ xs) ys (m ∷ ms) ns e =
    ap (λ js. judged_line x m ∷ js) (judged_line-append xs ys ms ns (let h : suc (length ms) ≡ suc (length xs) = e in omega (arith, h)))

-- Some line of both differs, if one of the first or one of the others does.
differ-append : (piece : List Judged → Judged → List ℕ) (before js ks : List Judged) (ps : List (List ℕ)) →
    some_other (pieces_by piece before js ++ ps) (js ++ ks) ≡ (some_other (pieces_by piece before js) js || some_other ps ks)
differ-append piece before [] ks ps = refl
differ-append piece before (j ∷ js) ks ps = grind (arith, common_steps, differ-append piece (before ++ j ∷ []) js ks ps)

-- Copied lines don't differ.
pub kept_same : (verdict : Verdict) (ls : List Line) → some_other (map text_of ls) (map (judged_text verdict) ls) ≡ false
kept_same verdict [] = refl
kept_same verdict (l ∷ ls) = ap₂ (λ b d. not b || d) ((bytes_eq-Decides (text_of l) (text_of l)).1 refl) (kept_same verdict ls)

-- Dropped whole lines differ.
pub dropped_differ : (verdict : Verdict) (n : ℕ) (bytes : List ℕ) → AreWholeLines bytes → 0 < length bytes →
    some_other (map (λ (l : Line). []) (numbered_from n (whole_lines bytes))) (map (judged_text verdict) (numbered_from n (whole_lines bytes))) ≡ true
dropped_differ verdict n bytes ends some = by_lines (whole_lines bytes) (ended_lines bytes ends) (are_whole bytes)
  where
    by_lines : (ls : List (List ℕ)) → bytes ≡ concat ls → AreWhole ls →
        some_other (map (λ (l : Line). []) (numbered_from n ls)) (map (judged_text verdict) (numbered_from n ls)) ≡ true
    by_lines [] e whole = absurd (let z = ap length e in omega (arith, z, some))
    by_lines (l ∷ ls) e whole = grind (arith, common_steps)

-- The output for copied whole lines.
pub kept_text : (n : ℕ) (bytes : List ℕ) → AreWholeLines bytes → concat (map text_of (numbered_from n (whole_lines bytes))) ≡ bytes
kept_text n bytes ends = ap concat (map-numbered_from n (whole_lines bytes)) ∙ sym (ended_lines bytes ends)

-- The output for dropped lines.
pub dropped_text : (ls : List Line) → concat (map (λ (l : Line). []) ls) ≡ []
dropped_text [] = refl
dropped_text (l ∷ ls) = dropped_text ls

module _ {S : Type 0} (represents : S → List Judged → Type 0) (piece_of : S → List Judged → Judged → List ℕ) (o : Options)
    (piece : List Judged → Judged → List ℕ) (xs : List (Item Reading)) (t : Tree Reading) (p : LineProcessor S) (h : ProcessorRepresents represents piece_of p o piece xs t) where
  -- No line is printed.
  pub prints_none : (n : ℕ) → PrintsBulk represents piece_of p o piece xs t (numbered_from n (whole_lines [])) []
  unfolding split_lines
  prints_none n = grind (arith, common_steps, append-nil xs)

  -- The output for each of these lines is `own`.
  pub prints_run : (q : LineProcessor S) (ls : List Line) (verdict : Verdict) (own : Line → List ℕ) (other : Bool) (more : List ℕ) → p.lister ≡ None → q.lister ≡ p.lister →
      q.printer ≡ p.printer → q.differs ≡ (p.differs || other) → DecidesBulk o q.decider xs t ls verdict → PrintsOne (represents p.printer) (piece_of p.printer) verdict own →
      some_other (map own ls) (map (judged_text verdict) ls) ≡ other → concat (map own ls) ≡ more → PrintsBulk represents piece_of q o piece xs t ls more
  prints_run q ls verdict own other more e same_lister same_printer differs one line others joined =
      let off : o.settings.listing ≡ Off = is_off o.settings.listing (sym h.lister ∙ e) in
      let before : List Judged = judged_lines xs (marks t) in
      let next : List Judged = map (judged_text verdict) ls in
      let all : judged_lines (xs ++ one.items) (marks one.tree) ≡ before ++ next =
      grind (arith, judged_line-append, length_marks, sound_lines) in
      let shown : (pieces_by (piece_of p.printer) before next ≡ map own ls) × represents p.printer (before ++ next) =
      each_of (represents p.printer) (piece_of p.printer) verdict own line before ls (h.shown off) in
      let pieces : pieces_by piece [] (before ++ next) ≡ pieces_by piece [] before ++ map own ls =
      pieces_by-append piece [] before next
      ∙ ap (λ ps. pieces_by piece [] before ++ ps) (sym (grind (arith, h.stays)) ∙ shown.0) in
      record {
        items = one.items;
        tree = one.tree;
        has = grind (arith, differ-append);
        lines_are = one.lines_are;
        is_more = grind (arith, concat-append);
      }

  -- Names are listed: text lines have none.
  pub lists_run : (q : LineProcessor S) (ls : List Line) (verdict : Verdict) → is_some p.lister ≡ true → q.lister ≡ p.lister →
      q.printer ≡ p.printer → q.differs ≡ p.differs → DecidesBulk o q.decider xs t ls verdict → PrintsBulk represents piece_of q o piece xs t ls []
  lists_run q ls verdict e same_lister same_printer same_differs one = grind (arith, common_steps, lists_none)

-- No bytes have no lines.
pub no_lines : (n : ℕ) → numbered_from n (whole_lines []) ≡ []
unfolding split_lines
no_lines n = refl

-- No lines have no output, and none differs.
pub none_other : (verdict : Verdict) (own : Line → List ℕ) (ls : List Line) → ls ≡ [] → some_other (map own ls) (map (judged_text verdict) ls) ≡ false
none_other verdict own ls e = ap (λ ks. some_other (map own ks) (map (judged_text verdict) ks)) e
