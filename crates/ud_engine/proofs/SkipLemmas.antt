-- The state of a line decider after many text lines at once.
use Rattle.std.proofs.Common.{◌≡◌, ℕ, suc, ◌+◌, ◌<◌, ◌≤◌, List, [], ◌∷◌, ◌++◌, length, take, drop, take-append-drop, map, refl, sym, ◌∙◌, ap, subst, append_assoc, append-nil, arith}
use Rattle.std.proofs.lemmas.List.{map-append}
use Rattle.ud_model.specs.text.Lines.{Line, line_at, numbered_from, whole_lines, split_lines}
use Rattle.ud_model.specs.text.Scans.{Reading}
use Rattle.ud_model.specs.text.Scanning.{readings_after}
use Rattle.ud_model.specs.sections.Tree.{Item, Tree, text_line}
use Rattle.ud_model.specs.sections.Pruning.{Mark}
use Rattle.ud_model.specs.sections.Items.{Options, reading_of, line_of, mode_after, read_after}
use Rattle.ud_model.specs.sections.Faults.{last_number}
use Rattle.ud_model.specs.answer.Printing.{judged_lines}
use Rattle.ud_model.specs.declared.kind.Mode.{Mode}
use Rattle.ud_model.specs.declared.limits.TheConstants.{MAX_LINES}
use Rattle.ud_model.specs.declared.verdict.Verdict.{Verdict}
use Rattle.ud_text.specs.scan.ScannerState.{ScannerRepresents}
use Rattle.ud_text.specs.bulk.BulkScanning as passing
use Rattle.ud_text.specs.bulk.BulkScanning.{SkipsText, line_in_mode, lines_in_mode}
use Rattle.ud_text.specs.lines.LinesState.{LinesState}
use Rattle.ud_text.specs.lines.Consuming.{EachFits, CanConsume}
use Rattle.ud_text.proofs.lemmas.bulk.QuietLineLemmas.{ended_lines}
use Rattle.ud_text.proofs.lemmas.lines.ConsumeLemmas.{can_consume_front}
use Rattle.ud_sections.specs.sections.Limits.{IsWithinLimits}
use Rattle.ud_sections.specs.printing.PrinterOutputs.{judged_text}
use Rattle.ud_sections.specs.sections.MachineState.{AreTextLines, StepsText, machine_fault}
use Rattle.ud_sections.proofs.lemmas.sections.TransitionLemmas.{last_number_last}
use Rattle.ud_engine.specs.declared.line_decider.LineDecider.{LineDecider}
use Rattle.ud_engine.specs.DecidedLines.{DeciderRepresents, AreText, DecidesBulk, consumed}
use Rattle.std.proofs.lemmas.Grind.{common_steps}

-- The first of some lines that can be consumed can be consumed.
pub can_skip_take : (lines : LinesState) (bytes : List ℕ) (n : ℕ) → passing.AreWholeLines (take n bytes) → CanConsume lines bytes → CanConsume lines (take n bytes)
can_skip_take lines bytes n ends can =
    can_consume_front lines (take n bytes) (drop n bytes) ends (subst (CanConsume lines) (sym (take-append-drop n bytes)) can)

-- Each of these lines is within the limits.
abbrev AreWithin : List Line → Type 0
AreWithin [] = Unit {0}
AreWithin (l ∷ ls) = IsWithinLimits l × AreWithin ls

-- Lines that fit, with numbers that fit.
are_within : (n : ℕ) (ls : List (List ℕ)) → EachFits ls → n + length ls ≤ MAX_LINES → AreWithin (numbered_from (suc n) ls)
are_within n [] fits few = tt
are_within n (l ∷ ls) fits few =
    grind (arith, common_steps, are_within (suc n) ls fits.1 (omega (arith, few)))

module _ (mode : Mode) where
  -- The readings of these lines in this mode, each after those before it.
  abbrev read_all : List (Item Reading) → List Line → List Reading
  read_all xs [] = []
  read_all xs (l ∷ ls) = read_after xs mode l ∷ read_all (xs ++ text_line (read_after xs mode l) ∷ []) ls

  one_reading : (xs : List (Item Reading)) (r : Reading) → map reading_of (xs ++ text_line r ∷ []) ≡ map reading_of xs ++ r ∷ []
  one_reading xs r = map-append reading_of xs (text_line r ∷ [])

  are_text : (o : Options) (xs : List (Item Reading)) (ls : List Line) → passing.HaveNoDirective mode (map reading_of xs) ls → AreWithin ls →
      AreTextLines o mode xs (read_all xs ls)
  are_text o xs [] a w = tt
  are_text o xs (l ∷ ls) a w = (
    refl,
    a.0,
    w.0,
    are_text o (xs ++ text_line (read_after xs mode l) ∷ []) ls
        (subst (λ before. passing.HaveNoDirective mode before ls) (sym (one_reading xs (read_after xs mode l))) a.1) w.1,
  )

  readings_are : (xs : List (Item Reading)) (ls : List Line) →
      map reading_of (xs ++ map text_line (read_all xs ls)) ≡ readings_after (map reading_of xs) (map (line_in_mode mode) ls)
  readings_are xs [] = ap (map reading_of) (append-nil xs)
  readings_are xs (l ∷ ls) = grind (arith, common_steps, one_reading, readings_are (xs ++ text_line (read_after xs mode l) ∷ []) ls)

  lines_are : (xs : List (Item Reading)) (ls : List Line) → map line_of (map text_line (read_all xs ls)) ≡ ls
  lines_are xs [] = refl
  lines_are xs (l ∷ ls) = ap (λ ks. l ∷ ks) (lines_are (xs ++ text_line (read_after xs mode l) ∷ []) ls)

  texts_are : (xs : List (Item Reading)) (ls : List Line) → passing.HaveNoDirective mode (map reading_of xs) ls → AreText (map text_line (read_all xs ls))
  texts_are xs [] a = tt
  texts_are xs (l ∷ ls) a = (
    a.0,
    texts_are (xs ++ text_line (read_after xs mode l) ∷ []) ls
        (subst (λ before. passing.HaveNoDirective mode before ls) (sym (one_reading xs (read_after xs mode l))) a.1),
  )

  -- Text lines with one mark have that mark's verdict.
  judged_are : (xs : List (Item Reading)) (ls : List Line) (mark : Mark) (verdict : Verdict) → verdict ≡ mark.verdict → passing.HaveNoDirective mode (map reading_of xs) ls →
      judged_lines (map text_line (read_all xs ls)) (map (λ r. mark) (read_all xs ls)) ≡ map (judged_text verdict) ls
  judged_are xs [] mark verdict e a = refl
  judged_are xs (l ∷ ls) mark verdict e a = grind (arith, common_steps, one_reading, judged_are (xs ++ text_line (read_after xs mode l) ∷ []) ls mark verdict e)

  last_is : (xs : List (Item Reading)) (n : ℕ) (l : List ℕ) (ls : List (List ℕ)) →
      last_number (xs ++ map text_line (read_all xs (numbered_from n (l ∷ ls)))) ≡ n + length ls
  last_is xs n l [] = last_number_last xs (text_line (read_after xs mode (line_at n l))) ∙ omega arith
  last_is xs n l (k ∷ ls) = let first : Reading = read_after xs mode (line_at n l) in
      ap last_number (sym (append_assoc xs (text_line first ∷ []) (map text_line (read_all (xs ++ text_line first ∷ []) (numbered_from (suc n) (k ∷ ls))))))
      ∙ last_is (xs ++ text_line first ∷ []) (suc n) k ls ∙ omega arith

module _ (o : Options) (old new : LineDecider) (xs : List (Item Reading)) (t : Tree Reading) (h : DeciderRepresents o old xs t) (n : ℕ) (verdict : Verdict) where
  -- No line was read.
  pub reads_none : (mode : Mode) → new.machine ≡ old.machine → SkipsText mode old.scanner new.scanner [] → DecidesBulk o new xs t (numbered_from (suc n) (whole_lines [])) verdict
  unfolding split_lines
  reads_none mode same skips =
      grind (arith, common_steps, append-nil xs, skips.represents 0 (map reading_of xs) h.carries)

  module _ (mode : Mode) (m : mode ≡ mode_after o t) (bytes : List ℕ) (fits : EachFits (whole_lines bytes)) (few : n + length (whole_lines bytes) ≤ MAX_LINES)
      (skips : SkipsText mode old.scanner new.scanner bytes) (last : ℕ) (counted : last ≡ n + length (whole_lines bytes)) (no_fault : machine_fault new.machine ≡ machine_fault old.machine)
      (reads : (r : Reading) (rs : List Reading) → AreTextLines o (mode_after o t) xs (r ∷ rs) → last ≡ last_number (xs ++ map text_line (r ∷ rs)) →
      StepsText new.machine o xs t (r ∷ rs) verdict) where
    by_lines : (l : List ℕ) (ls : List (List ℕ)) → EachFits (l ∷ ls) → n + length (l ∷ ls) ≤ MAX_LINES → last ≡ n + length (l ∷ ls) →
        ScannerRepresents new.scanner (readings_after (map reading_of xs) (lines_in_mode mode (suc n) (l ∷ ls))) → passing.HaveNoDirective mode (map reading_of xs) (numbered_from (suc n) (l ∷ ls)) →
        DecidesBulk o new xs t (numbered_from (suc n) (l ∷ ls)) verdict
    by_lines l ls fit less is carries texts =
        let all : List Line = numbered_from (suc n) (l ∷ ls) in
        let first : Reading = read_after xs mode (line_at (suc n) l) in
        let rest : List Reading = read_all mode (xs ++ text_line first ∷ []) (numbered_from (suc (suc n)) ls) in
        let done : StepsText new.machine o xs t (first ∷ rest) verdict =
        reads first rest (subst (λ k. AreTextLines o k xs (first ∷ rest)) m (are_text mode o xs all texts (are_within n (l ∷ ls) fit less)))
        (is ∙ omega arith ∙ sym (last_is mode xs (suc n) l ls)) in
        record {
          items = map text_line (first ∷ rest);
          tree = done.tree;
          has = grind (arith, readings_are mode xs all);
          lines_are = lines_are mode xs all;
          texts = texts_are mode xs all texts;
          own = map (λ r. done.mark) (first ∷ rest);
          marks_are = done.marks_are;
          decided = judged_are mode xs all done.mark verdict done.verdict_is texts;
        }

    -- The lines of these bytes were read, one at least.
    pub reads_all : 0 < length (whole_lines bytes) → DecidesBulk o new xs t (numbered_from (suc n) (whole_lines bytes)) verdict
    reads_all some =
        by_case (whole_lines bytes) fits few counted some (skips.represents (suc n) (map reading_of xs) h.carries) (skips.texts (suc n) (map reading_of xs) h.carries)
      where
        by_case : (ls : List (List ℕ)) → EachFits ls → n + length ls ≤ MAX_LINES → last ≡ n + length ls → 0 < length ls →
            ScannerRepresents new.scanner (readings_after (map reading_of xs) (lines_in_mode mode (suc n) ls)) → passing.HaveNoDirective mode (map reading_of xs) (numbered_from (suc n) ls) →
            DecidesBulk o new xs t (numbered_from (suc n) ls) verdict
        by_case [] fit less is one carries texts = absurd (omega (arith, one))
        by_case (l ∷ ls) fit less is one carries texts = by_lines l ls fit less is carries texts

-- Nonempty bytes that end with a line have a line.
pub some_line : (bytes : List ℕ) → passing.AreWholeLines bytes → 0 < length bytes → 0 < length (whole_lines bytes)
some_line bytes ends some = grind (arith, common_steps, ended_lines bytes ends)

-- No lines are consumed.
pub skips_none : (lines : LinesState) → lines ≡ consumed lines []
unfolding split_lines
skips_none lines = ap (λ n. record lines { before = n }) (omega arith)
