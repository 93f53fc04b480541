-- PrintedRuns: the output for the next line by its verdict, and for many text lines by that for
-- one.
use Rattle.std.proofs.Common.{arith, ◌≡◌, ℕ, List, [], ◌∷◌, ◌++◌, Bool, true, false, map, refl, sym, ap₂, subst, append_assoc, append-nil}
use Rattle.ud_model.specs.text.Lines.{Line, text_of}
use Rattle.ud_model.specs.answer.Printing.{Judged, last_removed, piece_after, pieces_by}
use Rattle.ud_model.specs.declared.verdict.Verdict.{Verdict}
use Rattle.ud_model.specs.declared.verdict.Verdict.TheVariants.{Keep, Remove}
use Rattle.ud_model.proofs.answer.PrintingLemmas.{last_removed-more}
use Rattle.ud_sections.specs.printing.Styles.{renumber_style_by}
use Rattle.ud_sections.specs.printing.PrinterOutputs.{judged_text, PrintsOne}
use Rattle.ud_sections.proofs.lemmas.printing.RenumberLemmas.{removed_piece, following_piece}

-- `own l` is printed for each text line `l` with this verdict, however many come after lines that the
-- printer got. The unchanged printer represents them too.
abbrev pub PrintsEach : (List Judged → Type 0) → (List Judged → Judged → List ℕ) → Verdict → (Line → List ℕ) → Type 0
PrintsEach given piece verdict own = (before : List Judged) → (ls : List Line) → given before →
    (pieces_by piece before (map (judged_text verdict) ls) ≡ map own ls) × given (before ++ map (judged_text verdict) ls)

module _ (given : List Judged → Type 0) (piece : List Judged → Judged → List ℕ) (verdict : Verdict) (own : Line → List ℕ) (one : PrintsOne given piece verdict own) where
  -- what is printed for one line after any lines is printed for each of many
  pub each_of : PrintsEach given piece verdict own
  each_of before [] h = (refl, subst given (sym (append-nil before)) h)
  each_of before (l ∷ ls) h = let k = one before (judged_text verdict l) h refl in
      let r = each_of (before ++ judged_text verdict l ∷ []) ls k.1 in (
        ap₂ (λ x xs. x ∷ xs) k.0 r.0,
        subst given (append_assoc before (judged_text verdict l ∷ []) (map (judged_text verdict) ls)) r.1,
      )

-- after a line that isn't removed, a kept line is printed as it is, and not numbered
pub kept_one : (u removed : Bool) → removed ≡ false → PrintsOne (λ before. removed ≡ last_removed before) (piece_after (renumber_style_by u)) Keep text_of
kept_one u removed h = grind (arith, following_piece, last_removed-more)

-- after a removed line, nothing is printed for a removed one
pub removed_one : (u removed : Bool) → removed ≡ true → PrintsOne (λ before. removed ≡ last_removed before) (piece_after (renumber_style_by u)) Remove (λ l. [])
removed_one u removed h = grind (arith, removed_piece, last_removed-more)
