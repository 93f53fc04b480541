-- Lines that are printed one after another: the invariant between two of them.
use Rattle.std.proofs.Common.{◌≡◌, ◌∙◌, ◌+◌, ◌<◌, ℕ, List, [], ◌∷◌, ◌++◌, length, map, drop, get_or, Bool, true, false, not, ◌||◌, ◌&&◌, bytes_eq, refl, ap, append_assoc}
use Rattle.std.specs.List.{concat}
use Rattle.std.proofs.lemmas.List.{at_drop_more}
use Rattle.ud_model.specs.text.Lines.{text_of}
use Rattle.ud_model.specs.answer.Printing.{Judged, pieces_by, some_other}
use Rattle.test_sections.specs.Ruling.{judged_of}
use Rattle.test_sections.specs.declared.printing.Ruled.{Ruled}

-- `Goes Stands piece before all left old now same`: of the lines `all`, those but `left` are
-- printed. The printer represents the lines passed. The bytes `now` and the result `same` are right
-- so far.
pub record Goes (Stands : List Judged → Type 0) (piece : List Judged → Judged → List ℕ) (before all : List Judged) (left : List Judged) (old now : List ℕ) (same : Bool) : Type 0 where
  pub passed : List Judged
  pub represents : Stands passed
  pub printed : now ++ concat (pieces_by piece passed left) ≡ old ++ concat (pieces_by piece before all)
  pub others : (not same || some_other (pieces_by piece passed left) left) ≡ some_other (pieces_by piece before all) all

one_kept : (same kept others : Bool) → (not (same && kept) || others) ≡ (not same || (not kept || others))
one_kept true kept others = refl
one_kept false kept others = refl

-- The next line is printed.
pub goes_on : (Stands Later : List Judged → Type 0) (piece : List Judged → Judged → List ℕ) (before all left : List Judged) (here : Judged)
    (old now new : List ℕ) (same kept : Bool) → (g : Goes Stands piece before all (here ∷ left) old now same) →
    new ≡ now ++ piece g.passed here → kept ≡ bytes_eq (piece g.passed here) (text_of here.line) → Later (g.passed ++ here ∷ []) →
    Goes Later piece before all left old new (same && kept)
goes_on Stands Later piece before all left here old now new same kept g bytes is represents = record {
  passed = g.passed ++ here ∷ [];
  represents = represents;
  printed =
      ap (λ (t : List ℕ). t ++ concat (pieces_by piece (g.passed ++ here ∷ []) left)) bytes
      ∙ append_assoc now (piece g.passed here) (concat (pieces_by piece (g.passed ++ here ∷ []) left)) ∙ g.printed;
  others =
      one_kept same kept (some_other (pieces_by piece (g.passed ++ here ∷ []) left) left)
      ∙ ap (λ (k : Bool). not same || (not k || some_other (pieces_by piece (g.passed ++ here ∷ []) left) left)) is ∙ g.others;
}

-- The lines from an index on: the line there, and those after it.
pub next_line : (ls : List Ruled) (i : ℕ) (d : Ruled) → i < length ls →
    map judged_of (drop i ls) ≡ judged_of (get_or ls i d) ∷ map judged_of (drop (i + 1) ls)
next_line ls i d h = at_drop_more (map judged_of) ls i d h
