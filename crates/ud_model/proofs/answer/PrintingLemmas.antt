-- The output for a text grows line by line.
use Rattle.std.proofs.Common.{◌≡◌, List, ℕ, [], ◌∷◌, ◌++◌, not, ◌||◌, bytes_eq, refl, ap, sym, append_assoc, append-nil, arith}
use Rattle.std.specs.List.{concat}
use Rattle.std.proofs.lemmas.List.Folds.{concat-append}
use Rattle.ud_model.specs.text.Lines.{text_of}
use Rattle.ud_model.specs.sections.Pruning.{is_removed}
use Rattle.ud_model.specs.answer.Printing.{Judged, last_removed, pieces_by, some_other}

-- After one more line, the last one is removed if that line is.
pub last_removed-more : (js : List Judged) (j : Judged) → last_removed (js ++ j ∷ []) ≡ is_removed j.verdict
last_removed-more (k ∷ l ∷ js) j = last_removed-more (l ∷ js) j
last_removed-more _ _ = refl

-- A line after others adds its piece after theirs.
pub pieces_by-more : (piece : List Judged → Judged → List ℕ) (before js : List Judged) (j : Judged) →
    pieces_by piece before (js ++ j ∷ []) ≡ pieces_by piece before js ++ piece (before ++ js) j ∷ []
pieces_by-more piece before [] j = ap (λ (ks : List Judged). piece ks j ∷ []) (sym (append-nil before))
pieces_by-more piece before (k ∷ js) j = simp (append_assoc, pieces_by-more piece (before ++ k ∷ []) js j)

-- A line after others is printed after them.
pub printed-more : (piece : List Judged → Judged → List ℕ) (js : List Judged) (j : Judged) →
    concat (pieces_by piece [] (js ++ j ∷ [])) ≡ concat (pieces_by piece [] js) ++ piece js j
printed-more piece js j = grind (arith, pieces_by-more, concat-append, append-nil)

-- A line after others differs, or one of these does.
pub differ-more : (piece : List Judged → Judged → List ℕ) (before js : List Judged) (j : Judged) →
    some_other (pieces_by piece before (js ++ j ∷ [])) (js ++ j ∷ [])
    ≡ (some_other (pieces_by piece before js) js || not (bytes_eq (piece (before ++ js) j) (text_of j.line)))
differ-more piece before [] j = grind (arith, append-nil)
differ-more piece before (k ∷ js) j = grind (arith, append_assoc, differ-more piece (before ++ k ∷ []) js j)
