-- Keywords: a fact of each row of the table is a fact of each keyword and its kind. Two bytes show
-- that no keyword begins a word.
use Rattle.std.proofs.Common.{◌≡◌, ℕ, nat_eq, List, [], ◌∷◌, Bool, true, false, ◌&&◌, Some, None, bytes_eq, if◌then◌else◌, refl, arith}
use Rattle.std.proofs.lemmas.Bool.{and_parts, or_cases, eqb-true}
use Rattle.std.specs.List.{list_any, starts_with}
use Rattle.ud_model.specs.text.Bytes.{is_word_byte, are_word_bytes}
use Rattle.std.proofs.lemmas.Slice.Eq.{bytes_eq-Decides}
use Rattle.ud_model.specs.sections.Directives.{keywords, kind_among, kind_of, is_no_keyword, is_prefix_of_keyword}
use Rattle.ud_model.specs.declared.kind.Kind.{Kind}
use Rattle.ud_model.proofs.output.Each.{Each}

module _ (P : List ℕ × Kind → Type 0) where
  by_word : (w v : List ℕ) (j k : Kind) (rows : List (List ℕ × Kind)) (t : Bool) → (t ≡ true → w ≡ v) → (kind_among rows w ≡ Some k → P (w, k)) → P (v, j) →
      (if t then Some j else kind_among rows w) ≡ Some k → P (w, k)
  by_word w v j k rows t f h a e = grind arith

  row_holds : (rows : List (List ℕ × Kind)) → Each P rows → (w : List ℕ) (k : Kind) → kind_among rows w ≡ Some k → P (w, k)
  row_holds [] a w k e = cc
  row_holds ((v, j) ∷ rows) a w k e = by_word w v j k rows (bytes_eq w v) (bytes_eq-Decides w v).0 (row_holds rows a.1 w k) a.0 e

  -- A fact of each row is a fact of each keyword.
  pub keyword_holds : Each P keywords → (w : List ℕ) (k : Kind) → kind_of w ≡ Some k → P (w, k)
  keyword_holds a w k e = row_holds keywords a w k e

-- Each row passes.
abbrev pub all_pass : (List ℕ × Kind → Bool) → List (List ℕ × Kind) → Bool
all_pass p [] = true
all_pass p (row ∷ rows) = p row && all_pass p rows

each_passes : (p : List ℕ × Kind → Bool) (rows : List (List ℕ × Kind)) → all_pass p rows ≡ true → Each (λ row. p row ≡ true) rows
each_passes p [] a = tt
each_passes p (row ∷ rows) a =
    let b : (p row ≡ true) × (all_pass p rows ≡ true) = and_parts (p row) (all_pass p rows) a in (b.0, each_passes p rows b.1)

-- A test that each row of the table passes is true of each keyword.
pub each_keyword : (p : List ℕ × Kind → Bool) → all_pass p keywords ≡ true → (w : List ℕ) (k : Kind) → kind_of w ≡ Some k → p (w, k) ≡ true
each_keyword p a w k e = keyword_holds (λ row. p row ≡ true) (each_passes p keywords a) w k e

prefix_words : (w k : List ℕ) → starts_with nat_eq k w ≡ true → are_word_bytes k ≡ true → are_word_bytes w ≡ true
prefix_words [] k e a = refl
prefix_words (b ∷ w) [] e a = cc
prefix_words (b ∷ w) (c ∷ k) e a =
    let p : (nat_eq b c ≡ true) × (starts_with nat_eq k w ≡ true) = and_parts (nat_eq b c) (starts_with nat_eq k w) e in
    let q : (is_word_byte c ≡ true) × (are_word_bytes k ≡ true) = and_parts (is_word_byte c) (are_word_bytes k) a in
    cc (eqb-true b c p.0, q.0, prefix_words w k p.1 q.1)

prefix_among : (rows : List (List ℕ × Kind)) (w : List ℕ) → all_pass (λ row. are_word_bytes row.0) rows ≡ true →
    list_any (λ (row : List ℕ × Kind). starts_with nat_eq row.0 w) rows ≡ true → are_word_bytes w ≡ true
prefix_among [] w a e = cc
prefix_among (row ∷ rows) w a e = grind (arith, and_parts, or_cases, prefix_words, prefix_among rows w)

-- A prefix of a keyword has only word bytes.
pub prefix_is_word : (w : List ℕ) → is_prefix_of_keyword w ≡ true → are_word_bytes w ≡ true
prefix_is_word w e = prefix_among keywords w refl e

-- A word that begins with two such bytes is no keyword, and no prefix of one.
pub no_keyword : (b c : ℕ) (w v : List ℕ) → is_no_keyword b c ≡ true → (is_word_byte c ≡ true → w ≡ c ∷ v) → (kind_of (b ∷ w) ≡ None) × (is_prefix_of_keyword (b ∷ w) ≡ false)
no_keyword b c w v e f = grind (arith, and_parts)
