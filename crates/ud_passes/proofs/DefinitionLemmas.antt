-- Definitions: where no `#` has a definition after it, no line has one.
use Rattle.std.proofs.Common.{◌≡◌, ℕ, zero, suc, ◌+◌, ◌-◌, ◌≤◌, Bool, true, false, if◌then◌else◌}
use Rattle.std.proofs.Common.{List, [], ◌∷◌, ◌++◌, length, map, drop, refl, ◌∙◌, ap, subst}
use Rattle.std.proofs.Common.{append_assoc, length-append, arith}
use Rattle.std.specs.List.{concat}
use Rattle.std.proofs.lemmas.Bool.{and_right}
use Rattle.std.proofs.Math.Seq.{drop-append_seam}
use Rattle.memchr.specs.Find.{Nowhere, Passes, is_byte}
use Rattle.ud_model.specs.text.Bytes.{is_white, skip_white, leading_word, skip_word}
use Rattle.ud_model.specs.text.Lines.{Line, AreWhole, IsWhole, line_at, numbered_from}
use Rattle.ud_model.specs.text.Scans.{Reading}
use Rattle.ud_model.specs.conditions.Table.{Argument}
use Rattle.ud_model.proofs.text.LinesLemmas.{body-ending}
use Rattle.ud_text.proofs.lemmas.bulk.QuietLineLemmas.{IsFeed, one, two, whole_ending}
use Rattle.ud_passes.specs.remaining.Definitions.{defines_by, defines_after, defines, is_definition}
use Rattle.ud_passes.specs.remaining.Definitions.{IsClear}

-- 1. Words never go on after the end of a line.

-- `Ends t`: the bytes `t` begin with the ending of a line.
data Ends : List ℕ → Type 0 where
  feed : (m : List ℕ) → Ends (10 ∷ m)
  return_feed : (m : List ℕ) → Ends (13 ∷ 10 ∷ m)

leading_word-ends : (t e : List ℕ) → Ends e → leading_word (t ++ e) ≡ leading_word t
leading_word-ends [] _ (feed m) = refl
leading_word-ends [] _ (return_feed m) = refl
leading_word-ends (b ∷ bs) e h = grind (arith, leading_word-ends bs e h)

-- `Longer s t`: the bytes `s` are `t` and those from the end of the line on.
abbrev Longer : List ℕ → List ℕ → Type 0
Longer s t = (e : List ℕ) × Ends e × (s ≡ t ++ e)

skip_white-ends : (t e : List ℕ) → Ends e → Longer (skip_white (t ++ e)) (skip_white t)
skip_white-ends [] _ (feed m) = (10 ∷ m, feed m, refl)
skip_white-ends [] _ (return_feed m) = (10 ∷ m, feed m, refl)
skip_white-ends (b ∷ bs) e h = by (is_white b) (skip_white-ends bs e h)
  where
    by : (w : Bool) → Longer (skip_white (bs ++ e)) (skip_white bs) → Longer (if w then skip_white (bs ++ e) else b ∷ (bs ++ e)) (if w then skip_white bs else b ∷ bs)
    by true more = more
    by false more = (e, h, refl)

skip_word-ends : (t e : List ℕ) → Ends e → skip_word (t ++ e) ≡ skip_word t ++ e
skip_word-ends [] _ (feed m) = refl
skip_word-ends [] _ (return_feed m) = refl
skip_word-ends (b ∷ bs) e h = grind (arith, skip_word-ends bs e h)

-- The word after the white space of a text.
word-ends : (t e : List ℕ) → Ends e → leading_word (skip_white (t ++ e)) ≡ leading_word (skip_white t)
word-ends t e h =
    let w = skip_white-ends t e h in grind (arith, w.2, leading_word-ends (skip_white t) w.0 w.1)

module _ (table : List Argument) where
  defines_by-ends : (t e : List ℕ) → Ends e → defines_by table (t ++ e) ≡ defines_by table t
  defines_by-ends t e h = grind (arith, leading_word-ends, skip_word-ends, word-ends)

  defines_after-ends : (t e : List ℕ) → Ends e → defines_after table (t ++ e) ≡ defines_after table t
  defines_after-ends t e h = let w = skip_white-ends t e h in
      ap (defines_by table) w.2 ∙ defines_by-ends (skip_white t) w.0 w.1

  -- 2. Clear bytes.

  same : (m n : ℕ) (t : List ℕ) → m ≡ n → IsClear table m t → IsClear table n t
  same m n t e h = grind arith

  none_left : (n : ℕ) → IsClear table n []
  none_left n = grind arith

  pub clear_drop : (k n : ℕ) (t : List ℕ) → IsClear table n t → IsClear table (n - k) (drop k t)
  clear_drop zero n t h = same n (n - 0) t (omega arith) h
  clear_drop (suc k) zero t h = same 0 (0 - suc k) (drop (suc k) t) (omega arith) tt
  clear_drop (suc k) (suc n) [] h = none_left (suc n - suc k)
  clear_drop (suc k) (suc n) (b ∷ bs) h = grind (arith, same, clear_drop k n bs h.1)

  -- Clear bytes after clear bytes.
  pub clear_more : (n m : ℕ) (t : List ℕ) → IsClear table n t → IsClear table m (drop n t) → IsClear table (n + m) t
  clear_more zero m t h k = same m (0 + m) t (omega arith) k
  clear_more (suc n) m [] h k = none_left (suc n + m)
  clear_more (suc n) m (b ∷ bs) h k = same (suc (n + m)) (suc n + m) (b ∷ bs) (omega arith) (h.0, clear_more n m bs h.1 k)

  -- Bytes among which a search finds no `#`.
  pub clear_hashless : (n : ℕ) (t : List ℕ) → Nowhere (Passes (is_byte 35) t) 0 n → IsClear table n t
  clear_hashless zero t none = tt
  clear_hashless (suc n) [] none = tt
  clear_hashless (suc n) (b ∷ bs) none =
      let here = none 0 (omega arith) (omega arith) in
      let rest = clear_hashless n bs (λ k low high. none (suc k) (omega arith) (omega arith)) in
      grind (arith, here, rest)

  -- A byte more that has no definition after it.
  pub clear_one : (n : ℕ) (t : List ℕ) → IsClear table n t → defines_after table (drop (n + 1) t) ≡ false → IsClear table (n + 1) t
  clear_one zero [] h none = tt
  clear_one zero (b ∷ bs) h none = grind (arith, and_right, none)
  clear_one (suc n) [] h none = none_left (suc n + 1)
  clear_one (suc n) (b ∷ bs) h none = grind (arith, same, clear_one n bs h.1)

  -- 3. Lines.

  line_clear : (t e : List ℕ) (n : ℕ) → Ends e → length t ≤ n → IsClear table n (t ++ e) → defines table t ≡ false
  line_clear [] e n h long c = refl
  line_clear (b ∷ bs) e zero h long c = absurd (omega arith)
  line_clear (b ∷ bs) e (suc n) h long c =
      grind (arith, defines_after-ends bs e h, line_clear bs e n h (omega arith) c.1)

  ends_on : (e more : List ℕ) → IsFeed e → Ends (e ++ more)
  ends_on _ more one = feed more
  ends_on _ more two = return_feed more

  -- `DefineNothing rs`: none of the lines `rs` is a definition.
  abbrev pub DefineNothing : List Reading → Type 0
  DefineNothing [] = Unit {0}
  DefineNothing (r ∷ rs) = (is_definition table r ≡ false) × DefineNothing rs

  -- The first line of clear bytes.
  first_clear : (l after : List ℕ) (first n : ℕ) → IsWhole l → length l ≤ n → IsClear table n (l ++ after) → (r : Reading) → r.line ≡ line_at first l → is_definition table r ≡ false
  first_clear l after first n whole long c r e = let k : Line = line_at first l in
      let parts : l ++ after ≡ k.body ++ (k.ending ++ after) =
      grind (arith, body-ending l, append_assoc) in
      let ends = ends_on k.ending after (whole_ending l whole) in
      let clear = line_clear k.body (k.ending ++ after) n ends in
      let none : defines table k.body ≡ false =
      grind (arith, c, body-ending l, parts, length-append, long, clear) in
      grind (arith, none, e)

  -- The lines of clear bytes define nothing.
  pub lines_clear : (ls : List (List ℕ)) (first n : ℕ) (more : List ℕ) → AreWhole ls → length (concat ls) ≤ n → IsClear table n (concat ls ++ more) →
      (rs : List Reading) → map (λ (r : Reading). r.line) rs ≡ numbered_from first ls → DefineNothing rs
  lines_clear [] first n more w long c [] e = tt
  lines_clear [] first n more w long c (r ∷ rs) e = cc
  lines_clear (l ∷ ls) first n more w long c [] e = tt
  lines_clear (l ∷ ls) first n more w long c (r ∷ rs) e =
      let head : r.line ≡ line_at first l = cc in
      let tail : map (λ (r : Reading). r.line) rs ≡ numbered_from (suc first) ls = cc in
      let size = length-append l (concat ls) in
      let d : IsClear table n (l ++ (concat ls ++ more)) = subst (IsClear table n) (append_assoc l (concat ls) more) c in (
        first_clear l (concat ls ++ more) first n w.0 (omega (arith, size, long)) d r head,
        lines_clear ls (suc first) (n - length l) more w.1 (omega (arith, size, long))
            (subst (IsClear table (n - length l)) (drop-append_seam l (concat ls ++ more)) (clear_drop (length l) n (l ++ (concat ls ++ more)) d)) rs tail,
      )
