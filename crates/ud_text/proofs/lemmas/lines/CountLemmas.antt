-- Counting: the newlines of many bytes, by the lanes of vectors.
use Rattle.std.proofs.Common.{◌≡◌, ℕ, suc, ◌+◌, ◌<◌, ◌≤◌, ◌-◌, ◌^◌, Bool, eqb, cond, List, [], ◌∷◌, map, length, replicate, refl, sym, ◌∙◌, ap, arith, w8}
use Rattle.std.specs.List.{count_by}
use Rattle.std.proofs.lemmas.List.Recursion.{is_count_by}
use Rattle.std.proofs.lemmas.Simd.{tops_compared, zip2_splat, Each1-zip2, Each2-of}
use lib.Lanes.{Each1, Each2, zip2, sum_l, sel_l, top}
use mir.Val.{Fits, bits, hbits}
use Rattle.ud_text.specs.lines.Consuming.{is_newline}

-- `ones_of bytes`: a lane for each byte: 1 for a newline, else 0
abbrev pub ones_of : List ℕ → List ℕ
ones_of bytes = sel_l (map is_newline bytes) (replicate (length bytes) 1) (replicate (length bytes) 0)

-- as many ones as newlines
pub ones_sum : (bytes : List ℕ) → sum_l (ones_of bytes) ≡ count_by is_newline bytes
ones_sum = is_count_by (λ bytes. sum_l (ones_of bytes)) is_newline refl (λ b bytes. by_test (is_newline b) (sum_l (ones_of bytes)))
  where
    by_test : (t : Bool) (n : ℕ) → cond t 1 0 + n ≡ cond t (1 + n) n
    by_test t n = grind arith

pub ones_low : (bytes : List ℕ) → Each1 (λ n. n ≤ 1) (ones_of bytes)
ones_low [] = tt
ones_low (b ∷ bytes) = grind (arith, cond, ones_low bytes)

pub ones_length : (bytes : List ℕ) → length (ones_of bytes) ≡ length bytes
ones_length [] = refl
ones_length (b ∷ bytes) = ap suc (ones_length bytes)

-- the lanes that a comparison with a newline selects
pub selected : (bytes : List ℕ) (n : ℕ) → length bytes ≡ n →
    sel_l (map (top (hbits w8)) (zip2 (λ a b. cond (eqb a b) (2 ^ bits w8 - 1) 0) bytes (replicate n 10))) (replicate n 1) (replicate n 0) ≡ ones_of bytes
selected bytes n e =
    ap (λ (ms : List Bool). sel_l ms (replicate n 1) (replicate n 0)) (tops_compared w8 eqb bytes (replicate n 10) ∙ zip2_splat eqb bytes n 10 e)
    ∙ ap (λ (k : ℕ). sel_l (map is_newline bytes) (replicate k 1) (replicate k 0)) (sym e)

-- the lanes grow by at most 1
pub grown_low : (most : ℕ) (counts bytes : List ℕ) → Each1 (λ n. n ≤ most) counts → Each1 (λ n. n ≤ most + 1) (zip2 (λ a b. a + b) counts (ones_of bytes))
grown_low most counts bytes h = grind (arith, Each1-zip2, Each2-of, ones_low)

-- each lane fits a byte
pub grown_fits : (most : ℕ) (counts bytes : List ℕ) → most < 255 → Each1 (λ n. n ≤ most) counts → Each2 (λ a b. Fits w8 (a + b)) counts (ones_of bytes)
grown_fits most counts bytes h k = grind (arith, Each2-of, Fits, w8, ones_low)

-- lanes that a cast leaves as they are
pub map_itself : (xs : List ℕ) → map (λ x. x) xs ≡ xs
map_itself [] = refl
map_itself (x ∷ xs) = ap (λ (l : List ℕ). x ∷ l) (map_itself xs)
