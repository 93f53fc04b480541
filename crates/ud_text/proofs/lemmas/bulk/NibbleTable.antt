-- The table by low nibbles: it finds the significant bytes, and no others.
use Rattle.std.proofs.Common.{◌≡◌, ℕ, ◌+◌, ◌*◌, ◌/◌, ◌^◌, ◌<◌, Bool, true, cond, eqb, List, [], ◌∷◌, map, length, take, get_or, replicate, bit_and, ◌-◌, refl, sym, ap, ap₂, ◌∙◌, arith, w8}
use Rattle.std.proofs.lemmas.Bool.{eqb-true}
use Rattle.std.proofs.lemmas.List.{get_or-map, length-map, ext_get_or}
use Rattle.std.proofs.lemmas.Nat.{and_le_r}
use Rattle.std.proofs.lemmas.Simd.{Each1-all, Each1-zip2, Each2-splat, length-zip2, swz_l, SwzOk, SwzOk-from_below, length-swz_l, get_or-swz_l_below, zip2_of_maps, zip2_splat}
use lib.Lanes.{zip2}
use Rattle.ud_text.specs.bulk.BulkLexemes.{is_significant}
use Rattle.ud_text.specs.declared.bulk.blocks.TheConstants.{BY_LOW_NIBBLE}
use Rattle.ud_text.proofs.lemmas.searching.SimdLemmas.{lane}
use Rattle.ud_text.proofs.lemmas.searching.ByteLemmas.{AreBytes, all_below, one_below, agree, agree_same}

-- the low nibbles are positions in the table
pub low_ok : (v : List ℕ) → length v ≡ 64 → SwzOk w8 16 64 0 (zip2 bit_and v (replicate 64 15))
low_ok v long =
    SwzOk-from_below w8 16 4 64 0 (zip2 bit_and v (replicate 64 15)) refl (omega (arith, length-zip2 bit_and v (replicate 64 15) long))
    (Each1-zip2 bit_and (λ j. j < 16) v (replicate 64 15) (Each2-splat (λ a b. bit_and a b < 16) v 64 15 (Each1-all (λ a. bit_and a 15 < 16) (λ a. omega (arith, and_le_r a 15)) v)))

-- `told_by b`: the byte of the table for the low nibble of `b`
abbrev pub told_by : ℕ → ℕ
told_by b = get_or (take 16 BY_LOW_NIBBLE) (bit_and b 15) 0

copies : all_below (λ i. all_below (λ j. eqb (get_or BY_LOW_NIBBLE (16 * ((0 + i) / 16) + j) 0) (get_or (take 16 BY_LOW_NIBBLE) j 0)) 16) 64 ≡ true
unfolding all_below
copies = refl

-- the table as it is read at each low nibble
reported : (v js : List ℕ) → length v ≡ 64 → js ≡ map (λ x. bit_and x 15) v → swz_l w8 16 BY_LOW_NIBBLE 0 js ≡ map told_by v
reported v js long e =
    let size : length js ≡ 64 = ap length e ∙ length-map v (λ x. bit_and x 15) ∙ long in
    ext_get_or 0 _ _ (length-swz_l w8 16 BY_LOW_NIBBLE 0 js ∙ size ∙ sym (length-map v told_by ∙ long)) (λ i h.
    let lt : i < 64 = omega (arith, length-swz_l w8 16 BY_LOW_NIBBLE 0 js, h, size) in
    let within : i < length v = omega (arith, lt, long) in
    let is : get_or js i 0 ≡ bit_and (get_or v i 0) 15 = ap (λ (l : List ℕ). get_or l i 0) e ∙ get_or-map (λ x. bit_and x 15) v i 0 0 within in
    let below : get_or js i 0 < 16 = omega (arith, is, and_le_r (get_or v i 0) 15) in
    let row : all_below (λ j. eqb (get_or BY_LOW_NIBBLE (16 * ((0 + i) / 16) + j) 0) (get_or (take 16 BY_LOW_NIBBLE) j 0)) 16 ≡ true =
    one_below (λ a. all_below (λ j. eqb (get_or BY_LOW_NIBBLE (16 * ((0 + a) / 16) + j) 0) (get_or (take 16 BY_LOW_NIBBLE) j 0)) 16) 64 copies i lt in
    get_or-swz_l_below w8 16 BY_LOW_NIBBLE 0 js i (omega (arith, lt, size)) below
    ∙ eqb-true _ _ (one_below (λ j. eqb (get_or BY_LOW_NIBBLE (16 * ((0 + i) / 16) + j) 0) (get_or (take 16 BY_LOW_NIBBLE) j 0)) 16 row (get_or js i 0) below)
    ∙ ap (λ (k : ℕ). get_or (take 16 BY_LOW_NIBBLE) k 0) is ∙ sym (get_or-map told_by v i 0 0 within))

-- `is_told b`: the byte is the table's for its low nibble
abbrev pub is_told : ℕ → Bool
is_told b = eqb b (told_by b)

-- the table has the significant bytes for their low nibbles, and no others
told_special : (b : ℕ) → b < 256 → is_told b ≡ is_significant b
unfolding agree all_below
told_special b h = agree_same (is_told b) (is_significant b) (one_below (λ x. agree (is_told x) (is_significant x)) 256 refl b h)

pub map_told : (bs : List ℕ) → AreBytes bs → map is_told bs ≡ map is_significant bs
unfolding AreBytes
map_told [] h = refl
map_told (b ∷ bs) h = ap₂ (λ (t : Bool) (ts : List Bool). t ∷ ts) (told_special b h.0) (map_told bs h.1)

map_id : (xs : List ℕ) → xs ≡ map (λ x. x) xs
map_id [] = refl
map_id (x ∷ xs) = ap (λ (l : List ℕ). x ∷ l) (map_id xs)

-- the lanes that equal the table's bytes for their low nibbles
pub lanes_told : (v : List ℕ) → length v ≡ 64 →
    zip2 (λ a b. cond (eqb a b) (2 ^ 8 - 1) 0) v (swz_l w8 16 BY_LOW_NIBBLE 0 (zip2 bit_and v (replicate 64 15))) ≡ map (λ x. lane (is_told x)) v
lanes_told v long =
    zip2_of_maps (λ (a b : ℕ). cond (eqb a b) (2 ^ 8 - 1) 0) (λ (x : ℕ). x) told_by v (map_id v) (reported v (zip2 bit_and v (replicate 64 15)) long (zip2_splat bit_and v 64 15 long))
