-- Lanes: from the comparisons of many bytes at once to the first byte that passes a test.
use Rattle.std.proofs.Common.{◌≡◌, ℕ, zero, suc, ◌+◌, ◌-◌, ◌%◌, ◌^◌, ◌<◌, ◌≤◌, eqb, Bool, not, cond, ◌||◌, List, [], ◌∷◌, map, length, take, drop, replicate, min, bit_or, ap, ◌∙◌, arith}
use Rattle.std.specs.List.{position_or_len}
use Rattle.std.proofs.lemmas.Simd.{zip2_splat, zip2_of_maps, map-map, mask_l-mod, first_set_mask_l}
use Rattle.std.proofs.lemmas.List.{length-map, length-drop}
use Rattle.std.proofs.lemmas.List.Sums.{prefix_len-le-length}
use lib.Lanes.{zip2, mask_l, top}
use Rattle.ud_text.specs.searching.Searches.{lowest_set_bit}

-- `lane t`: the lane that a comparison returns: all bits or none
abbrev pub lane : Bool → ℕ
lane t = cond t 255 0

map_same : {X Y : Type 0} (f g : X → Y) → ((x : X) → f x ≡ g x) → (xs : List X) → map f xs ≡ map g xs
map_same f g h xs = grind arith

-- the lanes that equal a byte
pub lanes_equal : (v : List ℕ) (n y : ℕ) → length v ≡ n →
    zip2 (λ a b. cond (eqb a b) (2 ^ 8 - 1) 0) v (replicate n y) ≡ map (λ x. lane (eqb x y)) v
lanes_equal v n y long = zip2_splat (λ (a b : ℕ). cond (eqb a b) (2 ^ 8 - 1) 0) v n y long

-- the lanes that pass one test or another
pub lanes_or : (v : List ℕ) (p q : ℕ → Bool) {xs ys : List ℕ} → xs ≡ map (λ x. lane (p x)) v → ys ≡ map (λ x. lane (q x)) v →
    zip2 bit_or xs ys ≡ map (λ x. lane (p x || q x)) v
lanes_or v p q e f = zip2_of_maps bit_or (λ (x : ℕ). lane (p x)) (λ (x : ℕ). lane (q x)) v e f
    ∙ map_same (λ (x : ℕ). bit_or (lane (p x)) (lane (q x))) (λ (x : ℕ). lane (p x || q x)) (λ x. (grind arith)) v

-- the lanes as bits
pub lane_bits : {X : Type 0} (p : X → Bool) (v : List X) (n : ℕ) (z : List ℕ) → length v ≡ n → n ≤ 64 → z ≡ map (λ x. lane (p x)) v →
    mask_l (map (top 7) z) % 2 ^ 64 ≡ mask_l (map p v)
lane_bits {X} p v n z long few lanes =
    let tops : map (top 7) z ≡ map p v = grind (arith, map-map) in
    ap (λ (l : List Bool). mask_l l % 2 ^ 64) tops ∙ mask_l-mod (map p v) 64 (omega (arith, length-map v p, long))

-- the lowest bit is that of the first lane that passes
pub lowest_lane : {X : Type 0} (p : X → Bool) (v : List X) (n r : ℕ) (z : List ℕ) → length v ≡ n → n ≤ 64 → z ≡ map (λ x. lane (p x)) v →
    r ≡ lowest_set_bit (mask_l (map (top 7) z) % 2 ^ 64) n → r ≡ position_or_len p v
lowest_lane {X} p v n r z long few lanes found =
    found ∙ ap (λ (m : ℕ). lowest_set_bit m n) (lane_bits p v n z long few lanes) ∙ first_set_mask_l p v n long few

-- a search finds a position within the bytes, or their end
pub search_bound : {X : Type 0} (p : X → Bool) (xs : List X) (at : ℕ) → at ≡ position_or_len p xs → at ≤ length xs
search_bound p xs at e = omega (arith, e, prefix_len-le-length (λ x. not (p x)) xs)

-- a search over a prefix finds the first byte, if the byte is in the prefix
pub search_take : {X : Type 0} (p : X → Bool) (n : ℕ) (xs : List X) → position_or_len p (take n xs) ≡ min n (position_or_len p xs)
search_take p zero xs = omega arith
search_take p (suc n) [] = omega arith
search_take p (suc n) (x ∷ xs) = grind (arith, min, cond, search_take p n xs)

-- a search continues after bytes that don't pass
pub search_drop : {X : Type 0} (p : X → Bool) (at : ℕ) (xs : List X) → at ≤ position_or_len p xs → position_or_len p xs ≡ at + position_or_len p (drop at xs)
search_drop p zero xs h = omega arith
search_drop p (suc at) [] h = absurd (omega arith)
search_drop p (suc at) (x ∷ xs) h = grind (arith, cond, search_drop p at xs)

module _ {X : Type 0} (p : X → Bool) (n : ℕ) (xs : List X) (at count : ℕ) (found : count ≡ position_or_len p (take n (drop at xs))) where
  among : count ≡ min n (position_or_len p (drop at xs))
  among = found ∙ search_take p n (drop at xs)

  -- at most `n` lanes come before the first
  pub among_bound : count ≤ n
  among_bound = omega (arith, among)

  -- the first is among these lanes
  pub first_here : at ≤ position_or_len p xs → count < n → at + count ≡ position_or_len p xs
  first_here h k = omega (arith, among, search_drop p at xs h)

  -- the first is after these lanes
  pub first_later : at ≤ position_or_len p xs → n ≤ count → at + n ≤ position_or_len p xs
  first_later h k = omega (arith, among, search_drop p at xs h)

  -- the last lanes show where the first is, or that there is none
  pub first_at_last : n ≤ length xs → at ≡ length xs - n → at ≤ position_or_len p xs → at + count ≡ position_or_len p xs
  first_at_last h k l = grind (arith, prefix_len-le-length, among, search_drop, length-drop)
