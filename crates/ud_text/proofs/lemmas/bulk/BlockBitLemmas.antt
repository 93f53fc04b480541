-- Blocks: the next significant byte by the remaining bits of a block.
use Rattle.std.proofs.Common.{◌≡◌, ℕ, zero, suc, ◌+◌, ◌-◌, ◌/◌, ◌%◌, ◌^◌, ◌<◌, ◌≤◌, Bool, cond, List, [], ◌∷◌, map, length, take, drop, min, refl, sym, ap, ◌∙◌, arith}
use Rattle.std.specs.Int.{w64, trailing_zeros}
use Rattle.std.specs.List.{position_or_len, drop-map}
use Rattle.std.proofs.lemmas.Bool.{cases_lt}
use Rattle.std.proofs.Math.Nat.{zero-div, div-one, div-div-eq-div-mul}
use Rattle.std.proofs.Math.Seq.{drop-nil}
use Rattle.std.proofs.Math.ListN.{length-drop}
use Rattle.std.proofs.lemmas.List.{drop-take}
use Rattle.std.proofs.lemmas.Simd.{trailing_mask_l, leading_from_mask_l, length-chunk}
use lib.Lanes.{mask_l}
use Rattle.ud_text.specs.bulk.Blocks.{significant_bits}
use Rattle.ud_text.specs.bulk.BulkLexemes.{is_significant}
use Rattle.ud_text.proofs.lemmas.searching.SimdLemmas.{search_take, search_drop, search_bound}
use Rattle.ud_text.proofs.lemmas.bulk.StepLemmas.{drop_both}
use Rattle.std.proofs.lemmas.Grind.{common_steps}

-- the bits shifted out are those of the first bytes
mask_rest : (ms : List Bool) (k : ℕ) → mask_l ms / 2 ^ k ≡ mask_l (drop k ms)
mask_rest ms zero = div-one (mask_l ms)
mask_rest [] (suc k) = zero-div (2 ^ suc k) ∙ ap mask_l (sym (drop-nil (suc k)))
mask_rest (m ∷ ms) (suc k) =
    grind (arith, div-div-eq-div-mul (mask_l (m ∷ ms)) 2 (2 ^ k), mask_rest ms k)

-- the remaining bits of a block are those of its bytes from a position on
pub rest_bits : (bytes : List ℕ) (begin at : ℕ) → begin ≤ at → at ≤ begin + 64 →
    significant_bits (take 64 (drop begin bytes)) / 2 ^ (at - begin) ≡ significant_bits (take (begin + 64 - at) (drop at bytes))
rest_bits bytes begin at h k = let size : 64 ≡ (at - begin) + (begin + 64 - at) = omega arith in
    let there : begin + (at - begin) ≡ at = omega arith in
    mask_rest (map is_significant (take 64 (drop begin bytes))) (at - begin)
    ∙ ap mask_l (drop-map is_significant (at - begin) (take 64 (drop begin bytes)))
    ∙ ap (λ (n : ℕ). significant_bits (drop (at - begin) (take n (drop begin bytes)))) size
    ∙ ap significant_bits (drop-take (at - begin) (begin + 64 - at) (drop begin bytes))
    ∙ ap (λ (l : List ℕ). significant_bits (take (begin + 64 - at) l)) (sym (drop_both bytes begin (at - begin)) ∙ ap (λ (n : ℕ). drop n bytes) there)

none_set : (xs : List ℕ) → length xs ≤ position_or_len is_significant xs → significant_bits xs ≡ 0
none_set [] h = refl
none_set (x ∷ xs) h = grind (arith, cond, none_set xs)

module _ (bytes : List ℕ) (at n : ℕ) (few : n ≤ 64) (room : at + n ≤ length bytes) (bits : ℕ) (is : bits ≡ significant_bits (take n (drop at bytes))) where
  long : length (take n (drop at bytes)) ≡ n
  long = length-chunk at n bytes room

  among : position_or_len is_significant (take n (drop at bytes)) ≡ min n (position_or_len is_significant (drop at bytes))
  among = search_take is_significant n (drop at bytes)

  -- the lowest bit is that of the first significant byte
  pub row_found : (bits ≡ 0 → ⊥) → at + trailing_zeros w64 bits ≡ at + position_or_len is_significant (drop at bytes)
  row_found h = grind (arith, trailing_mask_l, long, among, cases_lt, none_set)

  -- there is no significant byte, if no bit is set
  pub row_empty : bits ≡ 0 → n ≤ position_or_len is_significant (drop at bytes)
  row_empty h = grind (arith, leading_from_mask_l, among, long)

-- the first significant byte comes after bytes that aren't significant
pub row_later : (bytes : List ℕ) (at n : ℕ) → n ≤ position_or_len is_significant (drop at bytes) →
    at + position_or_len is_significant (drop at bytes) ≡ at + n + position_or_len is_significant (drop (at + n) bytes)
row_later bytes at n h = grind (arith, search_drop, drop_both)

-- a position that is found lies within the bytes, or at their end
pub row_bound : (bytes : List ℕ) (at next : ℕ) → at ≤ length bytes → next ≡ at + position_or_len is_significant (drop at bytes) → next ≤ length bytes
row_bound bytes at next h e = omega (arith, e, search_bound is_significant (drop at bytes) (position_or_len is_significant (drop at bytes)) refl, length-drop at bytes)

module _ (bytes : List ℕ) (begin at bits : ℕ) (is : bits ≡ significant_bits (take 64 (drop begin bytes))) (low : begin ≤ at) (high : at < begin + 64)
    (whole : (bits ≡ 0 → ⊥) → begin + 64 ≤ length bytes) (within : at ≤ length bytes) where
  left : bits / 2 ^ (at - begin) ≡ significant_bits (take (begin + 64 - at) (drop at bytes))
  left = ap (λ (n : ℕ). n / 2 ^ (at - begin)) is ∙ rest_bits bytes begin at low (omega arith)

  some_bit : (bits / 2 ^ (at - begin) ≡ 0 → ⊥) → bits ≡ 0 → ⊥
  some_bit some none = some (ap (λ (n : ℕ). n / 2 ^ (at - begin)) none ∙ zero-div (2 ^ (at - begin)))

  -- the lowest of the remaining bits of a block
  pub left_found : (bits / 2 ^ (at - begin) ≡ 0 → ⊥) →
      at + trailing_zeros w64 (bits / 2 ^ (at - begin)) ≡ at + position_or_len is_significant (drop at bytes)
  left_found h = grind (arith, some_bit, row_found, left)

  none_left : bits / 2 ^ (at - begin) ≡ 0 → begin + 64 ≤ length bytes → (end : ℕ) → end ≡ begin + 64 →
      end + position_or_len is_significant (drop end bytes) ≡ at + position_or_len is_significant (drop at bytes)
  none_left none room end e = let there : at + (begin + 64 - at) ≡ end = omega arith in
      sym (row_later bytes at (begin + 64 - at) (row_empty bytes at (begin + 64 - at) (omega arith) (omega arith) (bits / 2 ^ (at - begin)) left none)
      ∙ ap (λ (n : ℕ). n + position_or_len is_significant (drop n bytes)) there)

  -- what comes next lies after the block, if no bit remains
  pub left_empty : bits / 2 ^ (at - begin) ≡ 0 → (end : ℕ) → end ≡ min (begin + 64) (length bytes) →
      end + position_or_len is_significant (drop end bytes) ≡ at + position_or_len is_significant (drop at bytes)
  left_empty none end e = grind (arith, common_steps, none_left, left, leading_from_mask_l)

-- A wrapped difference below 64 is the position in a block.
pub record IsShift (at begin : ℕ) : Type 0 where
  pub low : begin ≤ at
  pub high : at < begin + 64
  pub is : (at + (18446744073709551616 - begin)) % 18446744073709551616 ≡ at - begin

pub shift_in_block : (at begin : ℕ) → at < 18446744073709551616 → begin + 64 < 18446744073709551616 →
    (at + (18446744073709551616 - begin)) % 18446744073709551616 < 64 → IsShift at begin
shift_in_block at begin h k l = grind arith
