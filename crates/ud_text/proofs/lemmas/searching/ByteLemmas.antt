-- Bytes: a test that passes for each number below 256 passes for each byte of a block.
use Rattle.std.proofs.Common.{◌≡◌, ℕ, zero, suc, ◌<◌, eqb, Bool, true, false, not, if◌then◌else◌, ◌&&◌, List, [], ◌∷◌, take, drop, get_or, refl, sym, ap, ◌∙◌, arith}
use Rattle.std.proofs.lemmas.Bool.{eqb-true, eq-eqb}

-- `agree a b`: two tests have the same outcome
unfoldable pub agree : Bool → Bool → Bool
agree a b = if a then b else not b

pub agree_same : (a b : Bool) → agree a b ≡ true → a ≡ b
unfolding agree
agree_same a b h = grind arith

-- `all_below p n`: all numbers below `n` pass the test
unfoldable pub all_below : (ℕ → Bool) → ℕ → Bool
all_below p zero = true
all_below p (suc n) = p n && all_below p n

pub both : (a b : Bool) → (a && b) ≡ true → (a ≡ true) × (b ≡ true)
both a b h = grind arith

-- each number below `n` passes the test, if all do
pub one_below : (p : ℕ → Bool) (n : ℕ) → all_below p n ≡ true → (b : ℕ) → b < n → p b ≡ true
unfolding all_below
one_below p zero e b h = absurd (omega (arith, h))
one_below p (suc n) e b h = by_test (eqb b n) refl (λ k. one_below p n (both (p n) (all_below p n) e).1 b k)
  where
    by_test : (t : Bool) → eqb b n ≡ t → (b < n → p b ≡ true) → p b ≡ true
    by_test true f lower = ap p (eqb-true b n f) ∙ (both (p n) (all_below p n) e).0
    by_test false f lower = lower (let k : (b ≡ n → ⊥) = λ s. (let e : true ≡ false = sym (eq-eqb b n s) ∙ f in cc) in omega (arith, h, k))

-- `AreBytes bytes`: each number is a byte
unfoldable pub AreBytes : List ℕ → Type 0
AreBytes [] = Unit {0}
AreBytes (b ∷ bs) = (b < 256) × AreBytes bs

are_bytes : (bs : List ℕ) → ((i : ℕ) → get_or bs i 0 < 256) → AreBytes bs
unfolding AreBytes
are_bytes [] h = tt
are_bytes (b ∷ bs) h = (h 0, are_bytes bs (λ i. h (suc i)))

bytes_drop : (n : ℕ) (bs : List ℕ) → AreBytes bs → AreBytes (drop n bs)
unfolding AreBytes
bytes_drop zero bs h = h
bytes_drop (suc n) [] h = tt
bytes_drop (suc n) (b ∷ bs) h = bytes_drop n bs h.1

bytes_take : (n : ℕ) (bs : List ℕ) → AreBytes bs → AreBytes (take n bs)
unfolding AreBytes
bytes_take zero bs h = tt
bytes_take (suc n) [] h = tt
bytes_take (suc n) (b ∷ bs) h = (h.0, bytes_take n bs h.1)

-- the bytes of a block are bytes
pub row_bytes : (bs : List ℕ) (at n : ℕ) → ((i : ℕ) → get_or bs i 0 < 256) → AreBytes (take n (drop at bs))
row_bytes bs at n h = bytes_take n (drop at bs) (bytes_drop at bs (are_bytes bs h))
