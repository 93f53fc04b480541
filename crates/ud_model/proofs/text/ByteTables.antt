-- A table of bytes is compared with a test at each of the 256 bytes, by computing.
use Rattle.std.proofs.Common.{◌≡◌, ℕ, zero, suc, ◌<◌, Bool, true, ◌&&◌, not, nat_eq, get_or, List, arith, inl, inr}
use Rattle.std.specs.Bool.{beq}
use Rattle.std.proofs.lemmas.Bool.{cases_eq}

-- The two tests agree below `n`.
unfoldable pub agree_below : (ℕ → Bool) → (ℕ → Bool) → ℕ → Bool
agree_below f g zero = true
agree_below f g (suc n) = beq (f n) (g n) && agree_below f g n

both_of : (x y rest : Bool) → (beq x y && rest) ≡ true → (x ≡ y) × (rest ≡ true)
both_of x y rest h = grind arith

agree_at : (f g : ℕ → Bool) (n : ℕ) → agree_below f g n ≡ true → (b : ℕ) → b < n → f b ≡ g b
unfolding agree_below
agree_at f g zero h b lt = absurd (omega arith)
agree_at f g (suc n) h b lt = let both = both_of (f n) (g n) (agree_below f g n) h in
    elim (cases_eq b n) [ inl same ↦ rw same both.0 | inr other ↦ agree_at f g n both.1 b (omega arith) ]

-- The table has something else than this filler at a byte.
abbrev pub is_put : List ℕ → ℕ → ℕ → Bool
is_put table filler b = not (nat_eq (get_or table b 0) filler)

-- If a test passes exactly the bytes at which the table has no filler, the table decides the test
-- for each byte.
pub from_table : (table : List ℕ) (filler : ℕ) (test : ℕ → Bool) (b : ℕ) → b < 256 → agree_below (is_put table filler) test 256 ≡ true → is_put table filler b ≡ test b
from_table table filler test b lt h = agree_at _ _ 256 h b lt
