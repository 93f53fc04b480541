-- Sets: where they end, whatever byte is asked for.
use Rattle.std.proofs.Common.{◌≡◌, ℕ, zero, suc, ◌≤◌, ◌||◌, List, [], ◌∷◌, length, Bool, true, false, cond, Option, Some, None, option_map, refl, ap, arith}
use Rattle.std.proofs.lemmas.Grind.{common_steps}
use Rattle.ud_tree.specs.Patterns.{SetTest, ends_set, item_high, item_after, within, set_within, set_from, opposite, negates, set_after}

-- The pattern after a set.
abbrev pub ends : Option SetTest → Option (List ℕ)
ends o = option_map (λ (t : SetTest). t.after) o

-- A set ends at the same place for each byte.
pub within_alike : (n : ℕ) (first f g : Bool) (text : List ℕ) (b c : ℕ) → ends (set_within n first f text b) ≡ ends (set_within n first g text c)
within_alike zero first f g text b c = refl
within_alike (suc n) first f g [] b c = refl
within_alike (suc n) first f g (d ∷ rest) b c =
    let has : ℕ → Bool = λ x. within d (item_high d rest) x in
    grind (arith, within_alike n false (f || has b) (g || has c) (item_after rest) b c)

opposite_ends : (o : Option SetTest) → ends (opposite o) ≡ ends o
opposite_ends o = grind arith

pub set_alike : (text : List ℕ) (b c : ℕ) → ends (set_after text b) ≡ ends (set_after text c)
set_alike text b c = grind (arith, common_steps, opposite_ends, within_alike)

-- The text after a byte or a range of a set is no longer than the text after its first byte.
pub item_shorter : (rest : List ℕ) → length (item_after rest) ≤ length rest
item_shorter rest = grind arith

-- The pattern after a set is no longer than the text of the set.
within_shorter : (n : ℕ) (first f : Bool) (text : List ℕ) (b : ℕ) (t : SetTest) → set_within n first f text b ≡ Some t → length t.after ≤ length text
within_shorter zero first f text b t e = absurd cc
within_shorter (suc n) first f [] b t e = absurd cc
within_shorter (suc n) first f (d ∷ rest) b t e = grind (arith, common_steps, item_shorter, within_shorter n false (f || within d (item_high d rest) b) (item_after rest) b t)

opposite_shorter : (k : ℕ) (o : Option SetTest) → ((t : SetTest) → o ≡ Some t → length t.after ≤ k) → (t : SetTest) → opposite o ≡ Some t → length t.after ≤ k
opposite_shorter k o h t e = grind arith

pub set_shorter : (text : List ℕ) (b : ℕ) (t : SetTest) → set_after text b ≡ Some t → length t.after ≤ length text
set_shorter [] b t e = absurd cc
set_shorter (d ∷ rest) b t e = by_first (negates d) e
  where
    by_first : (n : Bool) → cond n (opposite (set_from rest b)) (set_from (d ∷ rest) b) ≡ Some t → length t.after ≤ length (d ∷ rest)
    by_first true is =
        let short = opposite_shorter (length rest) (set_from rest b) (λ u same. within_shorter (length rest) true false rest b u same) t is in
        omega arith
    by_first false is = within_shorter (length (d ∷ rest)) true false (d ∷ rest) b t is

-- One byte or range more of a set is read.
pub within_next : (n : ℕ) (first f : Bool) (c : ℕ) (rest : List ℕ) (b : ℕ) → length (c ∷ rest) ≤ n → ends_set first c ≡ false →
    (m : ℕ) × (length (item_after rest) ≤ m) × (set_within n first f (c ∷ rest) b ≡ set_within m false (f || within c (item_high c rest) b) (item_after rest) b)
within_next zero first f c rest b few e = absurd (omega arith)
within_next (suc n) first f c rest b few e =
    let short : length (item_after rest) ≤ length rest = item_shorter rest in
    (n, omega arith, ap (λ (x : Bool). cond x (Some (record { has = f; after = rest })) (set_within n false (f || within c (item_high c rest) b) (item_after rest) b)) e)

-- A set ends.
pub within_end : (n : ℕ) (first f : Bool) (c : ℕ) (rest : List ℕ) (b : ℕ) → length (c ∷ rest) ≤ n → ends_set first c ≡ true →
    set_within n first f (c ∷ rest) b ≡ Some (record { has = f; after = rest })
within_end zero first f c rest b few e = absurd (omega arith)
within_end (suc n) first f c rest b few e = grind arith

-- A set without an end.
pub within_none : (n : ℕ) (first f : Bool) (b : ℕ) → set_within n first f [] b ≡ None
within_none zero first f b = refl
within_none (suc n) first f b = refl
