-- Parts: what follows a part is the same for each byte that it matches.
use Rattle.std.proofs.Common.{◌≡◌, ◌∙◌, ℕ, ◌≤◌, List, [], ◌∷◌, length, Bool, true, false, cond, Option, Some, None, sym, subst, arith, ◌==◌}
use Rattle.ud_tree.specs.Patterns.{SetTest, set_after, after_set, after_backslash, after_byte, after_part}
use Rattle.ud_tree.proofs.PatternSetLemmas.{ends, set_alike, set_shorter}

-- The value that is there by a test.
some_by : (e : Bool) (x r : List ℕ) → cond e (Some x) None ≡ Some r → x ≡ r
some_by true x r h = cc
some_by false x r h = absurd cc

byte_alike : (d : ℕ) (rest : List ℕ) (b : ℕ) (r : List ℕ) → after_byte d rest b ≡ Some r → rest ≡ r
byte_alike d rest b r h = some_by (d == b) rest r h

sets_alike : (o q : Option SetTest) (rest : List ℕ) (b c : ℕ) (r s : List ℕ) → ends o ≡ ends q → after_set o rest b ≡ Some r → after_set q rest c ≡ Some s → r ≡ s
sets_alike o q rest b c r s e h k = grind arith

backslash_alike : (rest : List ℕ) (b c : ℕ) (r s : List ℕ) → after_backslash rest b ≡ Some r → after_backslash rest c ≡ Some s → r ≡ s
backslash_alike rest b c r s h k = grind arith

pub part_alike : (p : List ℕ) (b c : ℕ) (r s : List ℕ) → after_part p b ≡ Some r → after_part p c ≡ Some s → r ≡ s
part_alike [] b c r s h k = absurd cc
part_alike (d ∷ rest) b c r s h k = by_kind (d == 42) (d == 63) (d == 91) (d == 92) h k
  where
    by_kind : (t u v w : Bool) →
        cond t None (cond u (Some rest) (cond v (after_set (set_after rest b) rest b) (cond w (after_backslash rest b) (after_byte d rest b)))) ≡ Some r →
        cond t None (cond u (Some rest) (cond v (after_set (set_after rest c) rest c) (cond w (after_backslash rest c) (after_byte d rest c)))) ≡ Some s → r ≡ s
    by_kind true u v w h k = absurd cc
    by_kind false true v w h k = cc
    by_kind false false true w h k = sets_alike (set_after rest b) (set_after rest c) rest b c r s (set_alike rest b c) h k
    by_kind false false false true h k = backslash_alike rest b c r s h k
    by_kind false false false false h k = sym (byte_alike d rest b r h) ∙ byte_alike d rest c s k

as_short : (k : ℕ) (x r : List ℕ) → x ≡ r → length x ≤ k → length r ≤ k
as_short k x r e h = subst (λ (y : List ℕ). length y ≤ k) e h

set_part_shorter : (o : Option SetTest) (rest : List ℕ) (b : ℕ) (r : List ℕ) → ((t : SetTest) → o ≡ Some t → length t.after ≤ length rest) → after_set o rest b ≡ Some r → length r ≤ length rest
set_part_shorter o rest b r short h = grind arith

backslash_shorter : (rest : List ℕ) (b : ℕ) (r : List ℕ) → after_backslash rest b ≡ Some r → length r ≤ length rest
backslash_shorter rest b r h = grind arith

-- The pattern after a part is no longer than the pattern.
pub part_shorter : (p : List ℕ) (b : ℕ) (r : List ℕ) → after_part p b ≡ Some r → length r ≤ length p
part_shorter p b r h =
    grind (arith, as_short, set_part_shorter, set_shorter, backslash_shorter, byte_alike)
