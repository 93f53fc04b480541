-- Near newlines: a newline that is found among the first bytes is the first one.
use Rattle.std.proofs.Common.{◌≡◌, ℕ, zero, suc, ◌+◌, ◌<◌, ◌≤◌, nat_eq, not, cond, Bool, true, false, List, [], ◌∷◌, length, take, refl, sym, ◌∙◌, ap, subst, arith}
use Rattle.std.proofs.lemmas.Bool.{eq-eqb}
use Rattle.std.specs.List.{position_or_len}
use Rattle.ud_text.specs.lines.LinesState.{UpToNewline}
use Rattle.ud_text.specs.searching.Searches.{is_one_of}

-- `newlines`: the newline, five times
abbrev pub newlines : List ℕ
newlines = 10 ∷ 10 ∷ 10 ∷ 10 ∷ 10 ∷ []

-- one more byte, which is no newline
later : (b : ℕ) (s : List ℕ) (used : ℕ) → nat_eq b 10 ≡ false → UpToNewline s used true → UpToNewline (b ∷ s) (suc used) true
later b s used other to = record {
  within = let w : used ≤ length s = to.within in omega arith;
  all = λ e. cc;
  line = λ e.
      let found = to.line refl in
      (b ∷ found.0, ((λ is. absurd (let no : true ≡ false = sym (eq-eqb b 10 is) ∙ other in cc)), found.1), ap (λ l. b ∷ l) found.2);
}

-- a newline as the first byte
here : (b : ℕ) (s : List ℕ) → nat_eq b 10 ≡ true → UpToNewline (b ∷ s) 1 true
here b s h = grind arith

one_byte : (t : Bool) (b : ℕ) (s : List ℕ) (k n at : ℕ) → nat_eq b 10 ≡ t → at ≡ cond (not t) (1 + k) 0 → at < suc n → (k < n → UpToNewline s (k + 1) true) → UpToNewline (b ∷ s) (at + 1) true
one_byte true b s k n at is e below rest = subst (λ u. UpToNewline (b ∷ s) u true) {x = 1} (omega arith) (here b s is)
one_byte false b s k n at other e below rest = subst (λ u. UpToNewline (b ∷ s) u true) {x = suc (k + 1)} (omega arith) (later b s (k + 1) other (rest (omega arith)))

-- the first newline among the first bytes
pub near_found : (n : ℕ) (s : List ℕ) (at : ℕ) → at ≡ position_or_len (is_one_of newlines) (take n s) → at < n → n ≤ length s → UpToNewline s (at + 1) true
near_found zero s at e below fits = absurd (omega arith)
near_found (suc n) [] at e below fits = absurd (omega arith)
near_found (suc n) (b ∷ s) at e below fits =
    let same : nat_eq b 10 ≡ is_one_of newlines b = (grind arith) in
    one_byte (is_one_of newlines b) b s (position_or_len (is_one_of newlines) (take n s)) n at same e below
    (λ less. near_found n s (position_or_len (is_one_of newlines) (take n s)) refl less (omega arith))
