-- Newlines: the prefix of a chunk up to its first newline, which a search finds, is unique.
use Rattle.std.proofs.Common.{◌≡◌, ℕ, zero, suc, ◌+◌, ◌<◌, ◌≤◌, Bool, true, false, List, [], ◌∷◌, ◌++◌, length, take, refl, sym, ◌∙◌, ap, arith}
use Rattle.std.proofs.lemmas.Bool.{eq-eqb}
use Rattle.std.proofs.lemmas.Bool.Decides.{Decides-eqb}
use Rattle.std.proofs.lemmas.List.{take-append-le, length-append}
use Rattle.std.proofs.lemmas.Slice.Eq.{ends_is}
use Rattle.memchr.specs.Find.{Nowhere, NoneBefore, Passes, is_byte}
use Rattle.ud_model.specs.text.Lines.{NoNewline, IsWhole, line_at}
use Rattle.ud_text.specs.lines.LinesState.{UpToNewline}
use Rattle.ud_text.proofs.lemmas.scan.MaskLemmas.{no_newline-take}
use Rattle.ud_model.proofs.output.Formed.{feed_inside}
use Rattle.std.proofs.lemmas.Grind.{common_steps}

-- bytes have no newline, if a search finds none among them
pub no_newline_front : (s : List ℕ) (n : ℕ) → Nowhere (Passes (is_byte 10) s) 0 n → NoNewline (take n s)
no_newline_front s zero none = tt
no_newline_front [] (suc n) none = tt
no_newline_front (b ∷ bs) (suc n) none = (
  λ e. none 0 (omega arith) (omega arith) (eq-eqb b 10 e),
  no_newline_front bs n (λ k low high. none (suc k) (omega arith) (omega arith)),
)

-- the first newline that a search finds ends the bytes up to it
pub up_to_newline-found : (s : List ℕ) (k : ℕ) → NoneBefore (Passes (is_byte 10) s) 0 (length s) k → Passes (is_byte 10) s k → UpToNewline s (k + 1) true
up_to_newline-found s k first is = grind (arith, common_steps, no_newline_front s k first.before)

-- the prefix is the whole chunk, if a search finds no newline
pub up_to_newline-none : (s : List ℕ) → Nowhere (Passes (is_byte 10) s) 0 (length s) → UpToNewline s (length s) false
up_to_newline-none s none = grind (arith, common_steps, no_newline_front s (length s) none)

-- two prefixes of a text that end with their only newline are one
same_front : (s f g : List ℕ) (m n : ℕ) → NoNewline f → NoNewline g → take m s ≡ f ++ 10 ∷ [] → take n s ≡ g ++ 10 ∷ [] → f ≡ g
same_front s f g zero n nf ng d e = absurd (let k : length f + 1 ≡ 0 = sym (length-append f (10 ∷ [])) ∙ sym (ap length d) in omega arith)
same_front s f g (suc m) zero nf ng d e = absurd (let k : length g + 1 ≡ 0 = sym (length-append g (10 ∷ [])) ∙ sym (ap length e) in omega arith)
same_front [] f g (suc m) (suc n) nf ng d e = absurd (let k : length f + 1 ≡ 0 = sym (length-append f (10 ∷ [])) ∙ sym (ap length d) in omega arith)
same_front (b ∷ bs) [] [] (suc m) (suc n) nf ng d e = refl
same_front (b ∷ bs) [] (y ∷ ys) (suc m) (suc n) nf ng d e = absurd (ng.0 (let p : b ≡ 10 = cc in let q : b ≡ y = cc in sym q ∙ p))
same_front (b ∷ bs) (x ∷ xs) [] (suc m) (suc n) nf ng d e = absurd (nf.0 (let p : b ≡ 10 = cc in let q : b ≡ x = cc in sym q ∙ p))
same_front (b ∷ bs) (x ∷ xs) (y ∷ ys) (suc m) (suc n) nf ng d e = let p : x ≡ y = cc in
    let d' : take m bs ≡ xs ++ 10 ∷ [] = cc in
    let e' : take n bs ≡ ys ++ 10 ∷ [] = cc in
    let q : xs ≡ ys = same_front bs xs ys m n nf.1 ng.1 d' e' in
    cc

-- the length of a prefix with its newline
front_len : (s f : List ℕ) (n : ℕ) → n ≤ length s → take n s ≡ f ++ 10 ∷ [] → n ≡ length f + 1
front_len s f n h e = grind (arith, common_steps)

-- a chunk has one prefix up to its first newline
pub up_to_newline-once : (chunk : List ℕ) (used other : ℕ) (whole ended : Bool) → UpToNewline chunk used whole → UpToNewline chunk other ended → (whole ≡ ended) × (used ≡ other)
up_to_newline-once chunk used other false false a b = (refl, (a.all refl).0 ∙ sym (b.all refl).0)
up_to_newline-once chunk used other true false a b = grind (arith, feed_inside, no_newline-take)
up_to_newline-once chunk used other false true a b = grind (arith, feed_inside, no_newline-take)
up_to_newline-once chunk used other true true a b = grind (arith, common_steps, same_front)

-- a chunk that isn't empty has a prefix with bytes
pub up_to_newline-some : (chunk : List ℕ) (used : ℕ) (whole : Bool) → UpToNewline chunk used whole → 0 < length chunk → 0 < used
up_to_newline-some chunk used false a some = let k : used ≡ length chunk = (a.all refl).0 in omega arith
up_to_newline-some chunk used true a some = grind (arith, common_steps)

-- a line that ends in its newline has none in its body
pub whole_newlineless : (n : ℕ) (l : List ℕ) → IsWhole l → NoNewline (line_at n l).body
whole_newlineless n l w = grind (arith, common_steps, ends_is, Decides-eqb, length-append, take-append-le, no_newline-take)
