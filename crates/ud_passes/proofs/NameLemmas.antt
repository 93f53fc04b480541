-- Names: the words of a text, one after another.
use Rattle.std.proofs.Common.{◌≡◌, ◌∙◌, ℕ, zero, suc, ◌-◌, ◌≤◌, ap, take, drop, List, [], ◌∷◌}
use Rattle.std.proofs.Common.{◌++◌, length, get_or, Bool, true, false, ◌||◌, if◌then◌else◌, refl}
use Rattle.std.proofs.Common.{arith}
use Rattle.memchr.specs.Find.{Nowhere, Passes, is_byte}
use Rattle.ud_model.specs.text.Bytes.{is_word_byte, leading_word, skip_word}
use Rattle.ud_model.specs.answer.SymbolArguments.{is_name}
use Rattle.ud_passes.specs.names.UnlistedConditions.{name_words}
use Rattle.ud_passes.specs.remaining.ListedNames.{has_word, ends_in_word, splits_word}

module _ (test : List ℕ → Bool) where
  -- No name begins within a word.
  pub has_word-in_word : (t : List ℕ) → has_word test true t ≡ has_word test false (skip_word t)
  has_word-in_word [] = refl
  has_word-in_word (b ∷ bs) = grind (arith, has_word-in_word bs)

  -- A word, and the text after it.
  pub has_word-word : (b : ℕ) (bs : List ℕ) → is_word_byte b ≡ true →
      has_word test false (b ∷ bs) ≡ (test (leading_word (b ∷ bs)) || has_word test false
      (skip_word (b ∷ bs)))
  has_word-word b bs e = grind (arith, has_word-in_word)

  -- A word that doesn't pass.
  pub has_word-skip : (rest word after : List ℕ) (b : ℕ) (bs : List ℕ) → rest ≡ b ∷ bs →
      is_word_byte b ≡ true → word ≡ leading_word rest → after ≡ skip_word rest →
      test word ≡ false → has_word test false rest ≡ has_word test false after
  has_word-skip rest word after b bs r e w a n = grind (arith, has_word-word)

  -- No word goes on over another byte.
  word-other : (t more : List ℕ) (c : ℕ) → is_word_byte c ≡ false →
      leading_word (t ++ c ∷ more) ≡ leading_word t
  word-other [] more c e = grind arith
  word-other (b ∷ bs) more c e = grind (arith, word-other bs more c e)

  pub has_word-other : (in_word : Bool) (t more : List ℕ) (c : ℕ) → is_word_byte c ≡ false →
      has_word test in_word (t ++ c ∷ more) ≡ (has_word test in_word t || has_word test false more)
  has_word-other true [] more c e = grind arith
  has_word-other false [] more c e = grind arith
  has_word-other true (b ∷ bs) more c e = has_word-other (is_word_byte b) bs more c e
  has_word-other false (b ∷ bs) more c e = grind
      (arith, has_word-other (is_word_byte b) bs more c e, word-other)

  -- Words of two texts are those of each, if none goes on from one to the other.
  word-seam : (xs ys : List ℕ) → ends_in_word true xs ≡ false →
      leading_word (xs ++ ys) ≡ leading_word xs
  word-seam [] ys e = cc
  word-seam (x ∷ xs) ys e = grind (arith, word-seam xs ys)

  pub has_word-seam : (in_word : Bool) (xs ys : List ℕ) → ends_in_word in_word xs ≡ false →
      has_word test in_word (xs ++ ys) ≡ (has_word test in_word xs || has_word test false ys)
  has_word-seam in_word [] ys e = grind arith
  has_word-seam true (x ∷ xs) ys e = has_word-seam (is_word_byte x) xs ys e
  has_word-seam false (x ∷ xs) ys e =
      grind (arith, word-seam (x ∷ xs) ys e, has_word-seam (is_word_byte x) xs ys e)

-- The words that may name a symbol, one after another.
name_words-in_word : (t : List ℕ) → name_words true t ≡ name_words false (skip_word t)
name_words-in_word [] = refl
name_words-in_word (b ∷ bs) = grind (arith, name_words-in_word bs)

pub name_words-word : (b : ℕ) (bs : List ℕ) → is_word_byte b ≡ true →
    name_words false (b ∷ bs) ≡ (if is_name (leading_word (b ∷ bs))
    then suc (name_words false (skip_word (b ∷ bs))) else name_words false (skip_word (b ∷ bs)))
name_words-word b bs e = grind (arith, name_words-in_word)

-- The last byte of a text tells whether the text ends in a word byte.
last_in_word : (in_word : Bool) (b : ℕ) (bs : List ℕ) →
    is_word_byte (get_or (b ∷ bs) (length bs) 0) ≡ ends_in_word in_word (b ∷ bs)
last_in_word in_word b [] = refl
last_in_word in_word b (c ∷ bs) = last_in_word (is_word_byte b) c bs

pub ends_in_word-last : (in_word : Bool) (t : List ℕ) → 1 ≤ length t →
    is_word_byte (get_or t (length t - 1) 0) ≡ ends_in_word in_word t
ends_in_word-last in_word [] some = absurd (omega (arith, some))
ends_in_word-last in_word (b ∷ bs) some =
    let n : length (b ∷ bs) - 1 ≡ length bs = omega arith in
    ap (λ (k : ℕ). is_word_byte (get_or (b ∷ bs) k 0)) n ∙ last_in_word in_word b bs

-- Bytes without a backslash split no word.
pub splits_word-pass : (in_word : Bool) (t : List ℕ) (n : ℕ) → n ≤ length t →
    Nowhere (Passes (is_byte 92) t) 0 n →
    splits_word in_word t ≡ splits_word (ends_in_word in_word (take n t)) (drop n t)
splits_word-pass in_word t zero fits none = refl
splits_word-pass in_word [] (suc n) fits none = absurd (omega (arith, fits))
splits_word-pass in_word (b ∷ bs) (suc n) fits none =
    let here = none 0 (omega arith) (omega arith) in
    let later = splits_word-pass (is_word_byte b) bs n (omega (arith, fits))
    (λ k low high. none (suc k) (omega arith) (omega arith)) in
    grind (arith, here, later)
