-- Names: a word that is no keyword, by the first bytes.
use Rattle.std.proofs.Common.{◌≡◌, ℕ, suc, ◌+◌, ◌-◌, ◌≤◌, List, [], ◌∷◌, length, take, get_or, Bool, true, false, if◌then◌else◌, refl, sym, subst, arith}
use Rattle.ud_model.specs.text.Bytes.{is_white, is_word_byte, skip_white}
use Rattle.ud_model.specs.sections.Directives.{is_no_keyword}
use Rattle.ud_text.specs.bulk.BulkStates.{is_other_word}
use Rattle.ud_text.specs.bulk.BulkLexemes.{is_significant, NoSignificant}
use Rattle.ud_text.proofs.lemmas.bulk.TextLemmas.{is_no_keyword-first}
use Rattle.ud_model.proofs.text.ByteLemmas.{length-skip_white}

-- white space is insignificant
white_special : (b : ℕ) → is_white b ≡ true → is_significant b ≡ false
white_special b h = grind arith

-- a byte of a word is insignificant
word_special : (b : ℕ) → is_word_byte b ≡ true → is_significant b ≡ false
word_special b h = grind arith

-- white space before a word that is no keyword
pub name_front : (bytes : List ℕ) (a b : ℕ) (more : List ℕ) (n : ℕ) → skip_white bytes ≡ a ∷ b ∷ more → n + length (a ∷ b ∷ more) ≡ length bytes + 2 →
    is_no_keyword a b ≡ true → is_significant b ≡ false → NoSignificant (take n bytes) × (is_other_word (take n bytes) ≡ true)
name_front [] a b more n e f o s = cc
name_front (x ∷ bytes) a b more n e f o s = by_white (is_white x) refl e (λ m g h. name_front bytes a b more m g h o s)
  where
    in_front : (n : ℕ) → n ≡ 2 → x ≡ a → bytes ≡ b ∷ more → is_white x ≡ false → NoSignificant (take n (x ∷ bytes)) × (is_other_word (take n (x ∷ bytes)) ≡ true)
    in_front n h k l m = grind (arith, word_special, is_no_keyword-first)

    later : (n m : ℕ) → n ≡ suc m → is_white x ≡ true → NoSignificant (take m bytes) × (is_other_word (take m bytes) ≡ true) →
        NoSignificant (take n (x ∷ bytes)) × (is_other_word (take n (x ∷ bytes)) ≡ true)
    later n m h k l = grind (arith, white_special)

    by_white : (t : Bool) → is_white x ≡ t → (if t then skip_white bytes else x ∷ bytes) ≡ a ∷ b ∷ more →
        ((m : ℕ) → skip_white bytes ≡ a ∷ b ∷ more → m + length (a ∷ b ∷ more) ≡ length bytes + 2 → NoSignificant (take m bytes) × (is_other_word (take m bytes) ≡ true)) →
        NoSignificant (take n (x ∷ bytes)) × (is_other_word (take n (x ∷ bytes)) ≡ true)
    by_white false w g rest = grind (arith, in_front)
    by_white true w g rest =
        let long : length (a ∷ b ∷ more) ≤ length bytes = subst (λ (l : List ℕ). length l ≤ length bytes) g (length-skip_white bytes) in
        later n (n - 1) (omega arith) w (rest (n - 1) g (omega arith))

-- after white space there are no more bytes than with it, for the word after it
pub past_white_within : (bytes word : List ℕ) → word ≡ skip_white bytes → length word ≤ length bytes
past_white_within bytes word e = subst (λ (l : List ℕ). length l ≤ length bytes) (sym e) (length-skip_white bytes)

-- white space before a word that is no keyword, for the word after it
pub name_in_front : (bytes word : List ℕ) → word ≡ skip_white bytes → 2 ≤ length word → is_no_keyword (get_or word 0 0) (get_or word 1 0) ≡ true →
    is_significant (get_or word 1 0) ≡ false → NoSignificant (take (length bytes - length word + 2) bytes) × (is_other_word (take (length bytes - length word + 2) bytes) ≡ true)
name_in_front bytes [] e h o s = absurd (omega arith)
name_in_front bytes (a ∷ []) e h o s = absurd (omega arith)
name_in_front bytes (a ∷ b ∷ more) e h o s =
    grind (arith, past_white_within bytes (a ∷ b ∷ more) e, name_front)

-- the white space before a word, and its first two bytes
pub ruleset word_begins = (past_white_within, name_in_front)
