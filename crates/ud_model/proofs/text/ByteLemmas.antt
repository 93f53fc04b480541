-- White space and words, by std's functions for tests and positions.
use Rattle.std.proofs.Common.{◌≡◌, ◌∙◌, ◌≤◌, ◌<◌, Some, unwrap_or, slice_get, arith, ℕ, ◌+◌, List, [], ◌∷◌, Bool, true, false, not, cond, length, take, drop, refl, ap, if◌then◌else◌, ◌&&◌, get_or, sym}
use Rattle.std.specs.List.{list_all, position, position_or_len}
use Rattle.std.proofs.lemmas.List.Sums.{prefix_len-le-length}
use Rattle.std.proofs.lemmas.Bool.Decides.{nat_tests}
use Rattle.ud_model.specs.text.Bytes.{is_word_byte, are_word_bytes, is_digit, is_identifier, leading_word, skip_word, skip_white}

-- `all` with `is_word_byte` tests each byte for a word byte.
pub list_all-word : (bytes : List ℕ) → list_all (λ b. is_word_byte b) bytes ≡ are_word_bytes bytes
list_all-word [] = refl
list_all-word (b ∷ bs) = ap (λ t. is_word_byte b && t) (list_all-word bs)

-- The length of the leading word is the position of the first other byte.
abbrev pub front_len : List ℕ → ℕ
front_len bytes = position_or_len (λ b. not (is_word_byte b)) bytes

take_one : (w : Bool) (n b : ℕ) (bs prefix : List ℕ) → take n bs ≡ prefix → take (cond (not (not w)) (1 + n) 0) (b ∷ bs) ≡ (if w then b ∷ prefix else [])
take_one w n b bs prefix h = grind arith

drop_one : (w : Bool) (n b : ℕ) (bs rest : List ℕ) → drop n bs ≡ rest → drop (cond (not (not w)) (1 + n) 0) (b ∷ bs) ≡ (if w then rest else b ∷ bs)
drop_one w n b bs rest h = grind arith

-- The bytes before the first that is no word byte are the leading word.
pub take-front_len : (bytes : List ℕ) → take (front_len bytes) bytes ≡ leading_word bytes
take-front_len [] = refl
take-front_len (b ∷ bs) = take_one (is_word_byte b) (front_len bs) b bs (leading_word bs) (take-front_len bs)

-- The bytes from the first that is no word byte on follow the leading word.
pub drop-front_len : (bytes : List ℕ) → drop (front_len bytes) bytes ≡ skip_word bytes
drop-front_len [] = refl
drop-front_len (b ∷ bs) = drop_one (is_word_byte b) (front_len bs) b bs (skip_word bs) (drop-front_len bs)

-- The position of the first other byte is the length of the leading word.
pub front_len-word : (bytes : List ℕ) → front_len bytes ≡ length (leading_word bytes)
front_len-word [] = refl
front_len-word (b ∷ bs) = grind (arith, front_len-word bs)

-- So many bytes are the leading word, and the others follow it.
pub word_and_rest : (bytes : List ℕ) (n : ℕ) → length (leading_word bytes) ≡ n → (n ≤ length bytes) × (take n bytes ≡ leading_word bytes) × (drop n bytes ≡ skip_word bytes)
word_and_rest bytes n e = let k : front_len bytes ≡ n = front_len-word bytes ∙ e in
    let bound : front_len bytes ≤ length bytes = prefix_len-le-length (λ b. not (not (is_word_byte b))) bytes in
    (omega (arith, k, bound), ap (λ (m : ℕ). take m bytes) (sym k) ∙ take-front_len bytes, ap (λ (m : ℕ). drop m bytes) (sym k) ∙ drop-front_len bytes)

-- `Continues count word more`: `count` is the length of `word`, or it is 4 and the leading word of
-- `more` continues `word`.
abbrev pub Continues : ℕ → List ℕ → List ℕ → Type 0
Continues count word more = (count < 4 → length word ≡ count) × (4 ≤ count → length word ≡ 4 + length (leading_word more))

-- The leading word ends among the first four bytes, or continues after them.
pub word_of_four : (bytes : List ℕ) (count : ℕ) → 4 ≤ length bytes →
    count ≡ length (leading_word (get_or bytes 0 0 ∷ get_or bytes 1 0 ∷ get_or bytes 2 0 ∷ get_or bytes 3 0 ∷ [])) → Continues count (leading_word bytes) (drop 4 bytes)
word_of_four (a ∷ b ∷ c ∷ d ∷ more) count h e = grind arith
word_of_four bytes count h e = absurd (omega (arith, h))

-- The position of the first byte that passes, or the length if none does.
pub unwrap_or-position : (p : ℕ → Bool) (bytes : List ℕ) → unwrap_or (position p bytes) (length bytes) ≡ position_or_len p bytes
unwrap_or-position p bytes = grind (arith, nat_tests, (prefix_len-le-length (λ b. not (p b)) bytes))

-- After a first byte that is no digit, an identifier has word bytes alone.
pub is_identifier-first : (text : List ℕ) (first : ℕ) → slice_get text 0 ≡ Some first → is_digit first ≡ false → is_identifier text ≡ are_word_bytes text
is_identifier-first text first e h = grind arith

-- The rest after leading white space is no longer than the text.
pub length-skip_white : (bytes : List ℕ) → length (skip_white bytes) ≤ length bytes
length-skip_white [] = omega arith
length-skip_white (b ∷ bs) = grind (arith, length-skip_white bs)

-- The leading word has word bytes alone.
pub leading_word-word : (bytes : List ℕ) → are_word_bytes (leading_word bytes) ≡ true
leading_word-word [] = refl
leading_word-word (b ∷ bs) = grind (arith, leading_word-word bs)
