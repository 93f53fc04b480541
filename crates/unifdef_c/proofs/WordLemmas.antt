-- WordLemmas: the first word of a block, and the words before and after others.
use Rattle.std.proofs.Common.{◌≡◌, refl, sym, ap, ◌∙◌, ℕ, suc, ◌+◌, ◌-◌, ◌<◌, ◌≤◌, ◌==◌, Bool, true, false, List, [], ◌∷◌, ◌++◌, length, take, drop, add-one, arith, map, append_assoc, nat_lt, cond, Some, None}
use Rattle.std.proofs.lemmas.List.{take_rest, map_push}
use Rattle.std.proofs.lemmas.List.Quantifiers.{position-Some}
use Rattle.std.proofs.lemmas.List.Sums.{position_or_len_is}
use Rattle.std.proofs.lemmas.Bool.Decides.{nat_tests}
use Rattle.std.specs.List.{position_or_len, position}
use Rattle.std.specs.Str.{IsUtf8}
use Rattle.std.proofs.lemmas.Grind.{common_steps}
use Rattle.unifdef_c.specs.Words.{onto_first, words_of, AreUtf8}
use Rattle.unifdef_c.specs.CallFaults.{IsWordsFault}
use Rattle.unifdef_c.specs.declared.fault.CallFault.{CallFault}
use Rattle.unifdef_c.specs.declared.fault.CallFault.TheVariants.{BadWords}

-- `word_len block`: how many bytes come before the first zero byte.
abbrev pub word_len : List ℕ → ℕ
word_len block = position_or_len (λ b. b == 0) block

one : (n : ℕ) → 1 + n ≡ suc n
one n = omega arith

ended_by_case : (b : ℕ) (bs : List ℕ) → word_len (b ∷ bs) < length (b ∷ bs) →
    (word_len bs < length bs → words_of bs ≡ take (word_len bs) bs ∷ words_of (drop (suc (word_len bs)) bs)) →
    (z : Bool) → b == 0 ≡ z →
    words_of (b ∷ bs) ≡ take (word_len (b ∷ bs)) (b ∷ bs) ∷ words_of (drop (suc (word_len (b ∷ bs))) (b ∷ bs))
ended_by_case b bs h known true e = rw e refl
ended_by_case b bs h known false e = let low = rw e at h in
    rw e (rw (one (word_len bs)) (ap (onto_first b) (known (omega (arith, low)))))

-- a word that a zero byte ends
pub ended_word : (block : List ℕ) → word_len block < length block →
    words_of block ≡ take (word_len block) block ∷ words_of (drop (suc (word_len block)) block)
ended_word [] h = absurd (omega arith)
ended_word (b ∷ bs) h = ended_by_case b bs h (ended_word bs) (b == 0) refl

onto_rest : (b : ℕ) (bs : List ℕ) → (0 < length bs → words_of bs ≡ bs ∷ []) → onto_first b (words_of bs) ≡ (b ∷ bs) ∷ []
onto_rest b bs known = grind (arith, common_steps)

last_by_case : (b : ℕ) (bs : List ℕ) → length (b ∷ bs) ≤ word_len (b ∷ bs) →
    (length bs ≤ word_len bs → 0 < length bs → words_of bs ≡ bs ∷ []) →
    (z : Bool) → b == 0 ≡ z → words_of (b ∷ bs) ≡ (b ∷ bs) ∷ []
last_by_case b bs h known true e = let low = rw e at h in absurd (omega (arith, low))
last_by_case b bs h known false e = grind (arith, onto_rest)

-- a last word without a zero byte
pub last_word : (block : List ℕ) → length block ≤ word_len block → 0 < length block → words_of block ≡ block ∷ []
last_word [] h some = absurd (omega arith)
last_word (b ∷ bs) h some = last_by_case b bs h (last_word bs) (b == 0) refl

-- the same, by where the first zero byte is
pub first_word : (block : List ℕ) (n : ℕ) → Some n ≡ position (λ b. b == 0) block →
    words_of block ≡ take n block ∷ words_of (take (length block - (n + 1)) (drop (n + 1) block))
first_word block n e = let p = position-Some (λ b. b == 0) block n 0 (sym e) in
    let at : word_len block ≡ n = position_or_len_is (λ b. b == 0) block n 0 (omega (arith, p.0)) p.2 (λ _. p.1) in
    let low : word_len block < length block = omega (arith, p.0, at) in
    rw (take_rest block (n + 1), add-one, ← at) (ended_word block low)

longer : (w l : ℕ) (t : Bool) → nat_lt w l ≡ t → None ≡ cond t (Some w) None → l ≤ w
longer w l true e none = absurd (cc)
longer w l false e none = grind (arith, nat_tests)

pub only_word : (block : List ℕ) → None ≡ position (λ b. b == 0) block → 0 < length block → words_of block ≡ block ∷ []
only_word block e some = last_word block (longer (word_len block) (length block) (nat_lt (word_len block) (length block)) refl e) some

-- what holds once one more argument is taken
pub word_taken : (block word : List ℕ) (done more after : List (List ℕ)) → words_of block ≡ done ++ more → more ≡ word ∷ after →
    words_of block ≡ (done ++ word ∷ []) ++ after
word_taken block word done more after all next = all ∙ (ap (λ (ws : List (List ℕ)). done ++ ws) next ∙ sym (append_assoc done (word ∷ []) after))

pub word_pushed : {X : Type 0} (f : X → List ℕ) (xs ys : List X) (x : X) (word : List ℕ) → ys ≡ xs ++ x ∷ [] → f x ≡ word →
    map f ys ≡ map f xs ++ word ∷ []
word_pushed f xs ys x word e o = ap (map f) e ∙ (map_push f xs x ∙ ap (λ (w : List ℕ). map f xs ++ w ∷ []) o)

-- words before and after others
pub AreUtf8-append : (xs ys : List (List ℕ)) → AreUtf8 xs → AreUtf8 ys → AreUtf8 (xs ++ ys)
AreUtf8-append [] ys left right = right
AreUtf8-append (x ∷ xs) ys left right = (left.0, AreUtf8-append xs ys left.1 right)

pub AreUtf8-right : (xs ys : List (List ℕ)) → AreUtf8 (xs ++ ys) → AreUtf8 ys
AreUtf8-right [] ys all = all
AreUtf8-right (x ∷ xs) ys all = AreUtf8-right xs ys all.1

-- a word that isn't UTF-8 is why the block isn't taken
pub word_refused : (block word : List ℕ) (done after : List (List ℕ)) (fault : CallFault) →
    words_of block ≡ done ++ word ∷ after → (fault ≡ BadWords → ¬ (IsUtf8 word)) → IsWordsFault block fault
word_refused block word done after fault e wrong = grind (arith, AreUtf8-right)
