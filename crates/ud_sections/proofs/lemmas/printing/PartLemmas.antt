-- PartLemmas: a line is compared with its parts, part by part: it equals them if the rests are
-- equal.
use Rattle.std.proofs.Common.{◌≡◌, ◌∙◌, ◌≤◌, ◌+◌, ◌⊎◌, ℕ, List, [], ◌∷◌, ◌++◌, length, take, drop, get_or, min, Bool, true, false, ◌&&◌, nat_eq, bytes_eq, arith, nat_le, length-append, Bor, zero, suc, refl, sym, ap, ap₂, append_assoc, append-nil, take-append-drop, rules}
use Rattle.std.specs.List.{flat_map}
use Rattle.std.proofs.lemmas.List.{take-append-le, length-take, append_cancel_right}
use Rattle.std.proofs.lemmas.Slice.Eq.{bytes_eq-Decides}
use Rattle.std.proofs.lemmas.Bool.Decides.{nat_tests}
use Rattle.std.proofs.Math.Seq.{take-append_seam, drop-length}
use Rattle.std.proofs.lemmas.Bool.{false_from_ne_true}
use Rattle.std.proofs.lemmas.Grind.{common_steps}

same_byte : (b : ℕ) → nat_eq b b ≡ true
same_byte b = grind (arith)

-- texts with one prefix are equal if their rests are
same_front : (x a b : List ℕ) → bytes_eq (x ++ a) (x ++ b) ≡ bytes_eq a b
same_front [] a b = refl
same_front (c ∷ x) a b = ap (λ (t : Bool). t && bytes_eq (x ++ a) (x ++ b)) (same_byte c) ∙ same_front x a b

-- a text without a prefix doesn't equal one that begins with it
other_front : (x more y : List ℕ) → bytes_eq (take (length x) y) x ≡ false → bytes_eq (x ++ more) y ≡ false
other_front x more y h = grind (arith, false_from_ne_true, bytes_eq, bytes_eq-Decides, take-append_seam)

-- a line with a word in place of some of its bytes is the line if they are that word
replaced_word : (before word text after : List ℕ) →
    bytes_eq (before ++ (word ++ after)) (before ++ (text ++ after)) ≡ bytes_eq word text
replaced_word before word text after =
    same_front before (word ++ after) (text ++ after) ∙ (grind (arith, bytes_eq, bytes_eq-Decides, append_cancel_right))

-- bytes that are cut at a position
cut : (n : ℕ) (bytes front back : List ℕ) → front ≡ take n bytes → back ≡ drop n bytes →
    bytes ≡ front ++ back
cut n bytes front back h k = grind (arith, take-append-drop)

-- a word in place of the end of a body
pub replaced_end : (n : ℕ) (body front back word ending : List ℕ) → front ≡ take n body →
    back ≡ drop n body → bytes_eq (front ++ (word ++ (ending ++ []))) (body ++ ending) ≡ bytes_eq word back
replaced_end n body front back word ending f b =
    ap₂ (λ (x y : List ℕ). bytes_eq (front ++ (word ++ x)) (y ++ ending))
    (append-nil ending) (cut n body front back f b)
    ∙ ap (bytes_eq (front ++ (word ++ ending))) (append_assoc front back ending)
    ∙ replaced_word front word back ending

-- a word in place of a part of a body
pub replaced_part : (n k : ℕ) (body front rest part back word ending : List ℕ) →
    front ≡ take n body → rest ≡ drop n body → part ≡ take k rest → back ≡ drop k rest →
    bytes_eq (front ++ (word ++ (back ++ (ending ++ [])))) (body ++ ending) ≡ bytes_eq word part
replaced_part n k body front rest part back word ending f r p b =
    ap₂ (λ (x y : List ℕ). bytes_eq (front ++ (word ++ (back ++ x))) (y ++ ending))
    (append-nil ending) (cut n body front rest f r)
    ∙ ap (bytes_eq (front ++ (word ++ (back ++ ending)))) (append_assoc front rest ending)
    ∙ ap (λ (t : List ℕ). bytes_eq (front ++ (word ++ (back ++ ending))) (front ++ (t ++ ending)))
    (cut k rest part back p b)
    ∙ ap (λ (t : List ℕ). bytes_eq (front ++ (word ++ (back ++ ending))) (front ++ t))
    (append_assoc part back ending)
    ∙ replaced_word front word part (back ++ ending)

-- A part is split where a body ends: its prefix is in the body, and if something follows, the body
-- has no more.
pub record Split (p body prefix back : List ℕ) : Type 0 where
  pub whole : p ≡ prefix ++ back
  pub within : length prefix ≤ length body
  pub ends : (back ≡ []) ⊎ (length body ≡ length prefix)

drop_all : (p : List ℕ) (n : ℕ) → n ≡ length p → drop n p ≡ []
drop_all p n e = ap (λ (k : ℕ). drop k p) e ∙ drop-length p

-- a part is split at the lesser of its length and the body's
pub split_part : (p body prefix back : List ℕ) (n : ℕ) → n ≡ min (length p) (length body) → prefix ≡ take n p → back ≡ drop n p → Split p body prefix back
split_part p body prefix back n h k l = grind (arith, take-append-drop, nat_le, min, length-take, drop_all, nat_tests)

stripped : (s x r : List ℕ) → bytes_eq (take (length x) s) x ≡ true → r ≡ drop (length x) s → s ≡ x ++ r
stripped s x r h e = sym (take-append-drop (length x) s) ∙ ap₂ (λ (a b : List ℕ). a ++ b) ((bytes_eq-Decides (take (length x) s) x).0 h) (sym e)

no_rest : (x r s : List ℕ) → s ≡ x ++ r → length s ≡ length x → r ≡ []
no_rest x [] s e h = refl
no_rest x (c ∷ r) s e h = let k : length s ≡ length x + length (c ∷ r) = ap length e ∙ length-append x (c ∷ r) in absurd (omega (arith, k, h))

-- the rests of a part and of a line whose bodies have one prefix
in_body : (prefix back more b ending : List ℕ) → (back ≡ []) ⊎ (b ≡ []) →
    bytes_eq ((prefix ++ back) ++ more) ((prefix ++ b) ++ ending) ≡ bytes_eq (back ++ more) (b ++ ending)
in_body prefix back more b ending h = grind (arith, bytes_eq, append_assoc, same_front)

module _ (p more body ending prefix back : List ℕ) (split : Split p body prefix back) where
  -- the body doesn't begin with the part's prefix
  pub other_body : bytes_eq (take (length prefix) body) prefix ≡ false → bytes_eq (p ++ more) (body ++ ending) ≡ false
  other_body h = grind (arith, bytes_eq, append_assoc, other_front, take-append-le)

  module _ (b : List ℕ) (is : bytes_eq (take (length prefix) body) prefix ≡ true) (rest : b ≡ drop (length prefix) body) where
    ends : (back ≡ []) ⊎ (b ≡ [])
    ends = grind (arith, common_steps)

    after_body : bytes_eq (p ++ more) (body ++ ending) ≡ bytes_eq (back ++ more) (b ++ ending)
    after_body = grind (arith, common_steps, stripped, in_body)

    -- the ending doesn't begin with the rest of the part
    pub other_ending : bytes_eq (take (length back) ending) back ≡ false → bytes_eq (p ++ more) (body ++ ending) ≡ false
    other_ending h = grind (arith, common_steps, after_body, other_front)

    -- without the part and what it equals, the rests are compared
    pub next_part : (e : List ℕ) → bytes_eq (take (length back) ending) back ≡ true → e ≡ drop (length back) ending →
        bytes_eq (p ++ more) (body ++ ending) ≡ bytes_eq more (b ++ e)
    next_part e same last = search (rules, after_body, stripped, same_front, ends)

-- the part of no bytes
abbrev pub no_part : Bor (List ℕ)
no_part = record { ref_ptr = (0, 0); now = [] }

-- the bytes of parts
abbrev pub bytes_of : List (Bor (List ℕ)) → List ℕ
bytes_of ps = flat_map (λ (p : Bor (List ℕ)). p.now) ps

-- the first parts of this number, and empty ones if there are no more
abbrev firsts : ℕ → List (Bor (List ℕ)) → List (Bor (List ℕ))
firsts zero ps = []
firsts (suc k) [] = no_part ∷ firsts k []
firsts (suc k) (p ∷ ps) = p ∷ firsts k ps

take_firsts : (k n : ℕ) (ps : List (Bor (List ℕ))) → n ≤ k → bytes_of (take n (firsts k ps)) ≡ bytes_of (take n ps)
take_firsts k zero ps h = refl
take_firsts zero (suc n) ps h = absurd (omega (arith, h))
take_firsts (suc k) (suc n) [] h = grind (arith, common_steps, take_firsts k n [] (omega (arith, h)))
take_firsts (suc k) (suc n) (p ∷ ps) h = ap (λ (t : List ℕ). p.now ++ t) (take_firsts k n ps (omega (arith, h)))

-- a part before at most four others
pub one_before : (first : Bor (List ℕ)) (ps : List (Bor (List ℕ))) (n : ℕ) → n ≤ 4 →
    bytes_of (take (n + 1) (first ∷ get_or ps 0 no_part ∷ get_or ps 1 no_part ∷ get_or ps 2 no_part ∷ get_or ps 3 no_part ∷ []))
    ≡ first.now ++ bytes_of (take n ps)
one_before first ps n h = grind (arith, take_firsts 4 n ps h)
