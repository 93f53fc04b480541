-- Spread texts: white space beside white space changes no token.
use Rattle.std.proofs.Common.{◌≡◌, ℕ, zero, suc, ◌==◌, ◌-◌, ◌<◌, List, [], ◌∷◌, length, drop, Bool, true, false, not, ◌&&◌, ◌||◌, if◌then◌else◌, Option, Some, None, bytes_eq, codes, slice_index, refl, sym, ◌∙◌, ap, ap₂, subst, arith, rules}
use Rattle.std.proofs.lemmas.Bool.{false_from_ne_true}
use Rattle.ud_model.specs.conditions.Constants.{is_constant}
use Rattle.ud_model.specs.text.Bytes.{is_white, is_word_byte, is_digit, starts_with_byte, skip_white, leading_word, skip_word}
use Rattle.ud_model.specs.conditions.Tokens.{Token, number, name, defined, operator, opening, closing, NextToken, at_end, unreadable, found, after_matching_paren, with_arguments, name_token, has_exponent_sign, word_token, one_or_two_bytes, punctuator, leading_token, next_token}
use Rattle.ud_model.specs.conditions.Parsing.{prepend_token, tokens_in, tokens_of}
use Rattle.ud_model.specs.declared.operator.Operator.{Operator}
use Rattle.ud_model.specs.declared.operator.Operator.TheVariants.{Or, And, BitOr, BitXor, BitAnd, Equal, NotEqual, Less, LessEqual, Greater, GreaterEqual, Plus, Minus, Times, Over, Remainder, Not, Complement}
use Rattle.ud_model.proofs.conditions.TokenLemmas.{shorter}

-- The text begins with white space, or is empty.
abbrev pub begins_white : List ℕ → Bool
begins_white [] = true
begins_white (b ∷ t) = is_white b

-- `IsSpread white u t`: the text `u` is `t` with white space inserted beside white space or at an
-- end. White space or the start is before both if `white`.
pub data IsSpread : Bool → List ℕ → List ℕ → Type 0 where
  nothing : {white : Bool} → IsSpread white [] []
  kept : {white : Bool} {u t : List ℕ} (b : ℕ) → IsSpread (is_white b) u t → IsSpread white (b ∷ u) (b ∷ t)
  behind : {u t : List ℕ} (b : ℕ) → is_white b ≡ true → IsSpread true u t → IsSpread true (b ∷ u) t
  in_front : {white : Bool} {u t : List ℕ} (b : ℕ) → is_white b ≡ true → begins_white t ≡ true →
      IsSpread true u t → IsSpread white (b ∷ u) t

-- Each text is itself, with nothing inserted.
pub unspread : (white : Bool) (t : List ℕ) → IsSpread white t t
unspread white [] = nothing
unspread white (b ∷ t) = kept b (unspread (is_white b) t)

-- Texts that are spread so, whatever is before them.
abbrev pub Spread : List ℕ → List ℕ → Type 0
Spread u t = (white : Bool) × IsSpread white u t

-- Both texts are empty, or begin with the same byte, which isn't white space.
pub data SameFront : List ℕ → List ℕ → Type 0 where
  no_front : SameFront [] []
  front : {u t : List ℕ} (b : ℕ) → is_white b ≡ false → IsSpread false u t → SameFront (b ∷ u) (b ∷ t)

pub skipped : {w : Bool} {u t : List ℕ} → IsSpread w u t → SameFront (skip_white u) (skip_white t)
skipped nothing = no_front
skipped (kept b s) = grind (arith, front, s, skipped s)
skipped (behind {u = u} {t = t} b e s) = grind (arith, skipped s)
skipped (in_front {u = u} {t = t} b e f s) = grind (arith, skipped s)

-- If one text begins with the byte `c`, the other does, and the rests are spread so.
record SameFirst (c : ℕ) (u t : List ℕ) : Type 0 where
  pub same : starts_with_byte c u ≡ starts_with_byte c t
  pub rest : starts_with_byte c u ≡ true → Spread (drop 1 u) (drop 1 t)

other_front : (c : ℕ) (t : List ℕ) → begins_white t ≡ true → is_white c ≡ false → starts_with_byte c t ≡ false
other_front c t h g = grind arith

same_first : (c : ℕ) {u t : List ℕ} → is_white c ≡ false → IsSpread false u t → SameFirst c u t
same_first c n nothing = record { same = refl; rest = λ e. (false, nothing) }
same_first c n (kept b s) = record { same = refl; rest = λ e. (is_white b, s) }
same_first c n (in_front {t = t} b e f s) = grind (arith, other_front)

-- The rests after an opened parenthesis are spread so, or neither closes it.
data SameRest : Option (List ℕ) → Option (List ℕ) → Type 0 where
  no_rest : SameRest None None
  some_rest : {u t : List ℕ} → Spread u t → SameRest (Some u) (Some t)

rest_if : (c : Bool) (x y v z : Option (List ℕ)) → SameRest x v → SameRest y z →
    SameRest (if c then x else y) (if c then v else z)
rest_if c x y v z h g = grind arith

closed : (n : ℕ) {w : Bool} {u t : List ℕ} → IsSpread w u t →
    SameRest (after_matching_paren n u) (after_matching_paren n t)
closed n nothing = no_rest
closed zero (kept {u = u} {t = t} b s) =
    rest_if (b == 40) _ _ _ _ (closed 1 s) (rest_if (b == 41) _ _ _ _ (some_rest (is_white b, s)) (closed 0 s))
closed (suc n) (kept {u = u} {t = t} b s) =
    rest_if (b == 40) _ _ _ _ (closed (suc (suc n)) s) (rest_if (b == 41) _ _ _ _ (closed n s) (closed (suc n) s))
closed n (behind {u = u} {t = t} b e s) = grind (arith, closed n s)
closed n (in_front {u = u} {t = t} b e f s) = grind (arith, closed n s)

-- Both texts have the same first token, and the rests are spread so.
data SameNext : NextToken → NextToken → Type 0 where
  ends : SameNext at_end at_end
  unread : SameNext unreadable unreadable
  finds : {u t : List ℕ} (k : Token) → Spread u t → SameNext (found k u) (found k t)

next_if : (c : Bool) {x y v z : NextToken} → SameNext x v → SameNext y z →
    SameNext (if c then x else y) (if c then v else z)
next_if c h g = grind arith

next_by : {c : ℕ} {u t : List ℕ} {x y v z : NextToken} → SameFirst c u t →
    (Spread (drop 1 u) (drop 1 t) → SameNext x v) → SameNext y z →
    SameNext (if starts_with_byte c u then x else y) (if starts_with_byte c t then v else z)
next_by {c = c} {u = u} {x = x} {y = y} {v = v} {z = z} f p q = grind arith

one_or_two : (c : ℕ) (long short : Operator) {u t : List ℕ} → is_white c ≡ false → IsSpread false u t →
    SameNext (one_or_two_bytes c long short u) (one_or_two_bytes c long short t)
one_or_two c long short n s =
    next_by (same_first c n s) (λ r. finds (operator long) r) (finds (operator short) (false, s))

same_sign : (b : ℕ) {u t : List ℕ} → IsSpread false u t → SameNext (punctuator b u) (punctuator b t)
same_sign b s =
    next_if (b == 40) (finds opening (false, s)) (next_if (b == 41) (finds closing (false, s))
    (next_if (b == 33) (one_or_two 61 NotEqual Not refl s) (next_if (b == 60) (one_or_two 61 LessEqual Less refl s)
    (next_if (b == 62) (one_or_two 61 GreaterEqual Greater refl s) (next_if (b == 38) (one_or_two 38 And BitAnd refl s)
    (next_if (b == 124) (one_or_two 124 Or BitOr refl s)
    (next_if (b == 61) (next_by (same_first 61 refl s) (λ r. finds (operator Equal) r) unread)
    (next_if (b == 45) (next_by (same_first 45 refl s) (λ r. unread) (finds (operator Minus) (false, s)))
    (next_if (b == 43) (finds (operator Plus) (false, s))
    (next_if (b == 42) (finds (operator Times) (false, s)) (next_if (b == 47) (finds (operator Over) (false, s))
    (next_if (b == 37) (finds (operator Remainder) (false, s)) (next_if (b == 94) (finds (operator BitXor) (false, s))
    (next_if (b == 126) (finds (operator Complement) (false, s)) unread))))))))))))))

-- Both texts begin with the same word, and the rests are spread so.
pub record SameWord (u t : List ℕ) : Type 0 where
  pub word : leading_word u ≡ leading_word t
  pub rest : IsSpread false (skip_word u) (skip_word t)

-- No word begins with white space.
no_word : (t : List ℕ) → begins_white t ≡ true → (leading_word t ≡ []) × (skip_word t ≡ t)
no_word t h = search rules

word_kept : {u t : List ℕ} (b : ℕ) (w : Bool) → is_word_byte b ≡ w → IsSpread (is_white b) u t →
    (is_white b ≡ false → SameWord u t) → SameWord (b ∷ u) (b ∷ t)
word_kept {u = u} {t = t} b true e s f = search (rules, false_from_ne_true)
word_kept {u = u} {t = t} b false e s f = record {
  word = ap (λ (w : Bool). if w then b ∷ leading_word u else []) e ∙ sym (ap (λ (w : Bool). if w then b ∷ leading_word t else []) e);
  rest = subst (λ (w : Bool). IsSpread false (if w then skip_word u else b ∷ u) (if w then skip_word t else b ∷ t)) (sym e) (kept b s);
}

pub same_word : {w : Bool} {u t : List ℕ} → w ≡ false → IsSpread w u t → SameWord u t
same_word n nothing = record { word = refl; rest = nothing }
same_word n (kept b s) = word_kept b (is_word_byte b) refl s (λ h. same_word h s)
same_word n (behind b e s) = cc
same_word n (in_front {u = u} {t = t} b e f s) = record {
  word = (no_word (b ∷ u) e).0 ∙ sym (no_word t f).0;
  rest = subst (λ (x : List ℕ). IsSpread false x (skip_word t)) (sym (no_word (b ∷ u) e).1)
      (subst (λ (x : List ℕ). IsSpread false (b ∷ u) x) (sym (no_word t f).1) (in_front b e f s));
}

signs_agree : {u t : List ℕ} → IsSpread false u t →
    (starts_with_byte 43 u || starts_with_byte 45 u) ≡ (starts_with_byte 43 t || starts_with_byte 45 t)
signs_agree s = ap₂ (λ (a b : Bool). a || b) (same_first 43 refl s).same (same_first 45 refl s).same

-- The name `w` has arguments before both rests, or before neither.
same_name : (w : List ℕ) {u t : List ℕ} → IsSpread false u t → SameNext (name_token w u) (name_token w t)
same_name w {u = u} {t = t} s = by (skipped s)
  where
    by_rest : {x y : Option (List ℕ)} → SameRest x y → SameNext (with_arguments w x) (with_arguments w y)
    by_rest no_rest = unread
    by_rest (some_rest r) = finds (name w true) r

    by : {x y : List ℕ} → SameFront x y →
        SameNext (if starts_with_byte 40 x then with_arguments w (after_matching_paren 0 (drop 1 x)) else found (name w false) u)
        (if starts_with_byte 40 y then with_arguments w (after_matching_paren 0 (drop 1 y)) else found (name w false) t)
    by no_front = finds (name w false) (false, s)
    by (front b n r) = next_if (b == 40) (by_rest (closed 0 r)) (finds (name w false) (false, s))

same_token : (w : List ℕ) {u t : List ℕ} → IsSpread false u t → SameNext (word_token w u) (word_token w t)
same_token w {u = u} {t = t} s = next_if (is_digit (slice_index w 0))
    (subst (λ (b : Bool). SameNext (if is_constant w && not (has_exponent_sign w u) then found (number w) u else unreadable)
    (if is_constant w && not ((slice_index w (length w - 1) == 101 || slice_index w (length w - 1) == 69) && b) then found (number w) t else unreadable)) (signs_agree s)
    (next_if (is_constant w && not (has_exponent_sign w u)) (finds (number w) (false, s)) unread))
    (next_if (bytes_eq w (codes "defined")) (finds defined (false, s)) (same_name w s))

same_leading : {u t : List ℕ} → SameFront u t → SameNext (leading_token u) (leading_token t)
same_leading no_front = ends
same_leading (front {u = u} {t = t} b n s) = next_if (is_word_byte b)
    (let r : SameWord (b ∷ u) (b ∷ t) = same_word refl (kept {white = false} b (subst (λ (w : Bool). IsSpread w u t) (sym n) s)) in
    subst (λ (w : List ℕ). SameNext (word_token (leading_word (b ∷ u)) (skip_word (b ∷ u))) (word_token w (skip_word (b ∷ t)))) r.word (same_token (leading_word (b ∷ u)) r.rest))
    (same_sign b s)

same_next : {u t : List ℕ} → Spread u t → SameNext (next_token u) (next_token t)
unfolding next_token
same_next (w, s) = same_leading (skipped s)

same_after : (n m : ℕ) (u t : List ℕ) {x y : NextToken} → next_token u ≡ x → next_token t ≡ y → SameNext x y →
    ((v z : List ℕ) → Spread v z → length v < length u → length z < length t → tokens_in n v ≡ tokens_in m z) →
    prepend_token (λ (v : List ℕ). tokens_in n v) x ≡ prepend_token (λ (z : List ℕ). tokens_in m z) y
same_after n m u t p q ends f = refl
same_after n m u t p q unread f = refl
same_after n m u t p q (finds {u = v} {t = z} k s) f = cc (f v z s (shorter u v k p) (shorter t z k q))

same_in : (n m : ℕ) (u t : List ℕ) → Spread u t → length u < n → length t < m → tokens_in n u ≡ tokens_in m t
same_in (suc n) (suc m) u t s l k =
    same_after n m u t refl refl (same_next s) (λ v z r i j. same_in n m v z r (omega arith) (omega arith))
same_in n m u t h g k = grind arith

-- The tokens of a text are those with white space inserted beside white space.
pub spread_tokens : (u t : List ℕ) → Spread u t → tokens_of u ≡ tokens_of t
unfolding tokens_of
spread_tokens u t s = same_in (suc (length u)) (suc (length t)) u t s (omega arith) (omega arith)
