-- Text: a line that is read without a stop shows no `#` that belongs to a directive.
use Rattle.std.proofs.Common.{arith, ◌≡◌, ℕ, ◌==◌, List, [], ◌∷◌, ◌++◌, Bool, true, false, not, ◌&&◌, ◌||◌, if◌then◌else◌, refl, sym, ◌∙◌, ap, subst, ne_eqb, Option, Some, None, bytes_eq}
use Rattle.std.specs.List.{list_any}
use Rattle.std.proofs.lemmas.Bool.{eqb-true}
use Rattle.std.proofs.Math.Bool.{and-false}
use Rattle.ud_model.specs.text.Bytes.{is_white, is_quote, is_word_byte, skip_white, leading_word, slash, number_sign, newline, space, carriage_return}
use Rattle.ud_model.specs.text.Lines.{NoNewline}
use Rattle.ud_model.specs.text.Scans.{Scan}
use Rattle.ud_model.specs.aids.LexStates.{LexState, in_text, at_slash, in_block, at_star, in_line, in_literal, at_backslash, next_state, opens_comment, masked_byte, blank_last}
use Rattle.ud_model.specs.sections.Directives.{cut_keyword, text, content_of, skip_white_and_hash, skip_hash, has_split_keyword, content_after_hash, directive_at, may_split_keyword, kind_of, is_prefix_of_keyword, is_no_keyword, may_begin, keywords}
use Rattle.ud_model.proofs.sections.Keywords.{no_keyword}
use Rattle.ud_model.specs.declared.kind.Kind.{Kind}
use Rattle.ud_text.specs.bulk.BulkStates.{BulkState, starts_with_no_keyword, is_other_word, HasNoStop}
use Rattle.ud_model.proofs.text.ScanLaws.{masked_after}
use Rattle.ud_text.proofs.lemmas.searching.ByteLemmas.{both}

-- `is_unsure word`: the word is a prefix of a keyword, or a single slash: what follows it might
-- make a directive
abbrev pub is_unsure : List ℕ → Bool
is_unsure word = bytes_eq word (slash ∷ []) || is_prefix_of_keyword word

-- `IsOther bytes`: the bytes begin with no keyword, nor with a prefix of one, but with a byte
pub record IsOther (bytes : List ℕ) : Type 0 where
  pub first : ℕ
  pub more : List ℕ
  pub is : skip_white bytes ≡ first ∷ more
  pub none : kind_of (leading_word (first ∷ more)) ≡ None
  pub sure : is_unsure (first ∷ more) ≡ false

-- `Unsigned rest`: no `#` comes first, or another name follows it
pub data Unsigned : Option (List ℕ) → Type 0 where
  no_sign : Unsigned None
  other_sign : (rest : List ℕ) → IsOther rest → Unsigned (Some rest)

-- a scan without such a `#` is text, also if a continuation cuts it off
pub text_unsigned : (scan : Scan) → Unsigned (skip_white_and_hash scan.masked) → content_of scan ≡ text
text_unsigned scan u = by_sign (skip_white_and_hash scan.masked) u
  where
    chosen : (f j l y : Bool) (word : List ℕ) (k : Option Kind) → y ≡ false → k ≡ None →
        (if f && j && l && y then cut_keyword else if f then directive_at scan word k else text) ≡ text
    chosen f j l y word k h m = grind arith

    stays : (word : List ℕ) (a : ℕ) (more : List ℕ) → word ≡ a ∷ more → is_unsure (a ∷ more) ≡ false → may_split_keyword scan word ≡ false
    stays word a more h k = grind arith

    by_sign : (o : Option (List ℕ)) → Unsigned o → (if has_split_keyword scan o then cut_keyword else content_after_hash scan o) ≡ text
    by_sign None v = refl
    by_sign (Some _) (other_sign rest i) = grind (arith, chosen, stays)

-- `Settled w masked`: what is shown doesn't begin with a slash that waits for the next byte
abbrev pub Settled : LexState → List ℕ → Type 0
Settled at_slash [] = ⊥
Settled at_slash (x ∷ m) = Unit {0}
Settled in_text m = Unit {0}
Settled in_block m = Unit {0}
Settled at_star m = Unit {0}
Settled in_line m = Unit {0}
Settled (in_literal q) m = Unit {0}
Settled (at_backslash q) m = Unit {0}

settled_some : (w : LexState) (m : List ℕ) (y : ℕ) → Settled w (m ++ y ∷ [])
settled_some at_slash [] y = tt
settled_some at_slash (x ∷ m) y = tt
settled_some in_text m y = tt
settled_some in_block m y = tt
settled_some at_star m y = tt
settled_some in_line m y = tt
settled_some (in_literal q) m y = tt
settled_some (at_backslash q) m y = tt

front_step : (w : LexState) (b x : ℕ) (m : List ℕ) → Settled w m →
    (if opens_comment w b then blank_last (x ∷ m) else x ∷ m) ≡ x ∷ (if opens_comment w b then blank_last m else m)
front_step w b x m h = grind arith

-- the first byte shown stays
pub front_stays : (x : ℕ) (m : List ℕ) (w : LexState) (bytes : List ℕ) → Settled w m → masked_after w (x ∷ m) bytes ≡ x ∷ masked_after w m bytes
front_stays x m w [] h = refl
front_stays x m w (b ∷ bytes) h =
    let now : List ℕ = if opens_comment w b then blank_last m else m in
    ap (λ (l : List ℕ). masked_after (next_state w b) (l ++ masked_byte w b ∷ []) bytes) (front_step w b x m h)
    ∙ front_stays x (now ++ masked_byte w b ∷ []) (next_state w b) bytes (settled_some (next_state w b) now (masked_byte w b))

-- a byte that is neither white space nor `#` comes first
pub black_first : (x : ℕ) (m : List ℕ) (w : LexState) (bytes : List ℕ) → Settled w m → is_white x ≡ false → (x == number_sign) ≡ false →
    Unsigned (skip_white_and_hash (masked_after w (x ∷ m) bytes))
black_first x m w bytes h e f = subst (λ (l : List ℕ). Unsigned (skip_white_and_hash l)) (sym (front_stays x m w bytes h)) (by_tests (is_white x) (x == number_sign) e f)
  where
    by_tests : (t s : Bool) → t ≡ false → s ≡ false →
        Unsigned (skip_hash (if t then skip_white (masked_after w m bytes) else x ∷ masked_after w m bytes))
    by_tests true s g k = cc
    by_tests false s g k = subst Unsigned (sym (ap (λ (o : Bool). if o then Some (masked_after w m bytes) else None) f)) no_sign

-- leading white space doesn't count
pub white_first : (x : ℕ) (m : List ℕ) (w : LexState) (bytes : List ℕ) → Settled w m → is_white x ≡ true →
    Unsigned (skip_white_and_hash (masked_after w m bytes)) → Unsigned (skip_white_and_hash (masked_after w (x ∷ m) bytes))
white_first x m w bytes h k l = grind (arith, front_stays, masked_after)

-- `Class b`: the classes of bytes that count here
pub data Class : ℕ → Type 0 where
  a_slash : Class slash
  a_sign : Class number_sign
  a_white : (b : ℕ) → is_white b ≡ true → (b == slash) ≡ false → is_quote b ≡ false → (b == number_sign) ≡ false → (b == newline) ≡ false → is_word_byte b ≡ false → Class b
  a_quote : (b : ℕ) → is_quote b ≡ true → is_white b ≡ false → (b == slash) ≡ false → (b == number_sign) ≡ false → (b == newline) ≡ false → is_word_byte b ≡ false → Class b
  another : (b : ℕ) → is_white b ≡ false → (b == slash) ≡ false → is_quote b ≡ false → (b == number_sign) ≡ false → Class b

-- each byte is of one class
pub class_of : (b : ℕ) → Class b
class_of b = by_slash (b == slash) refl
  where
    white_is : (t u v w x : Bool) → (b == space) ≡ t → (b == 9) ≡ u → (b == 11) ≡ v → (b == 12) ≡ w → (b == carriage_return) ≡ x → (t || u || v || w || x) ≡ true → is_white b ≡ true → Class b
    white_is true u v w x e f g h i j k = subst Class (sym (eqb-true b space e)) (a_white space refl refl refl refl refl refl)
    white_is false true v w x e f g h i j k = subst Class (sym (eqb-true b 9 f)) (a_white 9 refl refl refl refl refl refl)
    white_is false false true w x e f g h i j k = subst Class (sym (eqb-true b 11 g)) (a_white 11 refl refl refl refl refl refl)
    white_is false false false true x e f g h i j k = subst Class (sym (eqb-true b 12 h)) (a_white 12 refl refl refl refl refl refl)
    white_is false false false false true e f g h i j k = subst Class (sym (eqb-true b carriage_return i)) (a_white carriage_return refl refl refl refl refl refl)
    white_is false false false false false e f g h i j k = cc

    quote_is : (t u : Bool) → (b == 34) ≡ t → (b == 39) ≡ u → (t || u) ≡ true → Class b
    quote_is true u e f g = subst Class (sym (eqb-true b 34 e)) (a_quote 34 refl refl refl refl refl refl)
    quote_is false true e f g = subst Class (sym (eqb-true b 39 f)) (a_quote 39 refl refl refl refl refl refl)
    quote_is false false e f g = cc

    by_white : (t : Bool) → is_white b ≡ t → (b == slash) ≡ false → is_quote b ≡ false → (b == number_sign) ≡ false → Class b
    by_white true e f g h = white_is (b == space) (b == 9) (b == 11) (b == 12) (b == carriage_return) refl refl refl refl refl e e
    by_white false e f g h = another b e f g h

    by_quote : (t : Bool) → is_quote b ≡ t → (b == slash) ≡ false → (b == number_sign) ≡ false → Class b
    by_quote true e f g = quote_is (b == 34) (b == 39) refl refl e
    by_quote false e f g = by_white (is_white b) refl f e g

    by_sign : (t : Bool) → (b == number_sign) ≡ t → (b == slash) ≡ false → Class b
    by_sign true e f = subst Class (sym (eqb-true b number_sign e)) a_sign
    by_sign false e f = by_quote (is_quote b) refl f e

    by_slash : (t : Bool) → (b == slash) ≡ t → Class b
    by_slash true e = subst Class (sym (eqb-true b slash e)) a_slash
    by_slash false e = by_sign (b == number_sign) refl e

next_plain : (b : ℕ) → (b == slash) ≡ false → is_quote b ≡ false → next_state in_text b ≡ in_text
next_plain b h k = grind arith

-- a byte of no meaning is shown unchanged
shown_plain : (b : ℕ) (bytes : List ℕ) → (b == slash) ≡ false → is_quote b ≡ false → masked_after in_text [] (b ∷ bytes) ≡ b ∷ masked_after in_text [] bytes
shown_plain b bytes h k = grind (arith, masked_after, next_plain, front_stays)

pub word_is_plain : (b : ℕ) → is_word_byte b ≡ true → (is_white b ≡ false) × ((b == slash) ≡ false) × (is_quote b ≡ false)
word_is_plain b h = grind arith

-- a word that begins with two such bytes is no keyword
pub other_word : (b c : ℕ) (w v : List ℕ) → is_no_keyword b c ≡ true → (is_word_byte c ≡ true → w ≡ c ∷ v) → kind_of (b ∷ w) ≡ None
other_word b c w v e f = (no_keyword b c w v e f).0

no_slash : (b : ℕ) (w : List ℕ) → (b == slash) ≡ false → bytes_eq (b ∷ w) (slash ∷ []) ≡ false
no_slash b w e = rw e refl

-- what follows a word that begins with two such bytes makes no directive
pub other_sure : (b c : ℕ) (w v : List ℕ) → is_no_keyword b c ≡ true → (b == slash) ≡ false → (is_word_byte c ≡ true → w ≡ c ∷ v) → is_unsure (b ∷ w) ≡ false
other_sure b c w v h k l = grind (arith, no_slash, no_keyword, and-false)

-- `NoWord bytes`: no byte of a word comes first
abbrev pub NoWord : List ℕ → Type 0
NoWord [] = Unit {0}
NoWord (b ∷ bytes) = is_word_byte b ≡ false

pub word_front : (b : ℕ) (w : List ℕ) → is_word_byte b ≡ true → leading_word (b ∷ w) ≡ b ∷ leading_word w
word_front b w e = rw e refl

-- the first of two such bytes is one of a word
pub is_no_keyword-first : (b c : ℕ) → is_no_keyword b c ≡ true → is_word_byte b ≡ true
is_no_keyword-first b c e = (both (is_word_byte b) (not (list_any (λ (row : List ℕ × Kind). may_begin row.0 b c) keywords)) e).0

word_shown : (b : ℕ) (bytes tail : List ℕ) → starts_with_no_keyword (b ∷ (bytes ++ tail)) ≡ true → NoWord tail → IsOther (b ∷ masked_after in_text [] bytes)
word_shown b [] [] e n = cc
word_shown b [] (c ∷ tail) e n = let word : is_word_byte b ≡ true = is_no_keyword-first b c e in
    record {
      first = b;
      more = [];
      is = rw (word_is_plain b word).0 refl;
      none = ap kind_of (word_front b [] word) ∙ (no_keyword b c [] [] e (λ f. cc)).0;
      sure = other_sure b c [] [] e (word_is_plain b word).1 (λ f. cc);
    }
word_shown b (c ∷ bytes) tail e n = let word : is_word_byte b ≡ true = is_no_keyword-first b c e in
    record {
      first = b;
      more = masked_after in_text [] (c ∷ bytes);
      is = rw (word_is_plain b word).0 refl;
      none = ap kind_of (word_front b (masked_after in_text [] (c ∷ bytes)) word)
          ∙ (no_keyword b c (leading_word (masked_after in_text [] (c ∷ bytes))) (leading_word (masked_after in_text [] bytes)) e
          (λ f. ap leading_word (shown_plain c bytes (word_is_plain c f).1 (word_is_plain c f).2) ∙ word_front c (masked_after in_text [] bytes) f)).0;
      sure = other_sure b c (masked_after in_text [] (c ∷ bytes)) (masked_after in_text [] bytes) e (word_is_plain b word).1
          (λ f. shown_plain c bytes (word_is_plain c f).1 (word_is_plain c f).2);
    }

pub white_other : (b : ℕ) (bytes : List ℕ) → is_white b ≡ true → IsOther bytes → IsOther (b ∷ bytes)
white_other b bytes w i = record { first = i.first; more = i.more; is = rw w i.is; none = i.none; sure = i.sure }

-- a name that is no keyword is shown unchanged
name_shown : (bytes tail : List ℕ) → is_other_word (bytes ++ tail) ≡ true → is_other_word tail ≡ false → NoWord tail →
    IsOther (masked_after in_text [] bytes)
name_shown [] tail e f n = cc
name_shown (b ∷ bytes) tail e f n = by_class b (class_of b) e (λ g. name_shown bytes tail g f n)
  where
    black : (b : ℕ) → is_white b ≡ false → is_other_word (b ∷ (bytes ++ tail)) ≡ true → starts_with_no_keyword (b ∷ (bytes ++ tail)) ≡ true
    black b w g = sym (rw w refl) ∙ g

    first_word : (b : ℕ) (more : List ℕ) → starts_with_no_keyword (b ∷ more) ≡ true → is_word_byte b ≡ true
    first_word b more h = grind arith

    by_class : (b : ℕ) → Class b → is_other_word (b ∷ (bytes ++ tail)) ≡ true →
        (is_other_word (bytes ++ tail) ≡ true → IsOther (masked_after in_text [] bytes)) → IsOther (masked_after in_text [] (b ∷ bytes))
    by_class _ a_slash g more = let h : is_word_byte slash ≡ true = first_word slash (bytes ++ tail) g in cc
    by_class _ a_sign g more = let h : is_word_byte number_sign ≡ true = first_word number_sign (bytes ++ tail) g in cc
    by_class _ (a_white b w e f s i n) g more = grind (arith, shown_plain, white_other, masked_after)
    by_class _ (a_quote b q w e f i n) g more = let h : is_word_byte b ≡ true = first_word b (bytes ++ tail) (black b w g) in cc
    by_class _ (another b w e f s) g more = grind (arith, shown_plain, word_shown, black)

-- `NotLiteral w`: the lexer state `w` is outside literals
abbrev pub NotLiteral : LexState → Type 0
NotLiteral in_text = Unit {0}
NotLiteral at_slash = Unit {0}
NotLiteral in_block = Unit {0}
NotLiteral at_star = Unit {0}
NotLiteral in_line = Unit {0}
NotLiteral (in_literal q) = ⊥
NotLiteral (at_backslash q) = ⊥

-- `pending w`: the last byte as it is shown, if it waits for the next one
abbrev pub pending : LexState → List ℕ
pending at_slash = slash ∷ []
pending in_text = []
pending in_block = []
pending at_star = []
pending in_line = []
pending (in_literal q) = []
pending (at_backslash q) = []

-- `white_at w c`: the state in the lexer state `w` on a line that is white so far
abbrev pub white_at : LexState → Bool → BulkState
white_at w c = record { state = w; white = true; spliced = c }

next_quote : (b : ℕ) → (b == slash) ≡ false → is_quote b ≡ true → next_state in_text b ≡ in_literal b
next_quote b e q = rw (e, q) refl

module _ (bytes tail : List ℕ) (later : (w : LexState) (c : Bool) → NotLiteral w → HasNoStop (white_at w c) (bytes ++ tail) → Unsigned (skip_white_and_hash (masked_after w (pending w) bytes)))
    (f : is_other_word tail ≡ false) (n : NoWord tail) where
  from_text : (b : ℕ) (c : Bool) → Class b → (b == newline) ≡ false → HasNoStop (white_at in_text c) (b ∷ (bytes ++ tail)) → Unsigned (skip_white_and_hash (masked_after in_text [] (b ∷ bytes)))
  from_text _ c a_slash i h = later at_slash _ tt h.1
  from_text _ c a_sign i h =
      subst (λ (l : List ℕ). Unsigned (skip_white_and_hash l)) (sym (front_stays number_sign [] in_text bytes tt))
      (other_sign (masked_after in_text [] bytes) (name_shown bytes tail (is_other h.0) f n))
    where
      is_other : not (is_other_word (bytes ++ tail)) ≡ false → is_other_word (bytes ++ tail) ≡ true
      is_other h = grind arith
  from_text _ c (a_white b w e q s i m) _ h = grind (arith, white_first)
  from_text _ c (a_quote b q w e s i m) _ h = grind (arith, masked_after, next_quote, black_first)
  from_text _ c (another b w e q s) _ h = grind (arith, masked_after, next_plain, black_first)

  spaces : (w : LexState) → pending w ≡ [] → Settled w [] → Unsigned (skip_white_and_hash (masked_after w (pending w) bytes)) → Unsigned (skip_white_and_hash (masked_after w (space ∷ []) bytes))
  spaces w e s u = grind (arith, white_first, masked_after)

  from_slash : (b : ℕ) (c : Bool) → HasNoStop (white_at at_slash c) (b ∷ (bytes ++ tail)) → Unsigned (skip_white_and_hash (masked_after at_slash (slash ∷ []) (b ∷ bytes)))
  from_slash b c h = grind (arith, masked_after, black_first, settled_some, white_first, spaces, eqb-true)

  from_block : (b : ℕ) (c : Bool) → HasNoStop (white_at in_block c) (b ∷ (bytes ++ tail)) → Unsigned (skip_white_and_hash (masked_after in_block [] (b ∷ bytes)))
  from_block b c h = grind (arith, masked_after, spaces)

  from_star : (b : ℕ) (c : Bool) → HasNoStop (white_at at_star c) (b ∷ (bytes ++ tail)) → Unsigned (skip_white_and_hash (masked_after at_star [] (b ∷ bytes)))
  from_star b c h = grind (arith, masked_after, spaces)

  from_line : (b : ℕ) (c : Bool) → (b == newline) ≡ false → HasNoStop (white_at in_line c) (b ∷ (bytes ++ tail)) → Unsigned (skip_white_and_hash (masked_after in_line [] (b ∷ bytes)))
  from_line b c h k = grind (arith, masked_after, spaces)

-- what is shown of a line without a stop begins with no `#`, unless another name follows it
pub unsigned : (bytes tail : List ℕ) (w : LexState) (c : Bool) → NotLiteral w → NoNewline bytes → HasNoStop (white_at w c) (bytes ++ tail) →
    is_other_word tail ≡ false → NoWord tail → Unsigned (skip_white_and_hash (masked_after w (pending w) bytes))
unsigned [] tail in_text c l o h f n = no_sign
unsigned [] tail at_slash c l o h f n = no_sign
unsigned [] tail in_block c l o h f n = no_sign
unsigned [] tail at_star c l o h f n = no_sign
unsigned [] tail in_line c l o h f n = no_sign
unsigned [] tail (in_literal q) c l o h f n = absurd l
unsigned [] tail (at_backslash q) c l o h f n = absurd l
unsigned (b ∷ bytes) tail in_text c l o h f n = from_text bytes tail (λ w d m k. unsigned bytes tail w d m o.1 k f n) f n b c (class_of b) (ne_eqb b newline o.0) h
unsigned (b ∷ bytes) tail at_slash c l o h f n = from_slash bytes tail (λ w d m k. unsigned bytes tail w d m o.1 k f n) f n b c h
unsigned (b ∷ bytes) tail in_block c l o h f n = from_block bytes tail (λ w d m k. unsigned bytes tail w d m o.1 k f n) f n b c h
unsigned (b ∷ bytes) tail at_star c l o h f n = from_star bytes tail (λ w d m k. unsigned bytes tail w d m o.1 k f n) f n b c h
unsigned (b ∷ bytes) tail in_line c l o h f n = from_line bytes tail (λ w d m k. unsigned bytes tail w d m o.1 k f n) f n b c (ne_eqb b newline o.0) h
unsigned (b ∷ bytes) tail (in_literal q) c l o h f n = absurd l
unsigned (b ∷ bytes) tail (at_backslash q) c l o h f n = absurd l
