-- Masking: bytes that leave the lexer's state unchanged, and how a text is shown with them.
use Rattle.std.proofs.Common.{◌≡◌, ℕ, zero, suc, ◌+◌, ◌-◌, ◌<◌, ◌≤◌, ◌==◌, List, [], ◌∷◌, ◌++◌, length, take, drop, replicate, get_or, Bool, true, false, not, cond, ◌&&◌, if◌then◌else◌, Option, unwrap_or, is_some, refl, sym, ◌∙◌, ap, subst, append_assoc, append-nil, arith, ne_eqb}
use Rattle.std.proofs.lemmas.Bool.{false_from_ne_true}
use Rattle.std.specs.List.{position_or_len}
use Rattle.std.proofs.lemmas.List.{take_all, take_rest, length-take-le, drop-take, take-take, take-append-drop}
use Rattle.std.specs.Option.{option_to_list}
use Rattle.memchr.specs.Find.{IsFirstByte, is_byte}
use Rattle.ud_model.specs.text.Bytes.{are_white, star, space, is_mark}
use Rattle.ud_model.specs.text.Lines.{NoNewline}
use Rattle.ud_model.specs.aids.LexStates.{LexState, in_text, in_block, at_star, in_line, next_state, opens_comment, masked_byte, stays_white, blank_last, LexesTo, Masks}
use Rattle.ud_model.proofs.text.LexStateLemmas.{Masks-step, blank_last-last}
use Rattle.ud_model.proofs.text.ScanLemmas.{Masks-start}
use Rattle.std.proofs.lemmas.Grind.{common_steps}

-- how a text is shown, under other names of the same values
pub Masks-same : {n : ℕ} {t u : List ℕ} {w x : LexState} {b c : Bool} {m k : List ℕ} → t ≡ u → w ≡ x → b ≡ c → m ≡ k → Masks n t w b m → Masks n u x c k
Masks-same h l o p q = grind arith

-- the last byte, if there is one, is replaced by a space
pub blanked : (old rest new : List ℕ) (last : Option ℕ) → old ≡ rest ++ option_to_list last → is_some last ≡ true → new ≡ rest ++ space ∷ [] → new ≡ blank_last old
blanked old rest new last h k l = grind (arith, blank_last-last)

-- the text as it is shown with one more byte
pub one_more : (n : ℕ) (text : List ℕ) (w v : LexState) (white now_white : Bool) (b : ℕ) (old blanked new : List ℕ) (o : Bool) →
    Masks n text w white old → o ≡ opens_comment w b → blanked ≡ (if o then blank_last old else old) → new ≡ blanked ++ masked_byte w b ∷ [] →
    v ≡ next_state w b → now_white ≡ stays_white w white b → Masks n (text ++ b ∷ []) v now_white new
one_more n text w v white now_white b old blanked new o m e f g h i =
    Masks-same refl (sym h) (sym i)
    (sym (g ∙ ap (λ (l : List ℕ). l ++ masked_byte w b ∷ []) (f ∙ ap (λ (t : Bool). if t then blank_last old else old) e))) (Masks-step b m)

-- `NoMark bytes`: none of the bytes is a mark
abbrev pub NoMark : List ℕ → Type 0
NoMark [] = Unit {0}
NoMark (b ∷ bytes) = (is_mark b ≡ false) × NoMark bytes

-- `NoStar bytes`: none of the bytes is a star
abbrev pub NoStar : List ℕ → Type 0
NoStar [] = Unit {0}
NoStar (b ∷ bytes) = ((b == star) ≡ false) × NoStar bytes

-- a run of bytes outside comments and literals is shown unchanged
pub Masks-text : {n : ℕ} (bytes text : List ℕ) (white : Bool) (masked : List ℕ) → NoMark bytes → NoNewline bytes →
    Masks n text in_text white masked → Masks n (text ++ bytes) in_text (white && are_white bytes) (masked ++ bytes)
Masks-text [] text white masked p q m = Masks-same (sym (append-nil text)) refl (grind arith) (sym (append-nil masked)) m
Masks-text (b ∷ bytes) text white masked p q m = grind (
  arith,
  common_steps,
  Masks-text bytes (text ++ b ∷ []) (stays_white in_text white b) (masked ++ b ∷ []) p.1 q.1
      (Masks-same refl (sym (grind (arith, p.0))) refl refl (Masks-step b m)),
)

in_block_with : (t : Bool) → t ≡ false → (if t then at_star else in_block) ≡ in_block
in_block_with t h = grind arith

-- a run of bytes in a block comment is shown as spaces
pub Masks-block : {n : ℕ} (bytes text : List ℕ) {white : Bool} (masked : List ℕ) → NoStar bytes →
    Masks n text in_block white masked → Masks n (text ++ bytes) in_block white (masked ++ replicate (length bytes) space)
Masks-block [] text masked p m = Masks-same (sym (append-nil text)) refl refl (sym (append-nil masked)) m
Masks-block (b ∷ bytes) text masked p m = grind (arith, Masks-same, append_assoc, replicate, in_block_with, Masks-step, Masks-block bytes (text ++ b ∷ []) (masked ++ space ∷ []) p.1 (Masks-same refl (in_block_with (b == star) p.0) refl refl (Masks-step b m)))

-- a run of bytes in a line comment is shown as spaces
pub Masks-line : {n : ℕ} (bytes text : List ℕ) {white : Bool} (masked : List ℕ) → NoNewline bytes →
    Masks n text in_line white masked → Masks n (text ++ bytes) in_line white (masked ++ replicate (length bytes) space)
Masks-line [] text masked p m = Masks-same (sym (append-nil text)) refl refl (sym (append-nil masked)) m
Masks-line {n} (b ∷ bytes) text {white} masked p m =
    Masks-same (append_assoc text (b ∷ []) bytes) refl refl (append_assoc masked (space ∷ []) (replicate (length bytes) space))
    (Masks-line bytes (text ++ b ∷ []) (masked ++ space ∷ []) p.1 (by_feed (b == 10) (ne_eqb b 10 p.0) (Masks-step b m)))
  where
    by_feed : (t : Bool) → t ≡ false → Masks n (text ++ b ∷ []) (if t then in_text else in_line) (if t then true else white) (masked ++ (if t then b else space) ∷ []) →
        Masks n (text ++ b ∷ []) in_line white (masked ++ space ∷ [])
    by_feed t h k = grind arith

-- the bytes before the first mark have none
pub no_mark_before : (bytes : List ℕ) → NoMark (take (position_or_len is_mark bytes) bytes)
no_mark_before [] = tt
no_mark_before (b ∷ bytes) = by_mark (is_mark b) (position_or_len is_mark bytes) refl (no_mark_before bytes)
  where
    by_mark : (t : Bool) (n : ℕ) → is_mark b ≡ t → NoMark (take n bytes) → NoMark (take (cond (not t) (1 + n) 0) (b ∷ bytes))
    by_mark t n h k = grind arith

-- a prefix has no star, if none is at any of its positions
pub no_star_before : (bytes : List ℕ) (k : ℕ) → ((j : ℕ) → j < k → (get_or bytes j 0 == star) ≡ true → ⊥) → NoStar (take k bytes)
no_star_before bytes zero none = tt
no_star_before [] (suc k) none = tt
no_star_before (b ∷ bytes) (suc k) none =
    (false_from_ne_true (b == star) (none 0 (omega arith)), no_star_before bytes k (λ j h. none (suc j) (omega arith)))

-- a prefix of bytes without a newline has none
pub no_newline-take : (k : ℕ) (bytes : List ℕ) → NoNewline bytes → NoNewline (take k bytes)
no_newline-take zero bytes h = tt
no_newline-take (suc k) [] h = tt
no_newline-take (suc k) (b ∷ bytes) h = (h.0, no_newline-take k bytes h.1)

-- the rest of bytes without a newline has none
pub no_newline-drop : (k : ℕ) (bytes : List ℕ) → NoNewline bytes → NoNewline (drop k bytes)
no_newline-drop zero bytes h = h
no_newline-drop (suc k) [] h = tt
no_newline-drop (suc k) (b ∷ bytes) h = no_newline-drop k bytes h.1

-- a prefix of bytes, and a prefix of the rest, are a longer prefix
pub take_run : (bytes : List ℕ) (at count : ℕ) → take at bytes ++ take count (take (length bytes - at) (drop at bytes)) ≡ take (at + count) bytes
take_run bytes at count = ap (λ (l : List ℕ). take at bytes ++ take count l) (take_rest bytes at)
    ∙ ap (λ (l : List ℕ). take at bytes ++ l) (sym (drop-take at count bytes))
    ∙ ap (λ (l : List ℕ). l ++ drop at (take (at + count) bytes)) (sym (take-take at (at + count) bytes (omega arith)))
    ∙ take-append-drop at (take (at + count) bytes)

-- the text as it is shown with a prefix of the bytes that follow, and a prefix of the rest
pub run_read : {n : ℕ} (text bytes : List ℕ) (at count : ℕ) {w : LexState} {white : Bool} {masked : List ℕ} →
    Masks n ((text ++ take at bytes) ++ take count (take (length bytes - at) (drop at bytes))) w white masked →
    Masks n (text ++ take (at + count) bytes) w white masked
run_read text bytes at count m = grind (arith, Masks-same, append_assoc, take_run)

-- the text as it is shown with the bytes before the first mark
pub text_run : {n : ℕ} (text rest old new : List ℕ) {w : LexState} {white : Bool} (now_white : Bool) (count : ℕ) →
    Masks n text w white old → w ≡ in_text → count ≡ position_or_len is_mark rest → NoNewline rest → new ≡ old ++ take count rest →
    now_white ≡ (white && are_white (take count rest)) → Masks n (text ++ take count rest) in_text now_white new
text_run text rest old new {w} {white} now_white count m e f h p q =
    let none : NoMark (take count rest) = subst (λ (k : ℕ). NoMark (take k rest)) (sym f) (no_mark_before rest) in
    Masks-same refl refl (sym q) (sym p)
    (Masks-text (take count rest) text white old none (no_newline-take count rest h) (Masks-same refl e refl refl m))

-- the text as it is shown with the bytes before the first star
pub block_run : {n : ℕ} (text rest old new : List ℕ) {w : LexState} {white : Bool} (r : Option ℕ) (count : ℕ) →
    Masks n text w white old → w ≡ in_block → IsFirstByte (is_byte 42) rest r → count ≡ unwrap_or r (length rest) →
    new ≡ old ++ replicate count 32 → Masks n (text ++ take count rest) w white new
block_run text rest old new {w} r count m e f h p =
    let none : NoStar (take count rest) = subst (λ (k : ℕ). NoStar (take k rest)) (sym h) (grind (arith, no_star_before, f)) in
    let bound : count ≤ length rest = subst (λ (k : ℕ). k ≤ length rest) (sym h) (grind (arith, f)) in
    Masks-same refl (sym e) refl (ap (λ (k : ℕ). old ++ replicate k 32) (length-take-le count rest bound) ∙ sym p)
    (Masks-block (take count rest) text old none (Masks-same refl e refl refl m))

-- the text as it is shown with the rest of a line comment
pub line_run : {n : ℕ} (text rest old new : List ℕ) {w : LexState} {white : Bool} → Masks n text w white old → w ≡ in_line → NoNewline rest →
    new ≡ old ++ replicate (length rest) 32 → Masks n (text ++ take (length rest) rest) w white new
line_run text rest old new {w} m e h p =
    grind (arith, take_all, Masks-line rest text old h (Masks-same refl e refl refl m))

-- after white bytes a line is white if it is white before them
pub and_at_true : (a b : Bool) → b ≡ true → a ≡ (a && b)
and_at_true a b h = grind arith

-- after bytes that aren't white a line isn't white
pub and_at_false : (a b : Bool) → b ≡ false → b ≡ (a && b)
and_at_false a b h = grind arith

-- bytes without a mark are shown unchanged
pub plain_run : (text bytes : List ℕ) {w : LexState} {white : Bool} (now_white : Bool) (count : ℕ) →
    LexesTo text w white → w ≡ in_text → count ≡ position_or_len is_mark bytes → count ≡ length bytes → NoNewline bytes →
    now_white ≡ (white && are_white bytes) → Masks (length text) (text ++ bytes) in_text now_white bytes
plain_run text bytes {w} {white} now_white count r e f whole h q =
    let all : take (position_or_len is_mark bytes) bytes ≡ bytes = take_all (position_or_len is_mark bytes) bytes (omega (arith, f, whole)) in
    Masks-same refl refl (sym q) refl
    (Masks-text bytes text white [] (subst NoMark all (no_mark_before bytes)) h
    (Masks-same refl e refl refl (Masks-start r)))
