-- The position of a keyword: before it no comment and no literal is open, and the bytes there may
-- be exchanged.
use Rattle.std.proofs.Common.{◌≡◌, ◌≢◌, ℕ, ◌+◌, ◌==◌, List, [], ◌∷◌, ◌++◌, length, Bool, false, if◌then◌else◌, refl, sym, ◌∙◌, ap, ap₂, subst, append-nil, arith, length-append, ◌⊎◌}
use Rattle.ud_model.specs.text.Bytes.{slash, space, newline, is_quote, is_white}
use Rattle.ud_model.specs.aids.LexStates.{LexState, in_text, at_slash, in_literal, next_state, opens_comment, masked_byte, blank_last}
use Rattle.ud_model.proofs.text.LexStateLemmas.{length-blank_last}
use Rattle.ud_model.proofs.text.ScanLaws.{place_after, white_after, masked_after}
use Rattle.ud_model.proofs.output.SameShape.{parts}
use Rattle.ud_model.proofs.output.Each.{Each}
use Rattle.ud_model.proofs.output.EditedScan.{place_after-append, masked_after-append, white_after-append, masked_front, first_shown, text_front, has_quote, ends_in_slash, Quoted, Shown, shown_all}

length_by : (o : Bool) (m : List ℕ) → length (if o then blank_last m else m) ≡ length m
length_by o m = grind (arith, length-blank_last)

-- Each byte is shown as one.
pub length-masked_after : (bytes : List ℕ) (w : LexState) (m : List ℕ) → length (masked_after w m bytes) ≡ length m + length bytes
length-masked_after [] w m = omega arith
length-masked_after (b ∷ bytes) w m =
    let n : List ℕ = if opens_comment w b then blank_last m else m in
    grind (arith, length_by, length-append, length-masked_after bytes (next_state w b) (n ++ masked_byte w b ∷ []))

-- If the masked line goes on with this byte after these, the text before the byte ends between
-- lexemes.
pub record Found (w : LexState) (content prefix : List ℕ) (c : ℕ) (rest : List ℕ) : Type 0 where
  pub before : List ℕ
  pub behind : List ℕ
  pub are : content ≡ before ++ behind
  pub place : place_after w before ≡ in_text
  pub masks : masked_after w [] before ≡ prefix
  pub goes_on : masked_after in_text [] behind ≡ c ∷ rest

first_byte : (w : LexState) (b c : ℕ) (bytes rest : List ℕ) → c ≢ space → masked_after w (b ∷ []) bytes ≡ c ∷ rest → b ≡ c
first_byte w b c bytes rest n e = go (first_shown bytes w b)
  where
    go : (tail : List ℕ) × ((masked_after w (b ∷ []) bytes ≡ b ∷ tail) ⊎ (masked_after w (b ∷ []) bytes ≡ space ∷ tail)) → b ≡ c
    go h = grind arith

module _ (c : ℕ) (prefix : List ℕ) (unquoted : has_quote prefix ≡ false) (unslashed : ends_in_slash prefix ≡ false) (no_space : c ≢ space) (no_newline : c ≢ newline) where
  -- If the masked line goes on so, the text ends between lexemes.
  is_text : (p : LexState) (m : List ℕ) (x : ℕ) → Shown p m → (if opens_comment p x then blank_last m else m) ≡ prefix → masked_byte p x ≡ c → (p ≡ in_text) × (m ≡ prefix)
  is_text p m x h e g = grind arith

  -- The position of that byte.
  pub found_by : (w : LexState) (y : ℕ) (a : List ℕ) (b rest : List ℕ) → Quoted w [] → length (y ∷ a) ≡ length prefix →
      masked_after w [] ((y ∷ a) ++ b) ≡ prefix ++ c ∷ rest → Found w ((y ∷ a) ++ b) prefix c rest
  found_by w y a [] rest q l e = let m = length-masked_after ((y ∷ a) ++ []) w [] in
      let n : length ((y ∷ a) ++ []) ≡ length (y ∷ a) = ap (λ (k : List ℕ). length k) (append-nil (y ∷ a)) in
      let f : length (masked_after w [] ((y ∷ a) ++ [])) ≡ length (prefix ++ c ∷ rest) = ap (λ (k : List ℕ). length k) e in
      let g : length (prefix ++ c ∷ rest) ≡ length prefix + length (c ∷ rest) = length-append prefix (c ∷ rest) in
      absurd (omega arith)
  found_by w y a (x ∷ b) rest q l e = let p : LexState = place_after w (y ∷ a) in
      let m : List ℕ = masked_after w [] (y ∷ a) in
      let n : List ℕ = if opens_comment p x then blank_last m else m in
      let whole : masked_after w [] ((y ∷ a) ++ x ∷ b) ≡ n ++ masked_after (next_state p x) (masked_byte p x ∷ []) b =
      masked_after-append w [] (y ∷ a) (x ∷ b) ∙ masked_front b (next_state p x) n (masked_byte p x) in
      let long : length n ≡ length prefix = length_by (opens_comment p x) m ∙ length-masked_after (y ∷ a) w [] ∙ omega (arith, l) in
      let s : (n ≡ prefix) × (masked_after (next_state p x) (masked_byte p x ∷ []) b ≡ c ∷ rest) = grind (arith, parts) in
      let first : masked_byte p x ≡ c = first_byte (next_state p x) (masked_byte p x) c b rest no_space s.1 in
      let t : (p ≡ in_text) × (m ≡ prefix) = is_text p m x (shown_all y a w [] q) s.0 first in
      record {
        before = y ∷ a;
        behind = x ∷ b;
        are = refl;
        place = t.0;
        masks = t.1;
        goes_on = subst (λ (v : LexState). masked_after (next_state v x) (masked_byte v x ∷ []) b ≡ c ∷ rest) t.0 s.1;
      }

-- The byte begins no comment and no literal.
pub record IsInert (c : ℕ) : Type 0 where
  pub no_slash : (c == slash) ≡ false
  pub no_quote : is_quote c ≡ false
  pub no_newline : (c == newline) ≡ false

next_inert : (c : ℕ) → IsInert c → next_state in_text c ≡ in_text
next_inert c i = ap₂ (λ (s q : Bool). if s then at_slash else if q then in_literal c else in_text) i.no_slash i.no_quote

-- After bytes that begin nothing the text ends between lexemes.
pub place_inert : (word : List ℕ) → Each IsInert word → place_after in_text word ≡ in_text
place_inert [] h = refl
place_inert (c ∷ word) h = ap (λ (v : LexState). place_after v word) (next_inert c h.0) ∙ place_inert word h.1

-- Bytes that begin nothing are shown as they are.
pub masked_inert : (word : List ℕ) → Each IsInert word → masked_after in_text [] word ≡ word
masked_inert [] h = refl
masked_inert (c ∷ word) h = grind (arith, text_front, masked_inert word h.1)

-- A word that is shown is there.
pub word_stands : (word behind rest : List ℕ) → Each IsInert word → Each (λ c. c ≢ space) word → masked_after in_text [] behind ≡ word ++ rest →
    (more : List ℕ) × (behind ≡ word ++ more) × (masked_after in_text [] more ≡ rest)
word_stands (c ∷ word) (x ∷ behind) rest h n e =
    let q : x ≡ c = first_byte (next_state in_text x) x c behind (word ++ rest) n.0 e in
    let f = subst (λ (y : ℕ). masked_after (next_state in_text y) (y ∷ []) behind ≡ c ∷ (word ++ rest)) q e in
    let g : masked_after in_text (c ∷ []) behind ≡ c ∷ (word ++ rest) = cc (next_inert c h.0, f) in
    let k : c ∷ masked_after in_text [] behind ≡ c ∷ (word ++ rest) = sym (text_front behind (c ∷ [])) ∙ g in
    let t : masked_after in_text [] behind ≡ word ++ rest = cc in
    let r = word_stands word behind rest h.1 n.1 t in
    (r.0, ap₂ (λ (y : ℕ) (l : List ℕ). y ∷ l) q r.1, r.2)
word_stands word behind rest h g k = grind arith

module _ (w : LexState) (before more prefix rest : List ℕ) (place : place_after w before ≡ in_text)
    (masks : masked_after w [] before ≡ prefix) (ends : masked_after in_text [] more ≡ rest) where
  -- After another word at this position, the rest is shown as before.
  pub masked_other : (word : List ℕ) → Each IsInert word → masked_after w [] (before ++ (word ++ more)) ≡ prefix ++ (word ++ rest)
  masked_other word h = grind (arith, masked_after-append, text_front, place_inert, masked_inert)

  -- After another word, the text ends in the same state.
  pub place_other : (word : List ℕ) → Each IsInert word → place_after w (before ++ (word ++ more)) ≡ place_after in_text more
  place_other word h = grind (arith, place_after-append, place_inert)

  dark_word : (word : List ℕ) → Each IsInert word → white_after in_text false word ≡ false
  dark_word [] h = refl
  dark_word (c ∷ word) h = grind (arith, next_inert, dark_word word h.1)

  -- After another word, the line is white or not as before.
  pub white_other : (white : Bool) (c : ℕ) (word : List ℕ) → Each IsInert (c ∷ word) → is_white c ≡ false →
      white_after w white (before ++ ((c ∷ word) ++ more)) ≡ white_after in_text false more
  white_other white c word h d = grind (arith, white_after-append, place_inert, dark_word)
