-- The scan of an edited line: before the keyword of a directive no comment and no literal is open.
-- So another keyword in its place changes nothing of what follows.
use Rattle.std.proofs.Common.{◌≡◌, ℕ, ◌==◌, List, [], ◌∷◌, ◌++◌, Bool, true, false, ◌||◌, if◌then◌else◌, refl, sym, ◌∙◌, ap, append-nil, append_assoc, ◌⊎◌, inl, arith}
use Rattle.std.proofs.Math.Bool.{or-true, or_assoc}
use Rattle.ud_model.specs.text.Bytes.{slash, space, is_quote}
use Rattle.ud_model.specs.aids.LexStates.{LexState, in_text, at_slash, in_block, at_star, in_line, in_literal, at_backslash, next_state, opens_comment, masked_byte, stays_white, blank_last}
use Rattle.ud_model.proofs.text.LexStateLemmas.{blank_last-last}
use Rattle.ud_model.proofs.text.ScanLaws.{place_after, white_after, masked_after}

-- The state after some bytes and further ones.
pub place_after-append : (w : LexState) (a b : List ℕ) → place_after w (a ++ b) ≡ place_after (place_after w a) b
place_after-append w [] b = refl
place_after-append w (x ∷ a) b = place_after-append (next_state w x) a b

-- The masked text with some bytes and further ones.
pub masked_after-append : (w : LexState) (m a b : List ℕ) → masked_after w m (a ++ b) ≡ masked_after (place_after w a) (masked_after w m a) b
masked_after-append w m [] b = refl
masked_after-append w m (x ∷ a) b = masked_after-append (next_state w x) ((if opens_comment w x then blank_last m else m) ++ masked_byte w x ∷ []) a b

-- The last logical line is white with some bytes and further ones.
pub white_after-append : (w : LexState) (white : Bool) (a b : List ℕ) → white_after w white (a ++ b) ≡ white_after (place_after w a) (white_after w white a) b
white_after-append w white [] b = refl
white_after-append w white (x ∷ a) b = white_after-append (next_state w x) (stays_white w white x) a b

-- The last byte, shown as a space if a comment begins with it.
abbrev blanked : Bool → ℕ → ℕ
blanked o c = if o then space else c

-- In the masked text only the last byte may still change.
pub masked_front : (bytes : List ℕ) (w : LexState) (m : List ℕ) (c : ℕ) → masked_after w (m ++ c ∷ []) bytes ≡ m ++ masked_after w (c ∷ []) bytes
masked_front [] w m c = refl
masked_front (b ∷ bytes) w m c = grind (
  arith,
  append_assoc,
  blank_last-last,
  masked_front bytes (next_state w b) (m ++ blanked (opens_comment w b) c ∷ []) (masked_byte w b),
  masked_front bytes (next_state w b) (blanked (opens_comment w b) c ∷ []) (masked_byte w b),
)

-- The byte stays, or becomes a space.
pub first_shown : (bytes : List ℕ) (w : LexState) (c : ℕ) → (rest : List ℕ) × ((masked_after w (c ∷ []) bytes ≡ c ∷ rest) ⊎ (masked_after w (c ∷ []) bytes ≡ space ∷ rest))
first_shown [] w c = ([], inl refl)
first_shown (b ∷ bytes) w c = (masked_after (next_state w b) (masked_byte w b ∷ []) bytes, by_open (opens_comment w b) refl)
  where
    by_open : (o : Bool) → opens_comment w b ≡ o → (masked_after w (c ∷ []) (b ∷ bytes) ≡ c ∷ masked_after (next_state w b) (masked_byte w b ∷ []) bytes)
        ⊎ (masked_after w (c ∷ []) (b ∷ bytes) ≡ space ∷ masked_after (next_state w b) (masked_byte w b ∷ []) bytes)
    by_open o e = grind (arith, masked_front)

-- Between lexemes nothing in the masked text changes any more.
pub text_front : (bytes m : List ℕ) → masked_after in_text m bytes ≡ m ++ masked_after in_text [] bytes
text_front [] m = sym (append-nil m)
text_front (b ∷ bytes) m = masked_front bytes (next_state in_text b) m (masked_byte in_text b)

-- Some byte is a quote.
abbrev pub has_quote : List ℕ → Bool
has_quote [] = false
has_quote (b ∷ bs) = is_quote b || has_quote bs

-- The last byte is a slash.
abbrev pub ends_in_slash : List ℕ → Bool
ends_in_slash [] = false
ends_in_slash (b ∷ []) = b == slash
ends_in_slash (b ∷ c ∷ bs) = ends_in_slash (c ∷ bs)

quote-append : (m n : List ℕ) → has_quote (m ++ n) ≡ (has_quote m || has_quote n)
quote-append [] n = refl
quote-append (b ∷ m) n = ap (λ (t : Bool). is_quote b || t) (quote-append m n) ∙ sym (or_assoc (is_quote b) (has_quote m) (has_quote n))

slash-last : (m : List ℕ) (b : ℕ) → ends_in_slash (m ++ b ∷ []) ≡ (b == slash)
slash-last (c ∷ d ∷ m) b = slash-last (d ∷ m) b
slash-last _ _ = refl

-- If a literal is open, its quote is shown.
abbrev pub Quoted : LexState → List ℕ → Type 0
Quoted (in_literal q) m = has_quote m ≡ true
Quoted (at_backslash q) m = has_quote m ≡ true
Quoted _ _ = Unit {0}

-- If a literal is open, its quote is shown; and if a text ends in a slash, the slash is.
abbrev pub Shown : LexState → List ℕ → Type 0
Shown at_slash m = ends_in_slash m ≡ true
Shown (in_literal q) m = has_quote m ≡ true
Shown (at_backslash q) m = has_quote m ≡ true
Shown _ _ = Unit {0}

shown_step : (w : LexState) (m : List ℕ) (b : ℕ) → Quoted w m → Shown (next_state w b) ((if opens_comment w b then blank_last m else m) ++ masked_byte w b ∷ [])
shown_step in_text m b h = grind (arith, slash-last, quote-append, or-true)
shown_step at_slash m b h = grind (arith, quote-append, or-true)
shown_step in_block m b h = grind arith
shown_step at_star m b h = grind arith
shown_step in_line m b h = grind arith
shown_step (in_literal q) m b h = grind (arith, quote-append)
shown_step (at_backslash q) m b h = grind (arith, quote-append)

-- After a byte at least, an open literal's quote or a slash is shown.
pub shown_all : (b : ℕ) (bytes : List ℕ) (w : LexState) (m : List ℕ) → Quoted w m → Shown (place_after w (b ∷ bytes)) (masked_after w m (b ∷ bytes))
shown_all b [] w m h = shown_step w m b h
shown_all b (c ∷ bytes) w m h =
    let n : List ℕ = (if opens_comment w b then blank_last m else m) ++ masked_byte w b ∷ [] in
    shown_all c bytes (next_state w b) n (grind (arith, shown_step w m b h))
