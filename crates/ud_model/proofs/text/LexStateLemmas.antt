-- States: one more byte takes a text's state to the next one.
use Rattle.std.proofs.Common.{◌≡◌, ℕ, zero, suc, ◌≤◌, ◌==◌, List, [], ◌∷◌, ◌++◌, length, drop, map, Bool, true, ◌&&◌, if◌then◌else◌, refl, sym, ◌∙◌, ap, subst, append_assoc, append-nil, arith, length-append}
use Rattle.std.proofs.Math.Bool.{and-false, and-true}
use Rattle.std.proofs.lemmas.List.{map-append, length-map, drop-append-le}
use Rattle.std.proofs.lemmas.List.Folds.{list_all-append}
use Rattle.ud_model.specs.text.Bytes.{newline, space, is_white}
use Rattle.ud_model.specs.text.Lexemes.{LexemeKind, single, Cell, lexeme_at, lex_from, lex, shown, ends_line, open_line}
use Rattle.ud_model.specs.text.Scanning.{is_blank}
use Rattle.ud_model.specs.aids.LexStates.{LexState, in_text, at_slash, in_block, at_star, in_line, in_literal, at_backslash, cells_after, LexesTo, next_state, opens_comment, masked_byte, stays_white, blank_last, mask, Masks}
use Rattle.ud_model.proofs.text.Steps.{settles, after_step}

-- A text has as many cells as bytes, from any state on.
pub length-lex_from : (k : LexemeKind) (n : ℕ) (u : List ℕ) → length (lex_from k n u) ≡ length u
unfolding lex_from
length-lex_from k n [] = refl
length-lex_from k zero (a ∷ u) = ap (λ (m : ℕ). suc m) (length-lex_from (lexeme_at a u).kind (lexeme_at a u).more u)
length-lex_from k (suc n) (a ∷ u) = ap (λ (m : ℕ). suc m) (length-lex_from k n u)

-- A text has as many cells as bytes.
pub length-lex : (u : List ℕ) → length (lex u) ≡ length u
unfolding lex
length-lex u = length-lex_from single 0 u

-- A text has as many bytes when it is masked.
pub length-mask : (u : List ℕ) → length (mask u) ≡ length u
unfolding mask
length-mask u = length-map (lex u) shown ∙ length-lex u

-- The open line of cells, and further ones.
pub open_line-append : (x xs ys : List Cell) → open_line x (xs ++ ys) ≡ open_line (open_line x xs) ys
open_line-append x [] ys = refl
open_line-append x (c ∷ xs) ys = open_line-append (if ends_line c then [] else x ++ c ∷ []) xs ys

-- Cells are white if the first ones and the others are.
pub is_blank-append : (xs ys : List Cell) → is_blank (xs ++ ys) ≡ (is_blank xs && is_blank ys)
is_blank-append xs ys = list_all-append (λ (c : Cell). is_white (shown c)) xs ys

-- Cells with one more are white if they are, and that one is shown as white space.
pub is_blank_last : (xs : List Cell) (c : Cell) → is_blank (xs ++ c ∷ []) ≡ (is_blank xs && is_white (shown c))
is_blank_last xs c = is_blank-append xs (c ∷ []) ∙ ap (λ (b : Bool). is_blank xs && b) (and-true (is_white (shown c)))

-- The open line after a byte is white as `stays_white` computes it.
pub white_step : (w : LexState) (b : ℕ) (x : List Cell) → is_blank (open_line x (settles w b)) ≡ stays_white w (is_blank x) b
white_step w b x = grind (arith, and-false, is_blank_last)

-- One more byte takes the text to the next state.
pub LexesTo-step : {text : List ℕ} {w : LexState} {white : Bool} (b : ℕ) → LexesTo text w white → LexesTo (text ++ b ∷ []) (next_state w b) (stays_white w white b)
LexesTo-step {text} {w} {white} b r = record {
  settled = r.settled ++ settles w b;
  splits = λ rest.
      ap lex (append_assoc text (b ∷ []) rest) ∙ r.splits (b ∷ rest)
      ∙ ap (λ (cells : List Cell). r.settled ++ cells) (after_step w b rest)
      ∙ sym (append_assoc r.settled (settles w b) (cells_after (next_state w b) rest));
  white_is = cc (r.white_is, white_step w b (open_line [] r.settled), open_line-append [] r.settled (settles w b));
}

-- The empty text ends between lexemes.
pub LexesTo-nil : LexesTo [] in_text true
unfolding lex cells_after
LexesTo-nil = record { settled = []; splits = λ rest. refl; white_is = refl }

-- The masked text is that of its settled cells, and a slash if one may begin a comment.
pub mask_is : (text : List ℕ) (w : LexState) (white : Bool) (r : LexesTo text w white) → mask text ≡ map shown r.settled ++ map shown (cells_after w [])
unfolding mask
mask_is text w white r = grind (arith, append-nil, map-append)

tail-in_text : (b : ℕ) → map shown (settles in_text b ++ cells_after (next_state in_text b) []) ≡ b ∷ []
unfolding cells_after lex_from lexeme_at
tail-in_text b = grind arith

tail-at_slash : (b : ℕ) → map shown (settles at_slash b ++ cells_after (next_state at_slash b) [])
    ≡ (if opens_comment at_slash b then space ∷ masked_byte at_slash b ∷ [] else map shown (cells_after at_slash []) ++ masked_byte at_slash b ∷ [])
unfolding cells_after lex_from lexeme_at
tail-at_slash b = grind arith

tail-in_block : (b : ℕ) → map shown (settles in_block b ++ cells_after (next_state in_block b) []) ≡ space ∷ []
unfolding cells_after lex_from
tail-in_block b = grind arith

tail-at_star : (b : ℕ) → map shown (settles at_star b ++ cells_after (next_state at_star b) []) ≡ space ∷ []
unfolding cells_after lex_from
tail-at_star b = grind arith

tail-in_line : (b : ℕ) → map shown (settles in_line b ++ cells_after (next_state in_line b) []) ≡ (if b == newline then b else space) ∷ []
unfolding cells_after lex_from
tail-in_line b = grind arith

tail-in_literal : (q b : ℕ) → map shown (settles (in_literal q) b ++ cells_after (next_state (in_literal q) b) []) ≡ b ∷ []
unfolding cells_after lex_from
tail-in_literal q b = grind arith

tail-at_backslash : (q b : ℕ) → map shown (settles (at_backslash q) b ++ cells_after (next_state (at_backslash q) b) []) ≡ b ∷ []
unfolding cells_after lex_from
tail-at_backslash q b = grind arith

tail_shown : (w : LexState) (b : ℕ) → map shown (settles w b ++ cells_after (next_state w b) [])
    ≡ (if opens_comment w b then space ∷ masked_byte w b ∷ [] else map shown (cells_after w []) ++ masked_byte w b ∷ [])
unfolding cells_after lex_from
tail_shown in_text b = tail-in_text b
tail_shown at_slash b = tail-at_slash b
tail_shown in_block b = tail-in_block b
tail_shown at_star b = tail-at_star b
tail_shown in_line b = tail-in_line b
tail_shown (in_literal q) b = tail-in_literal q b
tail_shown (at_backslash q) b = tail-at_backslash q b

-- Of bytes with one more, that one is blanked.
pub blank_last-last : (xs : List ℕ) (y : ℕ) → blank_last (xs ++ y ∷ []) ≡ xs ++ space ∷ []
blank_last-last (x ∷ z ∷ xs) y = ap (λ (l : List ℕ). x ∷ l) (blank_last-last (z ∷ xs) y)
blank_last-last _ _ = refl

-- Blanking the last byte keeps the number of bytes.
pub length-blank_last : (xs : List ℕ) → length (blank_last xs) ≡ length xs
length-blank_last (x ∷ y ∷ xs) = ap (λ (n : ℕ). suc n) (length-blank_last (y ∷ xs))
length-blank_last _ = refl

-- The last byte stays the last if bytes before it are dropped.
pub blank_last-drop : (n : ℕ) (xs : List ℕ) → drop n (blank_last xs) ≡ blank_last (drop n xs)
blank_last-drop zero xs = refl
blank_last-drop (suc n) [] = refl
blank_last-drop (suc n) (x ∷ []) = drop_nil n ∙ sym (ap blank_last (drop_nil n))
  where
    drop_nil : (m : ℕ) → ◌≡◌ {A = List ℕ} (drop m []) []
    drop_nil zero = refl
    drop_nil (suc m) = refl
blank_last-drop (suc n) (x ∷ y ∷ xs) = blank_last-drop n (y ∷ xs)

opened : (w : LexState) (b : ℕ) (xs : List ℕ) (y : ℕ) →
    xs ++ (if opens_comment w b then space ∷ y ∷ [] else map shown (cells_after w []) ++ y ∷ [])
    ≡ (if opens_comment w b then blank_last (xs ++ map shown (cells_after w [])) else xs ++ map shown (cells_after w [])) ++ y ∷ []
unfolding cells_after lex_from lexeme_at
opened w b xs y = grind (arith, append_assoc, blank_last-last)

-- In the masked text with one more byte, a slash at the end may become a space.
pub mask_step : (text : List ℕ) (w : LexState) (white : Bool) (b : ℕ) → LexesTo text w white →
    mask (text ++ b ∷ []) ≡ (if opens_comment w b then blank_last (mask text) else mask text) ++ masked_byte w b ∷ []
unfolding LexesTo-step
mask_step text w white b r =
    mask_is (text ++ b ∷ []) (next_state w b) (stays_white w white b) (LexesTo-step b r)
    ∙ ap (λ (l : List ℕ). l ++ map shown (cells_after (next_state w b) [])) (map-append shown r.settled (settles w b))
    ∙ append_assoc (map shown r.settled) (map shown (settles w b)) (map shown (cells_after (next_state w b) []))
    ∙ ap (λ (l : List ℕ). map shown r.settled ++ l) (sym (map-append shown (settles w b) (cells_after (next_state w b) [])) ∙ tail_shown w b)
    ∙ opened w b (map shown r.settled) (masked_byte w b)
    ∙ ap (λ (l : List ℕ). (if opens_comment w b then blank_last l else l) ++ masked_byte w b ∷ []) (sym (mask_is text w white r))

-- The masked text after its first `n` bytes, with one more byte.
pub Masks-step : {n : ℕ} {text : List ℕ} {w : LexState} {white : Bool} {masked : List ℕ} (b : ℕ) → Masks n text w white masked →
    Masks n (text ++ b ∷ []) (next_state w b) (stays_white w white b) ((if opens_comment w b then blank_last masked else masked) ++ masked_byte w b ∷ [])
Masks-step {n} {text} {w} {white} {masked} b m = record {
  reads = LexesTo-step b m.reads;
  within = let h : n ≤ length text = m.within in omega (arith, length-append text (b ∷ []));
  masked_is = ap (λ (l : List ℕ). (if opens_comment w b then blank_last l else l) ++ masked_byte w b ∷ []) m.masked_is
      ∙ sym (grind (arith, drop-append-le, length-blank_last, blank_last-drop, (subst (λ (k : ℕ). n ≤ k) (sym (length-mask text)) m.within)))
      ∙ ap (λ (l : List ℕ). drop n l) (sym (mask_step text w white b m.reads));
}
