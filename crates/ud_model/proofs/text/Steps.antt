-- Steps: the lexemes of a text, a byte at a time.
use Rattle.std.proofs.Common.{◌≡◌, ℕ, suc, ◌==◌, List, [], ◌∷◌, ◌++◌, Bool, true, false, ◌&&◌, if◌then◌else◌, refl, sym, ap, subst, arith}
use Rattle.std.proofs.lemmas.Bool.{eqb-true}
use Rattle.ud_model.specs.text.Bytes.{newline, slash, star, backslash, is_quote, starts_with_byte}
use Rattle.ud_model.specs.text.Lexemes.{LexemeKind, block_comment, line_comment, literal, single, Cell, Extent, comment_size, line_comment_size, literal_size, lexeme_at, lex_from}
use Rattle.ud_model.specs.aids.LexStates.{LexState, in_text, at_slash, in_block, at_star, in_line, in_literal, at_backslash, cells_after, next_state}

abbrev pub cell : LexemeKind → ℕ → Cell
cell kind b = record { byte = b; kind = kind }

-- The cells that a byte settles after a text with this state.
abbrev pub settles : LexState → ℕ → List Cell
settles in_text b = if b == slash then [] else if is_quote b then cell literal b ∷ [] else cell single b ∷ []
settles at_slash b = if b == star then cell block_comment slash ∷ cell block_comment b ∷ []
    else if b == slash then cell line_comment slash ∷ cell line_comment b ∷ []
    else if is_quote b then cell single slash ∷ cell literal b ∷ []
    else cell single slash ∷ cell single b ∷ []
settles in_line b = if b == newline then cell single b ∷ [] else cell line_comment b ∷ []
settles (in_literal quote) b = if b == newline then cell single b ∷ [] else cell literal b ∷ []
settles (at_backslash quote) b = if b == newline then cell single b ∷ [] else cell literal b ∷ []
settles _ b = cell block_comment b ∷ []

-- At the beginning of a lexeme, the one that has ended doesn't count.
pub lex_from-zero : (k l : LexemeKind) (u : List ℕ) → lex_from k 0 u ≡ lex_from l 0 u
unfolding lex_from
lex_from-zero k l [] = refl
lex_from-zero k l (a ∷ u) = refl

-- A newline at which a lexeme begins is a lexeme of its own.
at_feed : (k : LexemeKind) (b : ℕ) (u : List ℕ) → (b == newline) ≡ true → lex_from k 0 (b ∷ u) ≡ cell single b ∷ lex_from single 0 u
unfolding lex_from lexeme_at
at_feed k b u e = subst (λ (n : ℕ). lex_from k 0 (n ∷ u) ≡ cell single n ∷ lex_from single 0 u) (sym (eqb-true b newline e)) refl

block_by : (t : Bool) (b : ℕ) (u : List ℕ) →
    lex_from block_comment (if t && starts_with_byte slash u then 2 else suc (comment_size u)) (b ∷ u)
    ≡ cell block_comment b ∷ cells_after (if t then at_star else in_block) u
unfolding lex_from cells_after
block_by t b u = grind arith

step-in_block : (b : ℕ) (u : List ℕ) → cells_after in_block (b ∷ u) ≡ settles in_block b ++ cells_after (next_state in_block b) u
unfolding cells_after
step-in_block b u = block_by (b == star) b u

star_by : (s t : Bool) (b : ℕ) (u : List ℕ) →
    lex_from block_comment (if s then 1 else if t && starts_with_byte slash u then 2 else suc (comment_size u)) (b ∷ u)
    ≡ cell block_comment b ∷ cells_after (if s then in_text else if t then at_star else in_block) u
unfolding lex_from cells_after
star_by s t b u = grind arith

step-at_star : (b : ℕ) (u : List ℕ) → cells_after at_star (b ∷ u) ≡ settles at_star b ++ cells_after (next_state at_star b) u
unfolding cells_after
step-at_star b u = star_by (b == slash) (b == star) b u

line_by : (t : Bool) (b : ℕ) (u : List ℕ) → (b == newline) ≡ t →
    lex_from line_comment (if t then 0 else suc (line_comment_size u)) (b ∷ u)
    ≡ (if t then cell single b ∷ [] else cell line_comment b ∷ []) ++ cells_after (if t then in_text else in_line) u
unfolding lex_from cells_after
line_by true b u e = at_feed line_comment b u e
line_by false b u e = refl

step-in_line : (b : ℕ) (u : List ℕ) → cells_after in_line (b ∷ u) ≡ settles in_line b ++ cells_after (next_state in_line b) u
unfolding cells_after
step-in_line b u = line_by (b == newline) b u refl

passed_by : (q : ℕ) (t : Bool) (b : ℕ) (u : List ℕ) → (b == newline) ≡ t →
    lex_from literal (if t then 0 else suc (literal_size q false u)) (b ∷ u)
    ≡ (if t then cell single b ∷ [] else cell literal b ∷ []) ++ cells_after (if t then in_text else in_literal q) u
unfolding lex_from cells_after
passed_by q true b u e = at_feed literal b u e
passed_by q false b u e = refl

step-at_backslash : (q b : ℕ) (u : List ℕ) → cells_after (at_backslash q) (b ∷ u) ≡ settles (at_backslash q) b ++ cells_after (next_state (at_backslash q) b) u
unfolding cells_after
step-at_backslash q b u = passed_by q (b == newline) b u refl

literal_by : (q : ℕ) (t c s : Bool) (b : ℕ) (u : List ℕ) → (b == newline) ≡ t →
    lex_from literal (if t then 0 else if c then 1 else suc (literal_size q s u)) (b ∷ u)
    ≡ (if t then cell single b ∷ [] else cell literal b ∷ [])
    ++ cells_after (if t then in_text else if c then in_text else if s then at_backslash q else in_literal q) u
unfolding lex_from cells_after
literal_by q true c s b u e = at_feed literal b u e
literal_by q false true s b u e = ap (λ (cells : List Cell). cell literal b ∷ cells) (lex_from-zero literal single u)
literal_by q false false true b u e = refl
literal_by q false false false b u e = refl

step-in_literal : (q b : ℕ) (u : List ℕ) → cells_after (in_literal q) (b ∷ u) ≡ settles (in_literal q) b ++ cells_after (next_state (in_literal q) b) u
unfolding cells_after
step-in_literal q b u = literal_by q (b == newline) (b == q) (b == backslash) b u refl

-- The cells from a lexeme on.
cells_from : ℕ → Extent → List ℕ → List Cell
cells_from b e u = cell e.kind b ∷ lex_from e.kind e.more u

text_by : (s q : Bool) (b : ℕ) (u : List ℕ) (x y : Extent) → s ≡ false → cells_from b
    (if s && starts_with_byte star u then x
    else if s && starts_with_byte slash u then y
    else if q then record { kind = literal; more = literal_size b false u }
    else record { kind = single; more = 0 }) u
    ≡ (if q then cell literal b ∷ [] else cell single b ∷ []) ++ cells_after (if q then in_literal b else in_text) u
unfolding cells_from cells_after
text_by s q b u x y e = grind arith

-- A byte other than a slash where a lexeme begins.
text_other : (b : ℕ) (u : List ℕ) → (b == slash) ≡ false →
    lex_from single 0 (b ∷ u) ≡ (if is_quote b then cell literal b ∷ [] else cell single b ∷ []) ++ cells_after (if is_quote b then in_literal b else in_text) u
unfolding lex_from lexeme_at cells_from
text_other b u e = text_by (b == slash) (is_quote b) b u _ _ e

step-in_text : (b : ℕ) (u : List ℕ) → cells_after in_text (b ∷ u) ≡ settles in_text b ++ cells_after (next_state in_text b) u
unfolding cells_after
step-in_text b u = grind (arith, text_other)

slash_by : (t s : Bool) (b : ℕ) (u : List ℕ) → (b == slash) ≡ s → cells_from slash
    (if t then record { kind = block_comment; more = suc (comment_size u) }
    else if s then record { kind = line_comment; more = suc (line_comment_size u) }
    else record { kind = single; more = 0 }) (b ∷ u)
    ≡ (if t then cell block_comment slash ∷ cell block_comment b ∷ []
    else if s then cell line_comment slash ∷ cell line_comment b ∷ []
    else if is_quote b then cell single slash ∷ cell literal b ∷ []
    else cell single slash ∷ cell single b ∷ [])
    ++ cells_after (if t then in_block else if s then in_line else if is_quote b then in_literal b else in_text) u
unfolding cells_from lex_from cells_after
slash_by t s b u e = grind (arith, text_other)

step-at_slash : (b : ℕ) (u : List ℕ) → cells_after at_slash (b ∷ u) ≡ settles at_slash b ++ cells_after (next_state at_slash b) u
unfolding cells_after lex_from lexeme_at cells_from
step-at_slash b u = slash_by (b == star) (b == slash) b u refl

-- A byte settles these cells, and the text goes on from the next state.
pub after_step : (w : LexState) (b : ℕ) (u : List ℕ) → cells_after w (b ∷ u) ≡ settles w b ++ cells_after (next_state w b) u
after_step w b u = grind (arith, step-in_text, step-at_slash, step-in_block, step-at_star, step-in_line, step-in_literal, step-at_backslash)
