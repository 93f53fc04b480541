-- Lexemes: a text has them in one way, and the computed cells are theirs.
use Rattle.std.proofs.Common.{◌≡◌, ◌≢◌, ℕ, suc, ◌+◌, ◌==◌, List, [], ◌∷◌, ◌++◌, length, take, drop, Bool, true, false, ◌&&◌, ◌||◌, if◌then◌else◌, refl, sym, ◌∙◌, ap, ap₂, subst, append_assoc, append-nil, arith, length-append, ne_eqb, zero-add}
use Rattle.std.proofs.lemmas.Bool.{eq-eqb}
use Rattle.std.proofs.lemmas.List.{take_at, drop_at}
use Rattle.ud_model.specs.text.Bytes.{slash, star, backslash, is_quote, starts_with_byte}
use Rattle.ud_model.specs.text.Lines.{NoNewline}
use Rattle.ud_model.specs.text.Lexemes.{LexemeKind, literal, single, Lexeme, NoClose, IsLineEnd, IsLiteralBody, nothing, plain, passed, IsLexeme, closed_comment, open_comment, to_line_end, closed_literal, open_literal, open_at_backslash, single_byte, AreLexemes, Cell, cells_in, cells_of, comment_size, line_comment_size, literal_size, Extent, lexeme_at, lex_from, lex}
use Rattle.ud_model.proofs.text.Steps.{lex_from-zero}

begins_close : (i rest : List ℕ) → starts_with_byte slash ((i ++ star ∷ slash ∷ []) ++ rest) ≡ starts_with_byte slash (i ++ star ∷ [])
begins_close [] rest = refl
begins_close (x ∷ i) rest = refl

close_size : (inside rest : List ℕ) → NoClose (inside ++ star ∷ []) →
    comment_size ((inside ++ star ∷ slash ∷ []) ++ rest) ≡ length (inside ++ star ∷ slash ∷ [])
close_size [] rest n = refl
close_size (a ∷ inside) rest n = grind (arith, begins_close, close_size inside rest n.1)

open_size : (inside : List ℕ) → NoClose inside → comment_size inside ≡ length inside
open_size [] n = refl
open_size (a ∷ inside) n = grind (arith, open_size inside n.1)

line_inside_size : (inside rest : List ℕ) → NoNewline inside → IsLineEnd rest → line_comment_size (inside ++ rest) ≡ length inside
line_inside_size [] rest n e = grind arith
line_inside_size (a ∷ inside) rest n e = grind (arith, line_inside_size inside rest n.1 e)

literal_end_size : (q : ℕ) (p : Bool) (rest : List ℕ) → IsLineEnd rest → literal_size q p rest ≡ 0
literal_end_size q p rest e = grind arith

-- A byte that is no quote isn't this one.
not_this_quote : (q n : ℕ) → is_quote q ≡ true → is_quote n ≡ false → n ≢ q
not_this_quote q n h none e = let f : is_quote n ≡ true = ap is_quote e ∙ h in cc

not_a_quote : (q n : ℕ) → is_quote q ≡ true → is_quote n ≡ false → (q == n) ≡ false
not_a_quote q n h none = ne_eqb q n (λ e. not_this_quote q n h none (sym e))

inside_size : (q : ℕ) {inside : List ℕ} (rest : List ℕ) → is_quote q ≡ true → IsLiteralBody q inside →
    literal_size q false (inside ++ rest) ≡ length inside + literal_size q false rest
inside_size q rest h nothing = sym (zero-add (literal_size q false rest))
inside_size q rest h (plain {a = a} {rest = inside} no_newline no_quote no_backslash i) =
    grind (arith, inside_size q rest h i)
inside_size q rest h (passed {b = b} {rest = inside} no_newline i) = grind (arith, inside_size q rest h i)

-- A lexeme of this kind with so many bytes after its first.
abbrev pub extent : LexemeKind → ℕ → Extent
extent k n = record { kind = k; more = n }

at_bytes : (k : LexemeKind) (a b : ℕ) (tail tail' rest : List ℕ) → a ∷ tail ≡ b ∷ tail' →
    lexeme_at b (tail' ++ rest) ≡ extent k (length tail') → lexeme_at a (tail ++ rest) ≡ extent k (length tail)
at_bytes k a b tail tail' rest e h = grind arith

piece_literal : (q : ℕ) (rest : List ℕ) → is_quote q ≡ true → lexeme_at q rest ≡ extent literal (literal_size q false rest)
unfolding lexeme_at
piece_literal q rest h = grind arith

piece_single : (b : ℕ) (rest : List ℕ) → is_quote b ≡ false → ((b == slash) && (starts_with_byte star rest || starts_with_byte slash rest)) ≡ false →
    lexeme_at b rest ≡ extent single 0
unfolding lexeme_at
piece_single b rest h f = grind arith

-- A lexeme reaches as far as the computed one.
pub piece_size : {k : LexemeKind} (a : ℕ) (tail rest : List ℕ) → IsLexeme (a ∷ tail) rest k → lexeme_at a (tail ++ rest) ≡ extent k (length tail)
unfolding lexeme_at
piece_size a tail rest (closed_comment inside e n) = grind (arith, extent, close_size)
piece_size a tail rest (open_comment inside e n none) = grind (arith, extent, append-nil, open_size)
piece_size a tail rest (to_line_end inside e n at_end) = grind (arith, extent, line_inside_size)
piece_size a tail rest (closed_literal q inside h e i) =
    at_bytes literal a q tail (inside ++ q ∷ []) rest e
    (piece_literal q ((inside ++ q ∷ []) ++ rest) h
    ∙ ap (λ (k : ℕ). extent literal k)
    (ap (λ (t : List ℕ). literal_size q false t) (append_assoc inside (q ∷ []) rest) ∙ inside_size q (q ∷ rest) h i
    ∙ ap (λ (k : ℕ). length inside + k)
    (ap (λ (t : Bool). if t then 0 else if q == q then 1 else suc (literal_size q (q == backslash) rest)) (not_a_quote q 10 h refl)
    ∙ ap (λ (t : Bool). if t then 1 else suc (literal_size q (q == backslash) rest)) (eq-eqb q q refl))
    ∙ sym (length-append inside (q ∷ []))))
piece_size a tail rest (open_literal q inside h e i at_end) =
    grind (arith, piece_literal, extent, inside_size, literal_end_size)
piece_size a tail rest (open_at_backslash q inside h e i at_end) =
    at_bytes literal a q tail (inside ++ backslash ∷ []) rest e
    (piece_literal q ((inside ++ backslash ∷ []) ++ rest) h
    ∙ ap (λ (k : ℕ). extent literal k)
    (ap (λ (t : List ℕ). literal_size q false t) (append_assoc inside (backslash ∷ []) rest) ∙ inside_size q (backslash ∷ rest) h i
    ∙ ap (λ (k : ℕ). length inside + k)
    (ap (λ (t : Bool). if t then 1 else suc (literal_size q true rest)) (ne_eqb 92 q (not_this_quote q 92 h refl))
    ∙ ap (λ (k : ℕ). suc k) (literal_end_size q true rest at_end))
    ∙ sym (length-append inside (backslash ∷ []))))
piece_size a tail rest (single_byte b e h f) = at_bytes single a b tail [] rest e (piece_single b rest h f)

-- A lexeme has a byte at least.
pub some_bytes : {k : LexemeKind} (rest : List ℕ) → IsLexeme [] rest k → ⊥
some_bytes rest h = grind arith

cut_rest : (k : LexemeKind) (tail rest : List ℕ) → lex_from k (length tail) (tail ++ rest) ≡ cells_in k tail ++ lex_from k 0 rest
unfolding lex_from
cut_rest k [] rest = refl
cut_rest k (a ∷ tail) rest = ap (λ (cells : List Cell). record { byte = a; kind = k } ∷ cells) (cut_rest k tail rest)

-- The cells of a text that begins with a lexeme.
pub cut_piece : (k : LexemeKind) (bytes rest : List ℕ) → IsLexeme bytes rest k → lex (bytes ++ rest) ≡ cells_in k bytes ++ lex rest
unfolding lex lex_from
cut_piece k [] rest p = absurd (some_bytes rest p)
cut_piece k (a ∷ tail) rest p =
    ap (λ (e : Extent). record { byte = a; kind = e.kind } ∷ lex_from e.kind e.more (tail ++ rest)) (piece_size a tail rest p)
    ∙ ap (λ (cells : List Cell). record { byte = a; kind = k } ∷ cells)
    (cut_rest k tail rest ∙ ap (λ (cells : List Cell). cells_in k tail ++ cells) (lex_from-zero k single rest))

-- The cells of the lexemes are the computed ones.
pub cut_cells : (text : List ℕ) (pieces : List Lexeme) → AreLexemes pieces text → cells_of pieces ≡ lex text
unfolding lex lex_from
cut_cells text [] e = sym (ap lex e)
cut_cells text (p ∷ pieces) (rest, e, is, others) = grind (arith, cut_piece, cut_cells rest pieces others)

-- Two texts with parts of the same length are equal part by part.
pub same_front : (s t rest more : List ℕ) → s ++ rest ≡ t ++ more → length s ≡ length t → (s ≡ t) × (rest ≡ more)
same_front s t rest more e n = (
  sym (take_at s rest (length t) n) ∙ ap (λ (l : List ℕ). take (length t) l) e ∙ take_at t more (length t) refl,
  sym (drop_at s rest (length t) n) ∙ ap (λ (l : List ℕ). drop (length t) l) e ∙ drop_at t more (length t) refl,
)

-- A text has one first lexeme at most.
first_same : (k l : LexemeKind) (s t rest more : List ℕ) → IsLexeme s rest k → IsLexeme t more l → s ++ rest ≡ t ++ more → (k ≡ l) × (s ≡ t) × (rest ≡ more)
first_same k l [] t rest more p q e = absurd (some_bytes rest p)
first_same k l (a ∷ s) [] rest more p q e = absurd (some_bytes more q)
first_same k l (a ∷ s) (b ∷ t) rest more p q e = grind (arith, piece_size, same_front)

empty_first : (k : LexemeKind) (bytes behind : List ℕ) → bytes ++ behind ≡ [] → IsLexeme bytes behind k → ⊥
empty_first k bytes behind e p = grind arith

-- A text has lexemes in one way at most.
pub cut_unique : (text : List ℕ) (pieces others : List Lexeme) → AreLexemes pieces text → AreLexemes others text → pieces ≡ others
cut_unique text [] [] e f = refl
cut_unique text [] (q ∷ others) e (more, f, is, rest) = absurd (empty_first q.kind q.bytes more (sym f ∙ e) is)
cut_unique text (p ∷ pieces) [] (more, f, is, rest) e = absurd (empty_first p.kind p.bytes more (sym f ∙ e) is)
cut_unique text (p ∷ pieces) (q ∷ others) (rest, e, is, behind) (more, f, are, beyond) =
    let same = first_same p.kind q.kind p.bytes q.bytes rest more is are (sym e ∙ f) in
    let first : p ≡ q = ap₂ (λ (k : LexemeKind) (b : List ℕ). let x : Lexeme = record { kind = k; bytes = b } in x) same.0 same.1 in
    ap₂ (λ (x : Lexeme) (xs : List Lexeme). x ∷ xs) first (cut_unique rest pieces others behind (subst (λ (t : List ℕ). AreLexemes others t) (sym same.2) beyond))
