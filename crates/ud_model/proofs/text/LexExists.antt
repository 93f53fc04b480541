-- Lexemes: each text has some.
use Rattle.std.proofs.Common.{◌≡◌, ◌≢◌, ℕ, zero, suc, ◌≤◌, ◌==◌, List, [], ◌∷◌, ◌++◌, length, Bool, true, false, ◌&&◌, ◌||◌, ◌⊎◌, inl, inr, refl, sym, ◌∙◌, ap, ap₂, subst, append_assoc, append-nil, arith, length-append}
use Rattle.std.proofs.lemmas.Bool.{eqb-true, cases_eq, and_parts}
use Rattle.ud_model.specs.text.Bytes.{slash, star, backslash, is_quote, starts_with_byte}
use Rattle.ud_model.specs.text.Lines.{NoNewline}
use Rattle.ud_model.specs.text.Lexemes.{LexemeKind, block_comment, line_comment, literal, single, Lexeme, NoClose, IsLineEnd, IsLiteralBody, nothing, plain, passed, IsLexeme, closed_comment, open_comment, to_line_end, closed_literal, open_literal, open_at_backslash, single_byte, AreLexemes}

-- A text that begins with this byte is the byte and the rest.
begins_is : (b : ℕ) (u : List ℕ) → starts_with_byte b u ≡ true → (rest : List ℕ) × (u ≡ b ∷ rest)
begins_is b u e = grind arith

-- Up to and including the first `*/`, or to the end.
data CommentEnd (u : List ℕ) : Type 0 where
  closes : (inside rest : List ℕ) → u ≡ inside ++ star ∷ slash ∷ rest → NoClose (inside ++ star ∷ []) → CommentEnd u
  runs_on : NoClose u → CommentEnd u

begins_front : (i rest : List ℕ) → starts_with_byte slash (i ++ star ∷ slash ∷ rest) ≡ starts_with_byte slash (i ++ star ∷ [])
begins_front [] rest = refl
begins_front (x ∷ i) rest = refl

comment_end : (u : List ℕ) → CommentEnd u
comment_end [] = runs_on tt
comment_end (a ∷ u) = by_close ((a == star) && starts_with_byte slash u) refl (comment_end u)
  where
    by_close : (t : Bool) → ((a == star) && starts_with_byte slash u) ≡ t → CommentEnd u → CommentEnd (a ∷ u)
    by_close true e later =
        let p : ((a == star) ≡ true) × (starts_with_byte slash u ≡ true) = and_parts (a == star) (starts_with_byte slash u) e in
        let b : (rest : List ℕ) × (u ≡ slash ∷ rest) = begins_is slash u p.1 in
        closes [] b.0 (ap₂ (λ (n : ℕ) (l : List ℕ). n ∷ l) (eqb-true a star p.0) b.1) (refl, tt)
    by_close false e (runs_on n) = runs_on (e, n)
    by_close false e (closes inside rest is n) =
        closes (a ∷ inside) rest (ap (λ (l : List ℕ). a ∷ l) is)
        (ap (λ (t : Bool). (a == star) && t) (sym (begins_front inside rest) ∙ sym (ap (starts_with_byte slash) is)) ∙ e, n)

-- Up to the newline, or to the end.
data LineEnd (u : List ℕ) : Type 0 where
  line_to : (inside rest : List ℕ) → u ≡ inside ++ rest → NoNewline inside → IsLineEnd rest → LineEnd u

line_end : (u : List ℕ) → LineEnd u
line_end [] = line_to [] [] refl tt tt
line_end (a ∷ u) = by_feed (cases_eq a 10) (line_end u)
  where
    by_feed : (a ≡ 10) ⊎ (a ≢ 10) → LineEnd u → LineEnd (a ∷ u)
    by_feed (inl e) later = line_to [] (a ∷ u) refl tt e
    by_feed (inr n) (line_to inside rest is none at_end) = line_to (a ∷ inside) rest (ap (λ (l : List ℕ). a ∷ l) is) (n, none) at_end

-- Up to and including the quote, or up to the newline, or to the end.
data LiteralEnd (q : ℕ) (u : List ℕ) : Type 0 where
  quoted : (inside rest : List ℕ) → IsLiteralBody q inside → u ≡ inside ++ q ∷ rest → LiteralEnd q u
  left_open : (inside rest : List ℕ) → IsLiteralBody q inside → u ≡ inside ++ rest → IsLineEnd rest → LiteralEnd q u
  left_at_backslash : (inside rest : List ℕ) → IsLiteralBody q inside → u ≡ inside ++ backslash ∷ rest → IsLineEnd rest → LiteralEnd q u

longer : (q : ℕ) (prefix u : List ℕ) → ((i : List ℕ) → IsLiteralBody q i → IsLiteralBody q (prefix ++ i)) → LiteralEnd q u → LiteralEnd q (prefix ++ u)
longer q prefix u more (quoted inside rest i is) =
    quoted (prefix ++ inside) rest (more inside i) (ap (λ (l : List ℕ). prefix ++ l) is ∙ sym (append_assoc prefix inside (q ∷ rest)))
longer q prefix u more (left_open inside rest i is at_end) =
    left_open (prefix ++ inside) rest (more inside i) (ap (λ (l : List ℕ). prefix ++ l) is ∙ sym (append_assoc prefix inside rest)) at_end
longer q prefix u more (left_at_backslash inside rest i is at_end) =
    left_at_backslash (prefix ++ inside) rest (more inside i) (ap (λ (l : List ℕ). prefix ++ l) is ∙ sym (append_assoc prefix inside (backslash ∷ rest))) at_end

-- The text with a backslash before it, or without.
abbrev behind : Bool → List ℕ → List ℕ
behind true u = 92 ∷ u
behind false u = u

literal_end : (q : ℕ) (p : Bool) (u : List ℕ) → LiteralEnd q (behind p u)
literal_end q true [] = left_at_backslash [] [] nothing refl tt
literal_end q false [] = left_open [] [] nothing refl tt
literal_end q true (a ∷ u) = by_feed (cases_eq a 10) (literal_end q false u)
  where
    by_feed : (a ≡ 10) ⊎ (a ≢ 10) → LiteralEnd q u → LiteralEnd q (92 ∷ a ∷ u)
    by_feed (inl e) later = left_at_backslash [] (a ∷ u) nothing refl e
    by_feed (inr n) later = longer q (92 ∷ a ∷ []) u (λ i h. passed n h) later
literal_end q false (a ∷ u) = by_byte (cases_eq a 10) (cases_eq a q) (cases_eq a 92) (literal_end q false u) (literal_end q true u)
  where
    by_byte : (a ≡ 10) ⊎ (a ≢ 10) → (a ≡ q) ⊎ (a ≢ q) → (a ≡ 92) ⊎ (a ≢ 92) → LiteralEnd q u → LiteralEnd q (92 ∷ u) → LiteralEnd q (a ∷ u)
    by_byte (inl e) r s later taken = left_open [] (a ∷ u) nothing refl e
    by_byte (inr n) (inl e) s later taken = quoted [] u nothing (ap (λ (x : ℕ). x ∷ u) e)
    by_byte (inr n) (inr m) (inl e) later taken = subst (λ (x : ℕ). LiteralEnd q (x ∷ u)) (sym e) taken
    by_byte (inr n) (inr m) (inr k) later taken = longer q (a ∷ []) u (λ i h. plain n m k h) later

-- The first lexeme of a text.
record First (u : List ℕ) : Type 0 where
  pub kind : LexemeKind
  pub bytes : List ℕ
  pub rest : List ℕ
  pub splits : u ≡ bytes ++ rest
  pub is : IsLexeme bytes rest kind

first_comment : (u : List ℕ) → CommentEnd u → First (slash ∷ star ∷ u)
first_comment u (closes inside rest e n) = record {
  kind = block_comment;
  bytes = slash ∷ star ∷ (inside ++ star ∷ slash ∷ []);
  rest = rest;
  splits = ap (λ (l : List ℕ). slash ∷ star ∷ l) (e ∙ sym (append_assoc inside (star ∷ slash ∷ []) rest));
  is = closed_comment inside refl n;
}
first_comment u (runs_on n) = record {
  kind = block_comment;
  bytes = slash ∷ star ∷ u;
  rest = [];
  splits = ap (λ (l : List ℕ). slash ∷ star ∷ l) (sym (append-nil u));
  is = open_comment u refl n refl;
}

first_line : (u : List ℕ) → LineEnd u → First (slash ∷ slash ∷ u)
first_line u (line_to inside rest e none at_end) = record {
  kind = line_comment;
  bytes = slash ∷ slash ∷ inside;
  rest = rest;
  splits = ap (λ (l : List ℕ). slash ∷ slash ∷ l) e;
  is = to_line_end inside refl none at_end;
}

first_literal : (q : ℕ) (u : List ℕ) → is_quote q ≡ true → LiteralEnd q u → First (q ∷ u)
first_literal q u h (quoted inside rest i e) = record {
  kind = literal;
  bytes = q ∷ (inside ++ q ∷ []);
  rest = rest;
  splits = ap (λ (l : List ℕ). q ∷ l) (e ∙ sym (append_assoc inside (q ∷ []) rest));
  is = closed_literal q inside h refl i;
}
first_literal q u h (left_open inside rest i e at_end) = record {
  kind = literal;
  bytes = q ∷ inside;
  rest = rest;
  splits = ap (λ (l : List ℕ). q ∷ l) e;
  is = open_literal q inside h refl i at_end;
}
first_literal q u h (left_at_backslash inside rest i e at_end) = record {
  kind = literal;
  bytes = q ∷ (inside ++ backslash ∷ []);
  rest = rest;
  splits = ap (λ (l : List ℕ). q ∷ l) (e ∙ sym (append_assoc inside (backslash ∷ []) rest));
  is = open_at_backslash q inside h refl i at_end;
}

first_single : (a : ℕ) (u : List ℕ) → is_quote a ≡ false → ((a == slash) && (starts_with_byte star u || starts_with_byte slash u)) ≡ false → First (a ∷ u)
first_single a u h f = record { kind = single; bytes = a ∷ []; rest = u; splits = refl; is = single_byte a refl h f }

-- A nonempty text has a first lexeme.
first_piece : (a : ℕ) (u : List ℕ) → First (a ∷ u)
first_piece a u = by_quote (is_quote a) refl
  where
    by_next : (t s : Bool) → (a == slash) ≡ true → starts_with_byte star u ≡ t → starts_with_byte slash u ≡ s → is_quote a ≡ false → First (a ∷ u)
    by_next true s e f g h = let b : (rest : List ℕ) × (u ≡ star ∷ rest) = begins_is star u f in
        subst First (ap₂ (λ (n : ℕ) (l : List ℕ). n ∷ l) (sym (eqb-true a slash e)) (sym b.1)) (first_comment b.0 (comment_end b.0))
    by_next false true e f g h =
        let b : (rest : List ℕ) × (u ≡ slash ∷ rest) = begins_is slash u g in
        subst First (ap₂ (λ (n : ℕ) (l : List ℕ). n ∷ l) (sym (eqb-true a slash e)) (sym b.1)) (first_line b.0 (line_end b.0))
    by_next false false e f g h = grind (arith, first_single)

    by_slash : (s : Bool) → (a == slash) ≡ s → is_quote a ≡ false → First (a ∷ u)
    by_slash true e h = by_next (starts_with_byte star u) (starts_with_byte slash u) e refl refl h
    by_slash false e h = first_single a u h (ap (λ (x : Bool). x && (starts_with_byte star u || starts_with_byte slash u)) e)

    by_quote : (q : Bool) → is_quote a ≡ q → First (a ∷ u)
    by_quote true h = first_literal a u h (literal_end a false u)
    by_quote false h = by_slash (a == slash) refl h

less_left : {k : LexemeKind} (text bytes rest : List ℕ) (n : ℕ) → text ≡ bytes ++ rest → IsLexeme bytes rest k → length text ≤ suc n → length rest ≤ n
less_left text h rest n e p g = grind (arith, length-append)

cut_within : (n : ℕ) (text : List ℕ) → length text ≤ n → (pieces : List Lexeme) × AreLexemes pieces text
cut_within n [] h = ([], refl)
cut_within zero (a ∷ text) h = absurd (omega arith)
cut_within (suc n) (a ∷ text) h = let f : First (a ∷ text) = first_piece a text in
    let later = cut_within n f.rest (less_left (a ∷ text) f.bytes f.rest n f.splits f.is h) in
    ((record { kind = f.kind; bytes = f.bytes } ∷ later.0), (f.rest, f.splits, f.is, later.1))

-- Each text has lexemes.
pub cut_exists : (text : List ℕ) → (pieces : List Lexeme) × AreLexemes pieces text
cut_exists text = cut_within (length text) text (omega arith)
