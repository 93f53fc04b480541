-- Lexemes: where a slash, a backslash, a `#`, a literal and a line comment lead.
use Rattle.std.proofs.Common.{◌≡◌, ℕ, ◌==◌, List, [], ◌∷◌, ◌++◌, Bool, true, false, ◌&&◌, ◌||◌, ◌⊎◌, refl, sym, ◌∙◌, ap, subst, ne_eqb, suc, zero, length, get_or, arith}
use Rattle.std.proofs.lemmas.Bool.{eqb-true}
use Rattle.ud_model.specs.text.Bytes.{is_quote, slash, number_sign, newline, carriage_return, star, backslash}
use Rattle.ud_model.specs.aids.LexStates.{LexState, in_text, in_line, in_literal, at_backslash}
use Rattle.ud_text.specs.bulk.BulkStates.{next_bulk_state, BulkState, code_state, stops_bulk, NoNewlineInBlock, bulk_state_after, spliced_after, is_other_word, HasNoStop}
use Rattle.ud_text.proofs.lemmas.bulk.QuietLemmas.{bulk_state_after-append, HasNoStop-append, NoNewlineInBlock-append}
use Rattle.ud_text.proofs.lemmas.bulk.BulkPlainLemmas.{plain_read}
use Rattle.ud_model.specs.text.Lines.{NoNewline}
use Rattle.ud_text.specs.bulk.BulkLexemes.{NoSignificant, LineLexeme, NoComment, CodeLexeme, is_significant, may_splice}
use Rattle.std.proofs.Math.Bool.{and-false}

-- two runs without a comment, one after the other, have none
pub NoComment-append : (s : BulkState) (p q : List ℕ) → NoComment s.state p → NoComment (bulk_state_after s p).state q → NoComment s.state (p ++ q)
NoComment-append s [] q h k = k
NoComment-append s (b ∷ p) q h k = (h.0, NoComment-append (next_bulk_state s b) p q h.1 k)

-- `LiteralFront white quote bytes`: the bytes lead from outside comments and literals into a
-- literal with this quote
pub record LiteralFront (white : Bool) (quote : ℕ) (bytes : List ℕ) : Type 0 where
  -- of no weight: no newline follows before the quote that closes the literal
  pub spliced : Bool
  pub leads : bulk_state_after (code_state white) bytes ≡ record { state = in_literal quote; white = false; spliced = spliced }
  pub quiet : HasNoStop (code_state white) bytes
  pub no_newline : NoNewlineInBlock (code_state white) bytes
  pub no_comment : NoComment in_text bytes

-- a slash that begins no comment, and the byte after it
pub slash_read : (x : ℕ) (white : Bool) → is_significant x ≡ false → (x == star) ≡ false → CodeLexeme white (slash ∷ x ∷ [])
slash_read x white e f = grind (arith, and-false (x == newline))

-- a `#` that belongs to no directive, and the plain text after it
pub sign_read : (bytes : List ℕ) (white : Bool) → NoSignificant bytes → (is_other_word bytes ≡ true) ⊎ (white ≡ false) → CodeLexeme white (number_sign ∷ bytes)
sign_read bytes white h why = grind (arith, plain_read bytes (white && false) h)

stops_white : (p : LexState) (c : Bool) (b : ℕ) (rest : List ℕ) → (b == newline) ≡ false → stops_bulk (record { state = p; white = false; spliced = c }) b rest ≡ false
stops_white p c b rest h = grind arith

-- one more byte of a literal
pub literal_byte : (white : Bool) (q : ℕ) (bytes : List ℕ) (b : ℕ) → LiteralFront white q bytes → (b == newline) ≡ false → (b == q) ≡ false → (b == backslash) ≡ false →
    LiteralFront white q (bytes ++ b ∷ [])
literal_byte white q bytes b r e f g =
    let here : BulkState = record { state = in_literal q; white = false; spliced = r.spliced } in
    record {
      spliced = spliced_after (in_literal q) r.spliced b;
      leads = bulk_state_after-append (code_state white) bytes (b ∷ []) ∙ ap (λ (s : BulkState). bulk_state_after s (b ∷ [])) r.leads ∙ rw (e, f, g) refl;
      quiet = HasNoStop-append (code_state white) bytes (b ∷ []) r.quiet (subst (λ (s : BulkState). HasNoStop s (b ∷ [])) (sym r.leads) (stops_white (in_literal q) r.spliced b [] e, tt));
      no_newline = NoNewlineInBlock-append (code_state white) bytes (b ∷ []) r.no_newline (subst (λ (s : BulkState). NoNewlineInBlock s (b ∷ [])) (sym r.leads) (and-false (b == newline), tt));
      no_comment = NoComment-append (code_state white) bytes (b ∷ []) r.no_comment (subst (λ (s : BulkState). NoComment s.state (b ∷ [])) (sym r.leads) (refl, tt));
    }

-- a backslash of a literal, and the byte that it escapes
pub literal_pair : (white : Bool) (q : ℕ) (bytes : List ℕ) (b : ℕ) → LiteralFront white q bytes → is_quote q ≡ true → (b == newline) ≡ false →
    LiteralFront white q (bytes ++ backslash ∷ b ∷ [])
literal_pair white q bytes b r k e =
    let here : BulkState = record { state = in_literal q; white = false; spliced = r.spliced } in
    record {
      spliced = spliced_after (at_backslash q) true b;
      leads = grind (arith, bulk_state_after-append);
      quiet = HasNoStop-append (code_state white) bytes (backslash ∷ b ∷ []) r.quiet
          (subst (λ (s : BulkState). HasNoStop s (backslash ∷ b ∷ [])) (sym r.leads)
          (refl, subst (λ (s : BulkState). HasNoStop s (b ∷ [])) (sym skips) (stops_white (at_backslash q) true b [] e, tt)));
      no_newline = NoNewlineInBlock-append (code_state white) bytes (backslash ∷ b ∷ []) r.no_newline
          (subst (λ (s : BulkState). NoNewlineInBlock s (backslash ∷ b ∷ [])) (sym r.leads)
          (refl, subst (λ (s : BulkState). NoNewlineInBlock s (b ∷ [])) (sym skips) (and-false (b == newline), tt)));
      no_comment = NoComment-append (code_state white) bytes (backslash ∷ b ∷ []) r.no_comment
          (subst (λ (s : BulkState). NoComment s.state (backslash ∷ b ∷ [])) (sym r.leads)
          (refl, subst (λ (s : BulkState). NoComment s.state (b ∷ [])) (sym skips) (refl, tt)));
    }
  where
    skips : next_bulk_state (record { state = in_literal q; white = false; spliced = r.spliced }) backslash ≡ record { state = at_backslash q; white = false; spliced = true }
    skips = grind arith

-- the quote that closes a literal
pub literal_closed : (white : Bool) (q : ℕ) (bytes : List ℕ) → LiteralFront white q bytes → is_quote q ≡ true → CodeLexeme white (bytes ++ q ∷ [])
literal_closed white q bytes r k = by_quote (q == 34) (q == 39) refl refl k
  where
    closed : (n : ℕ) → q ≡ n → (n == newline) ≡ false → (n == n) ≡ true → (n == backslash) ≡ false → (n == carriage_return) ≡ false → CodeLexeme white (bytes ++ q ∷ [])
    closed n e f i g h =
        subst (λ (m : ℕ). LiteralFront white m bytes → CodeLexeme white (bytes ++ m ∷ [])) (sym e)
        (λ s. record {
          now_white = false;
          leads = bulk_state_after-append (code_state white) bytes (n ∷ []) ∙ ap (λ (s : BulkState). bulk_state_after s (n ∷ [])) s.leads ∙ rw (f, i, g, h) refl;
          quiet = HasNoStop-append (code_state white) bytes (n ∷ []) s.quiet (subst (λ (s : BulkState). HasNoStop s (n ∷ [])) (sym s.leads) (stops_white (in_literal n) s.spliced n [] f, tt));
          no_newline = NoNewlineInBlock-append (code_state white) bytes (n ∷ []) s.no_newline (subst (λ (s : BulkState). NoNewlineInBlock s (n ∷ [])) (sym s.leads) (and-false (n == newline), tt));
          no_comment = NoComment-append (code_state white) bytes (n ∷ []) s.no_comment (subst (λ (s : BulkState). NoComment s.state (n ∷ [])) (sym s.leads) (refl, tt));
        }) r

    by_quote : (t u : Bool) → (q == 34) ≡ t → (q == 39) ≡ u → (t || u) ≡ true → CodeLexeme white (bytes ++ q ∷ [])
    by_quote t u h k l = grind (arith, closed, eqb-true)

-- after a byte that may begin no splice, a newline isn't spliced
pub literal_unspliced : (white : Bool) (q : ℕ) (bytes : List ℕ) (b : ℕ) (r : LiteralFront white q (bytes ++ b ∷ [])) → (b == backslash) ≡ false → (b == carriage_return) ≡ false → r.spliced ≡ false
literal_unspliced white q bytes b r h k = grind (arith, bulk_state_after-append)

-- the newline that ends a literal
pub literal_line : (white : Bool) (q : ℕ) (bytes : List ℕ) (r : LiteralFront white q bytes) → r.spliced ≡ false → CodeLexeme white (bytes ++ newline ∷ [])
literal_line white q bytes r e = record {
  now_white = true;
  leads = bulk_state_after-append (code_state white) bytes (newline ∷ []) ∙ ap (λ (s : BulkState). bulk_state_after s (newline ∷ [])) r.leads;
  quiet = HasNoStop-append (code_state white) bytes (newline ∷ []) r.quiet (subst (λ (s : BulkState). HasNoStop s (newline ∷ [])) (sym r.leads) (e, tt));
  no_newline = NoNewlineInBlock-append (code_state white) bytes (newline ∷ []) r.no_newline (subst (λ (s : BulkState). NoNewlineInBlock s (newline ∷ [])) (sym r.leads) (refl, tt));
  no_comment = NoComment-append (code_state white) bytes (newline ∷ []) r.no_comment (subst (λ (s : BulkState). NoComment s.state (newline ∷ [])) (sym r.leads) (refl, tt));
}

-- `line_comment white spliced`: a state in a line comment
abbrev pub line_comment : Bool → Bool → BulkState
line_comment white spliced = record { state = in_line; white = white; spliced = spliced }

-- `spliced_by spliced bytes`: a newline after these bytes would be spliced, outside block comments
unfoldable pub spliced_by : Bool → List ℕ → Bool
spliced_by spliced [] = spliced
spliced_by spliced (b ∷ bytes) = spliced_by (spliced_after in_line spliced b) bytes

pub last_clear : (c : Bool) (bytes : List ℕ) (n : ℕ) → length bytes ≡ suc n →
    (get_or bytes n 0 == backslash) ≡ false → (get_or bytes n 0 == carriage_return) ≡ false →
    spliced_by c bytes ≡ false
unfolding spliced_by
last_clear c [] n e f g = absurd (omega arith)
last_clear c (a ∷ []) zero e f g = rw (f, g) refl
last_clear c (a ∷ []) (suc n) e f g = absurd (omega arith)
last_clear c (a ∷ b ∷ bytes) zero e f g = absurd (omega arith)
last_clear c (a ∷ b ∷ bytes) (suc n) e f g = last_clear (spliced_after in_line c a) (b ∷ bytes) n (omega arith) f g

last_return : (c : Bool) (bytes : List ℕ) (n : ℕ) → length bytes ≡ suc (suc n) → (get_or bytes n 0 == backslash) ≡ false → (get_or bytes n 0 == carriage_return) ≡ false →
    (get_or bytes (suc n) 0 == backslash) ≡ false → spliced_by c bytes ≡ false
unfolding spliced_by
last_return c [] n e f g h = absurd (omega arith)
last_return c (a ∷ []) n e f g h = absurd (omega arith)
last_return c (a ∷ b ∷ []) zero e f g h = grind arith
last_return c (a ∷ b ∷ []) (suc n) e f g h = absurd (omega arith)
last_return c (a ∷ b ∷ d ∷ bytes) zero e f g h = absurd (omega arith)
last_return c (a ∷ b ∷ d ∷ bytes) (suc n) e f g h = last_return (spliced_after in_line c a) (b ∷ d ∷ bytes) n (omega arith) f g h

-- no splice ends after bytes whose last two allow none
pub unspliced : (bytes : List ℕ) (n : ℕ) → length bytes ≡ suc (suc n) → may_splice (get_or bytes n 0) (get_or bytes (suc n) 0) ≡ false → spliced_by false bytes ≡ false
unspliced bytes n h k = grind (arith, last_clear, last_return)

line_on : (bytes : List ℕ) (white c : Bool) → NoNewline bytes →
    (bulk_state_after (line_comment white c) bytes ≡ line_comment white (spliced_by c bytes)) × HasNoStop (line_comment white c) bytes × NoNewlineInBlock (line_comment white c) bytes
unfolding spliced_by
line_on [] white c h = (refl, tt, tt)
line_on (b ∷ bytes) white c h = grind (arith, ne_eqb, and-false, line_on bytes white (spliced_after in_line c b) h.1)

-- a line comment with its newline
pub line_comment_read : (bytes : List ℕ) (white : Bool) → NoNewline bytes → spliced_by false (slash ∷ slash ∷ bytes) ≡ false →
    LineLexeme white (slash ∷ slash ∷ (bytes ++ newline ∷ []))
unfolding spliced_by
line_comment_read bytes white h e = grind (arith, line_on, bulk_state_after-append, HasNoStop-append, NoNewlineInBlock-append)
