-- Looks: looking back over white space shows whether the logical line is white.
use Rattle.std.proofs.Common.{arith, ◌≡◌, ℕ, ◌==◌, List, [], ◌∷◌, ◌++◌, Bool, true, false, ◌&&◌, if◌then◌else◌, ◌⊎◌, inl, inr, refl, sym, ◌∙◌, ap, subst}
use Rattle.ud_model.specs.text.Bytes.{is_quote, is_white, are_white, slash, newline, carriage_return, star, backslash}
use Rattle.ud_model.specs.aids.LexStates.{LexState, in_text, at_slash, in_block, at_star, in_line, in_literal, at_backslash, next_state, stays_white}
use Rattle.ud_text.specs.bulk.BulkStates.{next_bulk_state, BulkState, code_state, bulk_state_after}
use Rattle.ud_text.proofs.lemmas.bulk.QuietLemmas.{bulk_state_after-append}
use Rattle.ud_text.specs.bulk.BulkLexemes.{black, NoComment, all_white, IsWhiteAfter, new_line}

-- `outside w`: the lexer state `w` is outside comments
abbrev pub outside : LexState → Bool
outside in_text = true
outside at_slash = true
outside in_block = false
outside at_star = false
outside in_line = false
outside (in_literal q) = true
outside (at_backslash q) = true

outside_on : (s : BulkState) (p q : List ℕ) → outside s.state ≡ true → NoComment s.state (p ++ q) → (outside (bulk_state_after s p).state ≡ true) × NoComment (bulk_state_after s p).state q
outside_on s [] q e h = (e, h)
outside_on s (b ∷ p) q e h = outside_on (next_bulk_state s b) p q (grind (arith, e, h.0)) h.1

white_parts : (b : ℕ) → is_white b ≡ true → ((b == slash) ≡ false) × (is_quote b ≡ false) × ((b == newline) ≡ false) × ((b == star) ≡ false) × ((b == backslash) ≡ false)
white_parts b h = grind arith

white_tests : (b : ℕ) (bytes : List ℕ) → (is_white b && are_white bytes) ≡ true → (is_white b ≡ true) × (are_white bytes ≡ true)
white_tests b bytes h = grind arith

-- white space leaves a white line white
white_on : (bytes : List ℕ) → are_white bytes ≡ true → bulk_state_after (code_state true) bytes ≡ code_state true
white_on [] e = refl
white_on (b ∷ bytes) e =
    let w : (is_white b ≡ true) × (are_white bytes ≡ true) = white_tests b bytes e in
    let p : ((b == slash) ≡ false) × (is_quote b ≡ false) × ((b == newline) ≡ false) × ((b == star) ≡ false) × ((b == backslash) ≡ false) = white_parts b w.0 in
    ap (λ (s : BulkState). bulk_state_after s bytes) (stays p.0 p.1 p.2 p.4 w.0) ∙ white_on bytes w.1
  where
    by_return : (r : Bool) → ◌≡◌ {A = BulkState} (record { state = in_text; white = true; spliced = if r then false else false }) (code_state true)
    by_return r = grind arith

    stays : (b == slash) ≡ false → is_quote b ≡ false → (b == newline) ≡ false → (b == backslash) ≡ false → is_white b ≡ true → next_bulk_state (code_state true) b ≡ code_state true
    stays e q i t w = rw (e, q, i, t, w) (by_return (b == carriage_return))

pub white_false : (w : LexState) (b : ℕ) → (b == newline) ≡ false → stays_white w false b ≡ false
white_false w b h = grind arith

-- a line that isn't white stays so
black_on : (bytes : List ℕ) (s : BulkState) → s.white ≡ false → are_white bytes ≡ true → (bulk_state_after s bytes).white ≡ false
black_on [] s e h = e
black_on (b ∷ bytes) s e h =
    let w : (is_white b ≡ true) × (are_white bytes ≡ true) = white_tests b bytes h in
    black_on bytes (next_bulk_state s b) (ap (λ (v : Bool). stays_white s.state v b) e ∙ white_false s.state b (white_parts b w.0).2) w.1

-- white space after a slash makes the slash a byte of the line
slash_on : (bytes : List ℕ) (s : BulkState) (u : Bool) → s.state ≡ at_slash → are_white bytes ≡ true → bulk_state_after s bytes ≡ code_state u → u ≡ false
slash_on [] s u p h e = let q : at_slash ≡ in_text = sym p ∙ ap (λ (t : BulkState). t.state) e in cc
slash_on (b ∷ bytes) s u p h e = grind (arith, white_tests, white_parts, black_on)

-- white space leaves a line as it is, white or not
white_stays : (plain : List ℕ) (base : Bool) → are_white plain ≡ true → (bulk_state_after (code_state base) plain).white ≡ base
white_stays plain true w = ap (λ (s : BulkState). s.white) (white_on plain w)
white_stays plain false w = black_on plain (code_state false) refl w

-- looking back finds whether the line is white
pub shows_white : (plain : List ℕ) (base v now : Bool) → NoComment in_text plain → bulk_state_after (code_state base) plain ≡ code_state now →
    IsWhiteAfter plain base v → now ≡ v
shows_white plain base _ now c e (all_white w) = ap (λ (s : BulkState). s.white) (sym e) ∙ white_stays plain base w
shows_white plain base _ now c e (new_line prefix rest is w) =
    let out : (outside (bulk_state_after (code_state base) prefix).state ≡ true) × NoComment (bulk_state_after (code_state base) prefix).state (newline ∷ rest) =
    outside_on (code_state base) prefix (newline ∷ rest) refl (subst (λ (l : List ℕ). NoComment in_text l) is c) in
    ap (λ (s : BulkState). s.white)
    (sym e ∙ ap (λ (l : List ℕ). bulk_state_after (code_state base) l) is ∙ bulk_state_after-append (code_state base) prefix (newline ∷ rest)
    ∙ ap (λ (s : BulkState). bulk_state_after s rest) (grind (arith, out.0)) ∙ white_on rest w)
shows_white plain base _ now c e (black prefix b rest is k i w) =
    let s : BulkState = bulk_state_after (code_state base) prefix in
    let out : (outside (bulk_state_after (code_state base) prefix).state ≡ true) × NoComment (bulk_state_after (code_state base) prefix).state (b ∷ rest) =
    outside_on (code_state base) prefix (b ∷ rest) refl (subst (λ (l : List ℕ). NoComment in_text l) is c) in
    let there : bulk_state_after (next_bulk_state (bulk_state_after (code_state base) prefix) b) rest ≡ code_state now =
    sym (ap (λ (l : List ℕ). bulk_state_after (code_state base) l) is ∙ bulk_state_after-append (code_state base) prefix (b ∷ rest)) ∙ e in
    by_step (bulk_state_after (code_state base) prefix) there (grind (arith, out.0, out.1.0, k, i))
  where
    by_step : (s : BulkState) → bulk_state_after (next_bulk_state s b) rest ≡ code_state now → (stays_white s.state s.white b ≡ false) ⊎ (next_state s.state b ≡ at_slash) → now ≡ false
    by_step s t (inl h) = sym (ap (λ (x : BulkState). x.white) t) ∙ black_on rest (next_bulk_state s b) h w
    by_step s t (inr h) = slash_on rest (next_bulk_state s b) now h w t
