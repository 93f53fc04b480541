-- Plain text: runs of bytes without a significant one, and the beginnings of lines.
use Rattle.std.proofs.Common.{◌≡◌, ℕ, zero, suc, ◌+◌, ◌<◌, ◌==◌, List, [], ◌∷◌, ◌++◌, length, take, drop, get_or, Bool, false, not, cond, refl, sym, ◌∙◌, ap, subst, arith}
use Rattle.std.specs.List.{position_or_len}
use Rattle.std.proofs.lemmas.Bool.{eqb-true}
use Rattle.std.proofs.lemmas.List.{take_more, take_all}
use Rattle.memchr.specs.Find.{Nowhere, NoneAfter, Passes, is_byte}
use Rattle.ud_model.specs.text.Bytes.{is_quote, slash, number_sign, newline, backslash}
use Rattle.ud_model.specs.text.Lines.{NoNewline, split_lines, SplitLines}
use Rattle.ud_model.specs.aids.LexStates.{LexState, in_text, stays_white}
use Rattle.ud_model.proofs.text.LinesLemmas.{split_lines-append-line}
use Rattle.ud_text.specs.bulk.BulkScanning.{AreWholeLines}
use Rattle.ud_text.specs.bulk.BulkStates.{next_bulk_state, BulkState, code_state, NoNewlineInBlock, bulk_state_after, HasNoStop}
use Rattle.ud_text.proofs.lemmas.lines.NewlineLemmas.{no_newline_front}
use Rattle.ud_text.specs.bulk.BulkLexemes.{after_newline, NoSignificant, at_start, NoComment, LastLineStarts, CodeLexeme, is_significant, IsLineStart}
use Rattle.std.proofs.Math.Bool.{and-false}

no_feed_back : (s : List ℕ) (n : ℕ) → Nowhere (Passes (is_byte newline) s) n (length s) → NoNewline (drop n s)
no_feed_back s zero none = subst NoNewline (take_all (length s) s (omega arith)) (no_newline_front s (length s) none)
no_feed_back [] (suc n) none = tt
no_feed_back (b ∷ bs) (suc n) none = no_feed_back bs n (λ k low high. none (suc k) (omega arith) (omega arith))

-- the last line begins at the start, if no newline is found
pub last_begins-none : (s : List ℕ) → Nowhere (Passes (is_byte newline) s) 0 (length s) → LastLineStarts s 0
last_begins-none s h = record { within = omega arith; begins = at_start; one_line = no_feed_back s 0 h }

-- the last newline that a search finds comes before the last line
pub last_begins-found : (s : List ℕ) (k : ℕ) → NoneAfter (Passes (is_byte newline) s) 0 (length s) k → Passes (is_byte newline) s k → LastLineStarts s (k + 1)
last_begins-found s k h is = record {
  within = (let l : k < length s = h.high in omega arith);
  begins = subst IsLineStart (sym (take_more s k 0 h.high ∙ ap (λ (b : ℕ). take k s ++ b ∷ []) (eqb-true (get_or s k 0) newline is))) (after_newline (take k s));
  one_line = no_feed_back s (k + 1) h.after;
}

-- bytes after which a line begins end with a newline, or are none
pub begins_ends : (bytes : List ℕ) → IsLineStart bytes → AreWholeLines bytes
unfolding split_lines
begins_ends _ at_start = refl
begins_ends _ (after_newline prefix) = ap (λ (q : SplitLines). q.rest) (split_lines-append-line prefix [] tt)

-- the bytes that an insignificant byte isn't
pub not_special : (b : ℕ) → is_significant b ≡ false → ((b == slash) ≡ false) × (is_quote b ≡ false) × ((b == backslash) ≡ false) × ((b == number_sign) ≡ false)
not_special b e = grind (arith, e)

-- plain text leads from outside comments and literals to outside them
pub plain_read : (bytes : List ℕ) (white : Bool) → NoSignificant bytes → CodeLexeme white bytes
plain_read [] white h = record { now_white = white; leads = refl; quiet = tt; no_newline = tt; no_comment = tt }
plain_read (b ∷ bytes) white h = let now : Bool = stays_white in_text white b in
    let more : CodeLexeme now bytes = plain_read bytes now h.1 in
    let there : code_state now ≡ next_bulk_state (code_state white) b = sym (grind (arith, h.0)) in
    record {
      now_white = more.now_white;
      leads = ap (λ (s : BulkState). bulk_state_after s bytes) (sym there) ∙ more.leads;
      quiet = (grind (arith, h.0), subst (λ (s : BulkState). HasNoStop s bytes) there more.quiet);
      no_newline = (and-false (b == newline), subst (λ (s : BulkState). NoNewlineInBlock s bytes) there more.no_newline);
      no_comment = (refl, subst (λ (w : LexState). NoComment w bytes) (ap (λ (s : BulkState). s.state) there) more.no_comment);
    }

-- the bytes before the first significant one have none
pub no_special_before : (bytes : List ℕ) → NoSignificant (take (position_or_len is_significant bytes) bytes)
no_special_before [] = tt
no_special_before (b ∷ bytes) = by_special (is_significant b) (position_or_len is_significant bytes) refl (no_special_before bytes)
  where
    by_special : (t : Bool) (n : ℕ) → is_significant b ≡ t → NoSignificant (take n bytes) → NoSignificant (take (cond (not t) (1 + n) 0) (b ∷ bytes))
    by_special t n h k = grind arith
