-- Lines in which no `#` begins a directive, read in plain mode.
use Rattle.std.proofs.Common.{◌≡◌, ℕ, zero, suc, ◌<◌, ◌+◌, ◌==◌, Bool, true, false, not, ◌&&◌, ◌||◌, if◌then◌else◌, List, [], ◌∷◌, ◌++◌, length, take, drop, get_or, Some, None, refl, sym, ◌∙◌, ap, subst, append_assoc, ne_eqb, arith}
use Rattle.std.specs.List.{concat}
use Rattle.std.proofs.lemmas.List.{take-append-drop}
use Rattle.std.proofs.Math.Seq.{take-add, drop-cons}
use Rattle.memchr.specs.Find.{Nowhere, Passes, is_byte}
use Rattle.ud_model.specs.text.Bytes.{is_white, are_white, is_word_byte, skip_white, leading_word, newline, number_sign}
use Rattle.ud_model.specs.text.Lines.{NoNewline, IsWhole, line_at, numbered_from, whole_lines, ending_of}
use Rattle.ud_model.proofs.text.LinesLemmas.{AreWhole, body-ending, are_whole}
use Rattle.ud_model.specs.text.Scans.{Reading, plain_scan}
use Rattle.ud_model.specs.text.Scanning.{next_reading, readings_after}
use Rattle.ud_model.specs.sections.Directives.{skip_white_and_hash, skip_hash, kind_of}
use Rattle.ud_model.specs.declared.kind.Mode.TheVariants.{Plain}
use Rattle.ud_text.specs.scan.ScannerState.{ScannerState, ScannerRepresents, initial_scanner_state}
use Rattle.ud_text.specs.bulk.BulkScanning.{AreWholeLines, ArePlainText, HaveNoDirective, SkipsText, lines_in_mode}
use Rattle.ud_text.specs.bulk.BulkStates.{is_other_word, starts_with_no_keyword}
use Rattle.ud_text.specs.bulk.BulkLexemes.{NoHash, NoSignificant, LastLineStarts, IsLineStart, at_start, after_newline, IsWhiteAfter, all_white, new_line, black}
use Rattle.ud_text.specs.bulk.PlainText.{is_white_past, is_white_past_all, NoneBeginsDirective}
use Rattle.ud_text.proofs.lemmas.scan.ScannerLemmas.{represents_plain}
use Rattle.ud_text.proofs.lemmas.bulk.BulkPlainLemmas.{begins_ends, not_special}
use Rattle.ud_text.proofs.lemmas.bulk.QuietLemmas.{other-append, other-feed}
use Rattle.ud_text.proofs.lemmas.bulk.QuietLineLemmas.{ended_lines, IsFeed, whole_ending, body_one_line, feed_length}
use Rattle.ud_text.proofs.lemmas.bulk.TextLemmas.{Unsigned, no_sign, other_sign, text_unsigned, IsOther, NoWord, other_word, other_sure, word_front, word_is_plain, white_other, is_no_keyword-first}
use Rattle.ud_text.proofs.lemmas.searching.ByteLemmas.{both}

-- bytes have no `#`, if a search finds none among them
pub no_hash_front : (s : List ℕ) (n : ℕ) → Nowhere (Passes (is_byte 35) s) 0 n → NoHash (take n s)
no_hash_front s zero none = tt
no_hash_front [] (suc n) none = tt
no_hash_front (b ∷ bs) (suc n) none = (
  by_test (b == 35) refl,
  no_hash_front bs n (λ k low high. none (suc k) (omega arith) (omega arith)),
)
  where
    by_test : (t : Bool) → (b == 35) ≡ t → (b == 35) ≡ false
    by_test t h = grind arith

-- none of the bytes without a `#` begins a directive
pub hashless_none : (white : Bool) (bytes : List ℕ) → NoHash bytes → NoneBeginsDirective white bytes
hashless_none white [] h = tt
hashless_none white (b ∷ bytes) h = (ap (λ (t : Bool). t && (white && not (is_other_word bytes))) h.0, hashless_none (is_white_past white b) bytes h.1)

insignificant_none : (white : Bool) (bytes : List ℕ) → NoSignificant bytes → NoneBeginsDirective white bytes
insignificant_none white [] h = tt
insignificant_none white (b ∷ bytes) h = grind (arith, not_special, insignificant_none (is_white_past white b) bytes h.1)

-- two runs, none of whose bytes begins a directive, one after the other
pub none-append : (white : Bool) (p q : List ℕ) → NoneBeginsDirective white p → NoneBeginsDirective (is_white_past_all white p) q → NoneBeginsDirective white (p ++ q)
none-append white [] q h k = k
none-append white (b ∷ p) q h k = grind (arith, other-append, none-append (is_white_past white b) p q h.1 k)

-- a run is cut at a newline: nothing after it counts before it, and a line begins after it
none-feed : (white : Bool) (p q : List ℕ) → NoneBeginsDirective white (p ++ newline ∷ q) → NoneBeginsDirective white (p ++ newline ∷ []) × NoneBeginsDirective true q
none-feed white [] q h = ((refl, tt), h.1)
none-feed white (b ∷ p) q h = grind (arith, other-feed, none-feed (is_white_past white b) p q h.1)

past_append : (white : Bool) (p q : List ℕ) → is_white_past_all white (p ++ q) ≡ is_white_past_all (is_white_past_all white p) q
past_append white [] q = refl
past_append white (b ∷ p) q = past_append (is_white_past white b) p q

white_no_feed : (b : ℕ) → is_white b ≡ true → (b == newline) ≡ false
white_no_feed b h = grind arith

-- a line that isn't white stays so over white space
black_stays : (bytes : List ℕ) → are_white bytes ≡ true → is_white_past_all false bytes ≡ false
black_stays [] w = refl
black_stays (b ∷ bytes) w =
    let parts : (is_white b ≡ true) × (are_white bytes ≡ true) = both (is_white b) (are_white bytes) w in
    ap (λ (t : Bool). is_white_past_all (t || false) bytes) (white_no_feed b parts.0) ∙ black_stays bytes parts.1

-- a line isn't white, as looking back shows
looked_black : (bytes : List ℕ) (begins v : Bool) → IsWhiteAfter bytes begins v → begins ≡ true → v ≡ false → is_white_past_all true bytes ≡ false
looked_black bytes begins _ (all_white w) e f = cc
looked_black bytes begins _ (new_line prefix rest is w) e f = cc
looked_black bytes begins _ (black prefix b rest is w n r) e f = grind (arith, past_append, black_stays)

first_of : (lines : List ℕ) (at n : ℕ) → at < length lines → take (1 + n) (drop at lines) ≡ get_or lines at 0 ∷ take n (drop (at + 1) lines)
first_of lines at n h = grind (arith, drop-cons)

-- a byte that a word follows that is no keyword begins no directive, and nor does that word
pub before_word_none : (white : Bool) (lines : List ℕ) (at n : ℕ) → at < length lines → NoSignificant (take n (drop (at + 1) lines)) →
    is_other_word (take n (drop (at + 1) lines)) ≡ true → NoneBeginsDirective white (take (1 + n) (drop at lines))
before_word_none white lines at n h none other = grind (arith, first_of, insignificant_none)

-- a byte begins no directive, if its line isn't white before it
pub black_none : (lines : List ℕ) (at : ℕ) → at < length lines → IsWhiteAfter (take at lines) true false →
    NoneBeginsDirective (is_white_past_all true (take at lines)) (take 1 (drop at lines))
black_none lines at h k = grind (arith, first_of, looked_black)

-- the bytes before a position, and those that follow it
pub none_more : (lines : List ℕ) (at count : ℕ) → NoneBeginsDirective true (take at lines) → NoneBeginsDirective (is_white_past_all true (take at lines)) (take count (drop at lines)) →
    NoneBeginsDirective true (take (at + count) lines)
none_more lines at count h k = grind (arith, take-add, none-append)

word_other : (b : ℕ) (bytes tail : List ℕ) → starts_with_no_keyword (b ∷ (bytes ++ tail)) ≡ true → NoWord tail → IsOther (b ∷ bytes)
word_other b [] [] e n = cc
word_other b [] (c ∷ tail) e n = let word : is_word_byte b ≡ true = is_no_keyword-first b c e in
    record {
      first = b;
      more = [];
      is = rw (word_is_plain b word).0 refl;
      none = ap kind_of (word_front b [] word) ∙ other_word b c [] [] e (λ f. cc);
      sure = other_sure b c [] [] e (word_is_plain b word).1 (λ f. cc);
    }
word_other b (c ∷ bytes) tail e n = let word : is_word_byte b ≡ true = is_no_keyword-first b c e in
    record {
      first = b;
      more = c ∷ bytes;
      is = rw (word_is_plain b word).0 refl;
      none = ap kind_of (word_front b (c ∷ bytes) word) ∙ other_word b c (leading_word (c ∷ bytes)) (leading_word bytes) e (λ f. word_front c bytes f);
      sure = other_sure b c (c ∷ bytes) bytes e (word_is_plain b word).1 (λ f. refl);
    }

-- a word that is no keyword, without the tail of its line
name_other : (bytes tail : List ℕ) → is_other_word (bytes ++ tail) ≡ true → is_other_word tail ≡ false → NoWord tail → IsOther bytes
name_other [] tail e f n = cc
name_other (b ∷ bytes) tail e f n = by_white (is_white b) refl (λ g. name_other bytes tail g f n)
  where
    by_white : (t : Bool) → is_white b ≡ t → (is_other_word (bytes ++ tail) ≡ true → IsOther bytes) → IsOther (b ∷ bytes)
    by_white true w more = white_other b bytes w (more (sym (rw w refl) ∙ e))
    by_white false w more = word_other b bytes tail (sym (rw w refl) ∙ e) n

-- what a line shows that begins no directive, without its tail
plain_unsigned : (bytes tail : List ℕ) → NoNewline bytes → NoneBeginsDirective true (bytes ++ tail) → is_other_word tail ≡ false → NoWord tail →
    Unsigned (skip_white_and_hash bytes)
plain_unsigned [] tail o h f n = no_sign
plain_unsigned (b ∷ bytes) tail o h f n = by_white (is_white b) refl (λ k. plain_unsigned bytes tail o.1 k f n)
  where
    is_other : (a : Bool) → not a ≡ false → a ≡ true
    is_other a h = grind arith

    by_sign : (t : Bool) → (b == number_sign) ≡ t → Unsigned (if t then Some bytes else None)
    by_sign false e = no_sign
    by_sign true e = grind (arith, other_sign, name_other, is_other)

    by_white : (t : Bool) → is_white b ≡ t → (NoneBeginsDirective true (bytes ++ tail) → Unsigned (skip_white_and_hash bytes)) →
        Unsigned (skip_hash (if t then skip_white bytes else b ∷ bytes))
    by_white true w more = grind (arith, ne_eqb)
    by_white false w more = by_sign (b == number_sign) refl

feed_names : (e : List ℕ) → IsFeed e → (is_other_word e ≡ false) × NoWord e
feed_names e h = grind arith

-- a whole line that begins no directive shows no `#` of one
line_unsigned : (n : ℕ) (l : List ℕ) → IsWhole l → NoneBeginsDirective true l → Unsigned (skip_white_and_hash (line_at n l).body)
line_unsigned n l whole h = let f : IsFeed (ending_of l) = whole_ending l whole in
    plain_unsigned (line_at n l).body (ending_of l) (body_one_line l (length (ending_of l)) whole (feed_length (ending_of l) f))
    (subst (NoneBeginsDirective true) (sym (body-ending l)) h) (feed_names (ending_of l) f).0 (feed_names (ending_of l) f).1

-- whole lines that begin no directive are text
lines_text : (ls : List (List ℕ)) (n : ℕ) (before : List Reading) → AreWhole ls → NoneBeginsDirective true (concat ls) → HaveNoDirective Plain before (numbered_from n ls)
lines_text [] n before whole h = tt
lines_text (l ∷ ls) n before whole h = let prefix : List ℕ = whole.0.0 in
    let split : l ++ concat ls ≡ prefix ++ newline ∷ concat ls = ap (λ (x : List ℕ). x ++ concat ls) whole.0.2 ∙ append_assoc prefix (newline ∷ []) (concat ls) in
    let parts : NoneBeginsDirective true (prefix ++ newline ∷ []) × NoneBeginsDirective true (concat ls) =
    none-feed true prefix (concat ls) (subst (NoneBeginsDirective true) split h) in (
      text_unsigned (plain_scan (line_at n l)) (line_unsigned n l whole.0 (subst (NoneBeginsDirective true) (sym whole.0.2) parts.0)),
      lines_text ls (suc n) (before ++ next_reading before Plain (line_at n l) ∷ []) whole.1 parts.1,
    )

none_text : (bytes : List ℕ) → AreWholeLines bytes → NoneBeginsDirective true bytes → ArePlainText bytes
none_text bytes h k = grind (arith, lines_text, are_whole, ended_lines)

-- the lines before the last one of bytes that begin no directive are text
pub lines_before : (bytes : List ℕ) (n : ℕ) → NoneBeginsDirective true bytes → LastLineStarts bytes n → ArePlainText (take n bytes)
lines_before bytes n h last = by_begins (take n bytes) last.begins refl
  where
    by_begins : (p : List ℕ) → IsLineStart p → p ≡ take n bytes → ArePlainText p
    by_begins _ at_start e = none_text [] (begins_ends [] at_start) tt
    by_begins _ (after_newline x) e = let split : bytes ≡ x ++ newline ∷ drop n bytes =
        sym (take-append-drop n bytes) ∙ ap (λ (l : List ℕ). l ++ drop n bytes) (sym e) ∙ append_assoc x (newline ∷ []) (drop n bytes) in
        none_text (x ++ newline ∷ []) (begins_ends (x ++ newline ∷ []) (after_newline x)) (none-feed true x (drop n bytes) (subst (NoneBeginsDirective true) split h)).0

-- the initial state is carried over lines in plain mode
plain_carried : (l : List ℕ) (ls : List (List ℕ)) (n : ℕ) (before : List Reading) → ScannerRepresents initial_scanner_state (readings_after before (lines_in_mode Plain n (l ∷ ls)))
plain_carried l [] n before = represents_plain before (line_at n l)
plain_carried l (k ∷ ls) n before = plain_carried k ls (suc n) (before ++ next_reading before Plain (line_at n l) ∷ [])

-- text lines are skipped
pub passes_plain : (old : ScannerState) (bytes : List ℕ) → ArePlainText bytes → 0 < length bytes → SkipsText Plain old initial_scanner_state bytes
passes_plain old bytes p some = record {
  represents = λ n before h. by_lines (whole_lines bytes) (ended_lines bytes p.ends) n before;
  texts = λ n before h. p.texts n before;
}
  where
    by_lines : (ls : List (List ℕ)) → bytes ≡ concat ls → (n : ℕ) (before : List Reading) → ScannerRepresents initial_scanner_state (readings_after before (lines_in_mode Plain n ls))
    by_lines [] e n before = absurd (let z = ap length e in omega (arith, z, some))
    by_lines (l ∷ ls) e n before = plain_carried l ls n before
