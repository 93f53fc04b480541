-- ReachLemmas: from what the fast path knows at a position to what it knows further on.
use Rattle.std.proofs.Common.{◌≡◌, ℕ, zero, suc, ◌+◌, ◌-◌, ◌<◌, ◌≤◌, ◌==◌, List, [], ◌∷◌, ◌++◌, length, take, drop, get_or, Bool, true, false, ◌&&◌, ◌||◌, inl, inr, refl, sym, ◌∙◌, ap, subst, arith, length-append}
use Rattle.std.specs.List.{position_or_len}
use Rattle.std.proofs.lemmas.Bool.{eqb-true, eqb-false, cases_lt}
use Rattle.std.proofs.lemmas.List.{take_more, take_rest, get_or-drop, length-take-le, take_all}
use Rattle.std.proofs.lemmas.List.Sums.{fails_before_first}
use Rattle.std.proofs.Math.ListN.{length-drop}
use Rattle.ud_model.specs.text.Bytes.{slash, star, backslash, number_sign, newline}
use Rattle.ud_model.specs.text.Lines.{NoNewline}
use Rattle.ud_model.specs.aids.LexStates.{LexState, in_text}
use Rattle.ud_text.specs.bulk.BulkStates.{line_state, BulkState, code_state, block_state, inside_state, is_other_word, Skipped}
use Rattle.ud_text.specs.bulk.BulkLexemes.{CodeLexeme, LineLexeme, IsSplice, IsWhiteAfter, all_white, new_line, black, LastLineStarts, IsLineStart, at_start, after_newline, NoStarPair, NoSignificant, is_significant, is_star_pair}
use Rattle.ud_text.specs.bulk.Progress.{ReadTo, ReadOutside}
use Rattle.ud_text.specs.bulk.Reaching.{Reached}
use Rattle.ud_text.specs.declared.bulk.fast_path.Reach.{Reach}
use Rattle.ud_text.proofs.lemmas.bulk.BulkPlainLemmas.{not_special}
use Rattle.ud_text.proofs.lemmas.bulk.ProgressLemmas.{read_base, read_text, read_on, read_splice, plain_of, passed_of, settled, settled_at, begins-append}
use Rattle.ud_text.proofs.lemmas.bulk.LexemeLemmas.{sign_read}
use Rattle.ud_text.proofs.lemmas.bulk.BlockLemmas.{block_same, block_later, block_opened, block_closed, both_there}
use Rattle.ud_text.proofs.lemmas.bulk.StepLemmas.{start_read, text_step_read, plain_step_read, looked, sign_step_read}

-- Each list of bytes has a last line.
pub last_line_of : (l : List ℕ) → (n : ℕ) × LastLineStarts l n
last_line_of [] = (0, record { within = omega arith; begins = at_start; one_line = tt })
last_line_of (b ∷ l) = by_rest (last_line_of l).0 (last_line_of l).1
  where
    longer : (n : ℕ) (m : List ℕ) → m ≡ take n l → 0 < n → n ≤ length l → IsLineStart m → IsLineStart (b ∷ take n l)
    longer n _ e z k at_start = absurd (let f : 0 ≡ n = ap length e ∙ length-take-le n l k in omega arith)
    longer n _ e z k (after_newline p) = subst (λ (m : List ℕ). IsLineStart (b ∷ m)) e (after_newline (b ∷ p))

    by_feed : (t : Bool) → (b == newline) ≡ t → NoNewline l → (n : ℕ) × LastLineStarts (b ∷ l) n
    by_feed true e h = (1, record { within = omega arith; begins = subst (λ (c : ℕ). IsLineStart (c ∷ [])) (sym (eqb-true b newline e)) (after_newline []); one_line = h })
    by_feed false e h = (0, record { within = omega arith; begins = at_start; one_line = (eqb-false b newline e, h) })

    by_rest : (n : ℕ) → LastLineStarts l n → (n : ℕ) × LastLineStarts (b ∷ l) n
    by_rest zero h = by_feed (b == newline) refl h.one_line
    by_rest (suc n) h = (
      suc (suc n),
      record {
        within = (let k : suc n ≤ length l = h.within in omega (arith, k));
        begins = longer (suc n) (take (suc n) l) refl (omega arith) h.within h.begins;
        one_line = h.one_line;
      },
    )

-- The last line of the bytes up to a position at which a line begins.
line_there : (bytes : List ℕ) (line at : ℕ) → line < at → at ≤ length bytes → get_or bytes (at - 1) 0 ≡ newline → LastLineStarts (take (at - line) (drop line bytes)) (at - line)
line_there bytes line at low high e = let l : List ℕ = drop line bytes in
    let k : ℕ = at - line - 1 in
    let next : at - line - 1 + 1 ≡ at - line = omega arith in
    let there : line + (at - line - 1) ≡ at - 1 = omega arith in
    let long : at - line - 1 < length (drop line bytes) = omega (arith, length-drop line bytes) in
    let all : length (take (at - line) (drop line bytes)) ≡ at - line = length-take-le (at - line) (drop line bytes) (omega (arith, long)) in
    let byte : get_or (drop line bytes) (at - line - 1) 0 ≡ newline = get_or-drop line bytes (at - line - 1) 0 ∙ ap (λ (n : ℕ). get_or bytes n 0) there ∙ e in
    let is : take (at - line) (drop line bytes) ≡ take (at - line - 1) (drop line bytes) ++ newline ∷ [] =
    ap (λ (n : ℕ). take n (drop line bytes)) (sym next) ∙ take_more (drop line bytes) (at - line - 1) 0 long ∙ ap (λ (b : ℕ). take (at - line - 1) (drop line bytes) ++ b ∷ []) byte in
    record {
      within = omega (arith, all);
      begins = subst IsLineStart (sym (take_all (at - line) (take (at - line) (drop line bytes)) (omega (arith, all)))) (subst IsLineStart (sym is) (after_newline (take (at - line - 1) (drop line bytes))));
      one_line = subst NoNewline (sym (none_left (at - line) (take (at - line) (drop line bytes)) (omega (arith, all)))) tt;
    }
  where
    none_left : (n : ℕ) (l : List ℕ) → length l ≤ n → drop n l ≡ []
    none_left zero [] h = refl
    none_left (suc n) [] h = refl
    none_left zero (x ∷ l) h = absurd (omega arith)
    none_left (suc n) (x ∷ l) h = none_left n l (omega arith)

take_past : (p q : List ℕ) (n : ℕ) → take (length p + n) (p ++ q) ≡ p ++ take n q
take_past [] q n = let e : 0 + n ≡ n = omega arith in ap (λ (k : ℕ). take k q) e
take_past (x ∷ p) q n = let e : suc (length p) + n ≡ suc (length p + n) = omega arith in ap (λ (k : ℕ). take k (x ∷ (p ++ q))) e ∙ ap (λ (l : List ℕ). x ∷ l) (take_past p q n)

begins_after : (p : List ℕ) (n : ℕ) (q m : List ℕ) → m ≡ take n q → n ≤ length q → 0 < n → IsLineStart m → IsLineStart (p ++ take n q)
begins_after p n q m h k l o = grind (arith, length-take-le, begins-append)

sign_alone_black : {start : BulkState} {bytes : List ℕ} {line : ℕ} {kept : BulkState} {base : ℕ} {begins : Bool} {at : ℕ} (r : ReadOutside start bytes line kept base begins at) →
    take 1 (drop at bytes) ≡ number_sign ∷ [] → r.now_white ≡ false → ReadOutside start bytes line kept base begins (at + 1)
sign_alone_black {bytes = bytes} {at = at} r first e =
    read_text r 1 (some (drop at bytes) first) (subst (λ (l : List ℕ). CodeLexeme r.now_white l) (sym first) (sign_read [] r.now_white tt (inr e)))
  where
    some : (l : List ℕ) → take 1 l ≡ number_sign ∷ [] → 1 ≤ length l
    some l h = grind arith

-- `moved p at`: the position `at`, with the base of `p`
abbrev pub moved : Reach → ℕ → Reach
moved p at = record {
  base = p.base;
  at_line_start = p.at_line_start;
  begins = p.begins;
  at = at;
  searched = p.searched;
}

-- `at_base base at_line_start begins searched`: a position that is its own base
abbrev pub at_base : ℕ → Bool → Bool → ℕ → Reach
at_base base at_line_start begins searched = record {
  base = base;
  at_line_start = at_line_start;
  begins = begins;
  at = base;
  searched = searched;
}

-- The bytes up to the end of a block comment are read.
pub reach_close : {start : BulkState} {bytes : List ℕ} {line : ℕ} {kept : BulkState} {u : Bool} (at : ℕ) → ReadTo start bytes line kept at (block_state u) →
    (pair : ℕ) → at ≤ pair → NoStarPair (take (pair - at) (drop at bytes)) → take 2 (drop pair bytes) ≡ star ∷ slash ∷ [] → (searched : ℕ) →
    Reached start bytes (at_base (pair + 2) false false searched)
reach_close {start = start} {bytes = bytes} {u = u} at r pair h free closing searched =
    by_line (last_line_of (take (pair - at) (drop at bytes))).0 (last_line_of (take (pair - at) (drop at bytes))).1
  where
    fits : pair - at ≤ length (drop at bytes)
    fits = let some : 2 ≤ length (drop pair bytes) = both_there (drop pair bytes) closing in omega (arith, some, length-drop pair bytes, length-drop at bytes)

    closed : (l : ℕ) (s : BulkState) (b : Bool) → ReadTo start bytes l s (at + (pair - at)) (inside_state b u) → Reached start bytes (at_base (pair + 2) false false searched)
    closed l s b x = record { line = l; kept = s; begins = u; read = block_closed at pair b u h x closing; at_line_start = λ e. cc }

    by_line : (n : ℕ) → LastLineStarts (take (pair - at) (drop at bytes)) n → Reached start bytes (at_base (pair + 2) false false searched)
    by_line zero l = closed _ _ _ (block_same r (pair - at) fits free l.one_line)
    by_line (suc n) l = closed _ _ _ (block_later r (pair - at) fits free (suc n) l (omega arith))

module _ {start : BulkState} {bytes : List ℕ} {p : Reach} (r : Reached start bytes p) where
  -- Bytes without a comment are read.
  pub reach_text : (k : ℕ) → k ≤ length (take (length bytes - p.at) (drop p.at bytes)) →
      ((u : Bool) → CodeLexeme u (take k (take (length bytes - p.at) (drop p.at bytes)))) →
      Reached start bytes (moved p (p.at + k))
  reach_text k h t = record { line = r.line; kept = r.kept; begins = r.begins; read = text_step_read r.read k h t; at_line_start = r.at_line_start }

  -- Plain text is read, up to the next significant byte.
  pub reach_plain : (next : ℕ) → next ≡ p.at + position_or_len is_significant (drop p.at bytes) →
      Reached start bytes (moved p next)
  reach_plain next e = grind (arith, plain_step_read)

  -- A `#` that belongs to no directive is read, with plain bytes after it.
  pub reach_sign : take 1 (drop p.at bytes) ≡ number_sign ∷ [] → (k : ℕ) → k ≤ length (drop (p.at + 1) bytes) → NoSignificant (take k (drop (p.at + 1) bytes)) →
      is_other_word (take k (drop (p.at + 1) bytes)) ≡ true →
      Reached start bytes (moved p (p.at + 1 + k))
  reach_sign first k h none other = grind (arith, sign_step_read)

  -- Such a `#` is read alone.
  pub reach_sign_alone : take 1 (drop p.at bytes) ≡ number_sign ∷ [] → r.read.now_white ≡ false →
      Reached start bytes (moved p (p.at + 1))
  reach_sign_alone first e = record { line = r.line; kept = r.kept; begins = r.begins; read = sign_alone_black r.read first e; at_line_start = r.at_line_start }

  -- A splice is read, on a logical line that isn't white.
  pub reach_splice : r.read.now_white ≡ false → (k : ℕ) → k ≤ length (drop p.at bytes) → IsSplice (take k (drop p.at bytes)) →
      Reached start bytes (at_base (p.at + k) true false p.searched)
  reach_splice e k h s = record {
    line = p.at + k;
    kept = code_state false;
    begins = false;
    read = read_base false (read_splice r.read.so_far (ap (λ (u : Bool). code_state u) e) k h s);
    at_line_start = λ _. (refl, refl);
  }

  -- A line comment is read, with its newline.
  pub reach_comment : (k : ℕ) → 0 < k → k ≤ length (take (length bytes - p.at) (drop p.at bytes)) →
      ((u : Bool) → LineLexeme u (take k (take (length bytes - p.at) (drop p.at bytes)))) →
      get_or (take (length bytes - p.at) (drop p.at bytes)) (k - 1) 0 ≡ newline →
      Reached start bytes (at_base (p.at + k) true true p.searched)
  reach_comment k z h t e = let now : Bool = r.read.now_white in
      let x : LineLexeme now (take k (drop p.at bytes)) = subst (λ (l : List ℕ). LineLexeme r.read.now_white (take k l)) (take_rest bytes p.at) (t now) in
      let fits : k ≤ length (drop p.at bytes) = subst (λ (l : List ℕ). k ≤ length l) (take_rest bytes p.at) h in
      let on : ReadTo start bytes r.line r.kept (p.at + k) (code_state true) = read_on r.read.so_far k (take k (drop p.at bytes)) refl fits x.quiet x.no_newline (code_state true) x.leads in
      let a : r.line ≡ length on.prefix = on.line_is in
      let b : p.at ≡ length r.read.so_far.prefix + length r.read.so_far.mid = r.read.so_far.at_is in
      let c : r.line ≡ length r.read.so_far.prefix = r.read.so_far.line_is in
      let there : p.at + (k - 1) ≡ p.at + k - 1 = omega (arith, z) in
      let byte : get_or bytes (p.at + k - 1) 0 ≡ newline =
      ap (λ (n : ℕ). get_or bytes n 0) (sym there) ∙ sym (get_or-drop p.at bytes (k - 1) 0) ∙ ap (λ (l : List ℕ). get_or l (k - 1) 0) (sym (take_rest bytes p.at)) ∙ e in
      let low : r.line < p.at + k = omega (arith, b, c, z) in
      let same : r.line + (p.at + k - r.line) ≡ p.at + k = omega (arith, low) in
      let there : ReadTo start bytes (r.line + (p.at + k - r.line)) (code_state true) (p.at + k) (code_state true) =
      settled on (p.at + k - r.line) (line_there bytes r.line (p.at + k) low (omega (arith, fits, length-drop p.at bytes, z)) byte) (omega (arith, low)) in
      record {
        line = p.at + k;
        kept = code_state true;
        begins = true;
        read = read_base true (subst (λ (n : ℕ). ReadTo start bytes n (code_state true) (p.at + k) (code_state true)) same there);
        at_line_start = λ _. (refl, refl);
      }

  -- A block comment is read.
  pub reach_block : 2 ≤ length (drop p.at bytes) → take 2 (drop p.at bytes) ≡ slash ∷ star ∷ [] → (pair : ℕ) → p.at + 2 ≤ pair →
      NoStarPair (take (pair - (p.at + 2)) (drop (p.at + 2) bytes)) → take 2 (drop pair bytes) ≡ star ∷ slash ∷ [] →
      Reached start bytes (at_base (pair + 2) false false p.searched)
  reach_block h e pair low free closing = reach_close (p.at + 2) (block_opened r.read.now_white r.read.so_far h (sym e)) pair low free closing p.searched

  -- Which quotes are looked at says nothing of the bytes.
  pub reach_searched : (searched : ℕ) → Reached start bytes (record p { searched = searched })
  reach_searched searched = grind arith

  turned : (l : List ℕ) (a v : Bool) → IsWhiteAfter l a v → v ≡ false → (a ≡ false → r.begins ≡ false) → IsWhiteAfter l r.begins false
  turned l a _ (all_white w) e f = subst (λ (u : Bool). IsWhiteAfter l r.begins u) (f e) (all_white w)
  turned l a _ (new_line x y i w) e f = cc
  turned l a _ (black x b y i k m w) e f = black x b y i k m w

  -- Looking back finds that the logical line isn't white.
  pub reach_black : (a v : Bool) → IsWhiteAfter (take (p.at - p.base) (drop p.base bytes)) a v → v ≡ false → (a ≡ false → r.begins ≡ false) → r.read.now_white ≡ false
  reach_black a v h e f = looked r.read false (turned (take (p.at - p.base) (drop p.base bytes)) a v h e f)

  -- A line that begins after the base: the lines before it are skipped.
  pub reach_line : (n : ℕ) → LastLineStarts (take (p.at - p.base) (drop p.base bytes)) n → 0 < n → Skipped start (take (p.base + n) bytes) (code_state true)
  reach_line n h z =
      let l : LastLineStarts r.read.plain n = subst (λ (x : List ℕ). LastLineStarts x n) (plain_of r.read) h in
      let a : r.line ≡ length r.read.so_far.prefix = r.read.so_far.line_is in
      let b : p.base ≡ length r.read.so_far.prefix + length r.read.before = r.read.base_is in
      let m : length r.read.so_far.mid ≡ length r.read.before + length r.read.plain = ap length r.read.mid_is ∙ length-append r.read.before r.read.plain in
      let w : n ≤ length r.read.plain = l.within in
      let there : r.line + (length r.read.before + n) ≡ p.base + n = omega (arith, a, b) in
      let begun : ReadTo start bytes (r.line + (length r.read.before + n)) (code_state true) p.at (code_state r.read.now_white) =
      settled_at r.read.so_far (length r.read.before + n) (r.read.before ++ take n r.read.plain)
      (begins_after r.read.before n r.read.plain (take n r.read.plain) refl w z l.begins)
      (sym (ap (λ (x : List ℕ). take (length r.read.before + n) x) r.read.mid_is ∙ take_past r.read.before r.read.plain n)) (omega (arith, m, w)) (omega (arith, z)) in
      subst (λ (k : ℕ). Skipped start (take k bytes) (code_state true)) there (passed_of begun)

-- Nothing is read yet.
pub reach_start : (bytes : List ℕ) (w : LexState) (white : Bool) → w ≡ in_text →
    Reached (line_state w white) bytes (at_base 0 true white 0)
reach_start bytes w white e = record { line = 0; kept = line_state w white; begins = white; read = start_read bytes w white e; at_line_start = λ _. (refl, refl) }

-- No star pair ends before the next significant byte.
pub none_on : (bytes : List ℕ) (at from end : ℕ) → end ≡ from + position_or_len is_significant (drop from bytes) →
    ((k : ℕ) → at ≤ k → k + 1 < from → is_star_pair (get_or bytes k 0) (get_or bytes (k + 1) 0) ≡ false) →
    (k : ℕ) → at ≤ k → k + 1 < end → is_star_pair (get_or bytes k 0) (get_or bytes (k + 1) 0) ≡ false
none_on bytes at from end e h k low high = elim (cases_lt (k + 1) from) [
  | inl i ↦ h k low i
  | inr i ↦
      let there : from + (k + 1 - from) ≡ k + 1 = omega (arith, i) in
      let plain : is_significant (get_or bytes (k + 1) 0) ≡ false =
      ap (λ (n : ℕ). is_significant (get_or bytes n 0)) (sym there) ∙ ap is_significant (sym (get_or-drop from bytes (k + 1 - from) 0))
      ∙ fails_before_first is_significant (drop from bytes) (k + 1 - from) 0 (omega (arith, e, high, i)) in
      by_tests (get_or bytes k 0 == star) (get_or bytes (k + 1) 0 == slash) (get_or bytes (k + 1) 0 == backslash) (not_special (get_or bytes (k + 1) 0) plain).0 (not_special (get_or bytes (k + 1) 0) plain).2
]
  where
    by_tests : (t s q : Bool) → s ≡ false → q ≡ false → (t && (s || q)) ≡ false
    by_tests t s q h k = grind arith

pub none_before : (bytes : List ℕ) (n : ℕ) → ((k : ℕ) → k < n → k + 1 < length bytes → is_star_pair (get_or bytes k 0) (get_or bytes (k + 1) 0) ≡ false) → NoStarPair (take (suc n) bytes)
none_before [] n h = tt
none_before (a ∷ []) zero h = tt
none_before (a ∷ []) (suc n) h = tt
none_before (a ∷ b ∷ bytes) zero h = tt
none_before (a ∷ b ∷ bytes) (suc n) h = (
  h 0 (omega arith) (omega arith),
  none_before (b ∷ bytes) n (λ k low high.
      let more : suc (k + 1) ≡ suc k + 1 = omega arith in
      ap (λ (m : ℕ). is_star_pair (get_or (b ∷ bytes) k 0) (get_or (a ∷ b ∷ bytes) m 0)) more ∙ h (suc k) (omega arith) (omega arith)),
)

-- Bytes between two positions have no star pair, if none ends there.
pub none_between : (bytes : List ℕ) (at end : ℕ) → ((k : ℕ) → at ≤ k → k + 1 < end → is_star_pair (get_or bytes k 0) (get_or bytes (k + 1) 0) ≡ false) →
    NoStarPair (take (end - at) (drop at bytes))
none_between bytes at end h = grind (arith, none_before, get_or-drop)
