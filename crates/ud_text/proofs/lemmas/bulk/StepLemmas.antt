-- Steps: what one step of the program reads, by the positions and slices that the step has.
use Rattle.std.proofs.Common.{◌≡◌, ℕ, zero, suc, ◌+◌, ◌-◌, ◌<◌, ◌≤◌, ◌==◌, List, [], ◌∷◌, ◌++◌, length, take, drop, get_or, Bool, true, false, ◌||◌, ◌⊎◌, inr, refl, sym, ◌∙◌, ap, ap₂, subst, arith}
use Rattle.std.specs.List.{position_or_len}
use Rattle.std.proofs.lemmas.Bool.{eqb-true}
use Rattle.std.proofs.lemmas.List.{take_more, take_rest, take-append-drop, get_or-drop, get_or-take, length-take-le}
use Rattle.std.proofs.lemmas.List.Sums.{fails_before_first, passes_at_first}
use Rattle.std.proofs.Math.ListN.{length-drop}
use Rattle.std.proofs.Math.Seq.{drop-cons, drop-nil}
use Rattle.ud_model.specs.text.Bytes.{is_quote, is_white, are_white, slash, number_sign, newline, carriage_return, star, backslash}
use Rattle.ud_model.specs.text.Lines.{NoNewline}
use Rattle.ud_model.specs.aids.LexStates.{LexState, in_text, in_block}
use Rattle.ud_text.specs.bulk.BulkStates.{line_state, BulkState, code_state, is_other_word, inside_state, block_state}
use Rattle.ud_text.proofs.lemmas.searching.MarkLemmas.{position_or_len-bound}
use Rattle.ud_text.proofs.lemmas.bulk.BulkPlainLemmas.{plain_read, no_special_before}
use Rattle.ud_text.proofs.lemmas.bulk.LexemeLemmas.{sign_read, literal_byte, literal_pair, literal_closed, literal_unspliced, literal_line, line_comment_read, LiteralFront, spliced_by, unspliced}
use Rattle.ud_text.proofs.lemmas.bulk.LookLemmas.{shows_white}
use Rattle.ud_text.proofs.lemmas.bulk.ProgressLemmas.{read_text, read_line, plain_of, plain_leads, read_none, read_start, read_base, read_splice}
use Rattle.ud_text.proofs.lemmas.bulk.BlockLemmas.{block_same, block_later, block_opened}
use Rattle.ud_text.specs.bulk.BulkLexemes.{black, NoStarPair, NoSignificant, LineLexeme, all_white, LastLineStarts, CodeLexeme, is_significant, IsWhiteAfter, new_line, IsSplice, may_splice}
use Rattle.ud_text.specs.bulk.Progress.{ReadTo, ReadOutside}
use Rattle.ud_text.specs.searching.Searches.{is_one_of}
use Rattle.std.proofs.lemmas.Grind.{common_steps}

-- a backslash of a literal, and the byte that it escapes
pub literal_two : (l : List ℕ) (q at : ℕ) → at + 1 < length l → is_quote q ≡ true → (get_or l at 0 == backslash) ≡ true → (get_or l (at + 1) 0 == newline) ≡ false →
    (white : Bool) → LiteralFront white q (take at l) → LiteralFront white q (take (at + 2) l)
literal_two l q at h k e f white r = grind (arith, common_steps, literal_pair)

-- the quote that closes a literal
pub literal_ends : (l : List ℕ) (q at : ℕ) → at < length l → is_quote q ≡ true → (get_or l at 0 == q) ≡ true → (white : Bool) → LiteralFront white q (take at l) →
    CodeLexeme white (take (at + 1) l)
literal_ends l q at h k e white r = grind (arith, common_steps, literal_closed)

-- the newline that ends a literal, after a byte that begins no splice
pub literal_line_ends : (l : List ℕ) (q at : ℕ) → 0 < at → at < length l → (get_or l at 0 == newline) ≡ true → (get_or l (at - 1) 0 == backslash) ≡ false → (get_or l (at - 1) 0 == carriage_return) ≡ false →
    (white : Bool) → LiteralFront white q (take at l) → CodeLexeme white (take (at + 1) l)
literal_line_ends l q at z h n e f white r = let there : at - 1 + 1 ≡ at = omega arith in
    let front : take at l ≡ take (at - 1) l ++ get_or l (at - 1) 0 ∷ [] = ap (λ (k : ℕ). take k l) (sym there) ∙ take_more l (at - 1) 0 (omega arith) in
    let s : LiteralFront white q (take (at - 1) l ++ get_or l (at - 1) 0 ∷ []) = subst (λ (x : List ℕ). LiteralFront white q x) front r in
    subst (λ (x : List ℕ). CodeLexeme white x) (sym (take_more l at 0 h ∙ ap (λ (k : ℕ). take at l ++ k ∷ []) (eqb-true (get_or l at 0) newline n) ∙ ap (λ (x : List ℕ). x ++ newline ∷ []) front))
    (literal_line white q (take (at - 1) l ++ get_or l (at - 1) 0 ∷ []) s (literal_unspliced white q (take (at - 1) l) (get_or l (at - 1) 0) s e f))

others_fail : (a b c : Bool) → ((((a || b) || c) || c) || c) ≡ false → (a ≡ false) × (b ≡ false) × (c ≡ false)
others_fail a b c h = grind arith

second_passes : (a b c : Bool) → ((((a || b) || c) || c) || c) ≡ true → a ≡ false → c ≡ false → b ≡ true
second_passes a b c h k l = grind arith

-- `ends_run q b`: a search in a literal stops at `b`: the quote `q`, a backslash or a newline
abbrev pub ends_run : ℕ → ℕ → Bool
ends_run q b = is_one_of (q ∷ backslash ∷ newline ∷ newline ∷ newline ∷ []) b

module _ (l : List ℕ) (q at count : ℕ) (is : count ≡ position_or_len (ends_run q) (take (length l - at) (drop at l))) where
  found : count ≡ position_or_len (ends_run q) (drop at l)
  found = is ∙ ap (λ (x : List ℕ). position_or_len (ends_run q) x) (take_rest l at)

  fails : (k : ℕ) → k < count → ends_run q (get_or l (at + k) 0) ≡ false
  fails k h = grind (arith, get_or-drop, fails_before_first, found)

  run_more : (white : Bool) → LiteralFront white q (take at l) → (j : ℕ) → j ≤ count → LiteralFront white q (take (at + j) l)
  run_more white r zero h = let same : at ≡ at + 0 = omega arith in subst (λ (n : ℕ). LiteralFront white q (take n l)) same r
  run_more white r (suc j) h =
      let inside : at + j < length l = omega (arith, found, position_or_len-bound (ends_run q) (drop at l), length-drop at l) in
      let next : at + j + 1 ≡ at + suc j = omega arith in
      let none = others_fail (get_or l (at + j) 0 == q) (get_or l (at + j) 0 == backslash) (get_or l (at + j) 0 == newline) (fails j (omega arith)) in
      subst (λ (n : ℕ). LiteralFront white q (take n l)) next
      (grind (arith, common_steps, run_more white r j (omega arith), literal_byte))

  -- the bytes of a literal up to the first that ends it or escapes the next byte
  pub literal_run : (white : Bool) → LiteralFront white q (take at l) → LiteralFront white q (take (at + count) l)
  literal_run white r = run_more white r count (omega arith)

  -- a backslash comes next, if neither the quote nor a newline does
  pub literal_backslash : at + count < length l → (get_or l (at + count) 0 == newline) ≡ false → (get_or l (at + count) 0 == q) ≡ false →
      (get_or l (at + count) 0 == backslash) ≡ true
  literal_backslash h k m = grind (arith, found, length-drop, passes_at_first, second_passes, get_or-drop)

-- the byte that a search found after the first two
pub feed_there : (l : List ℕ) (k : ℕ) → (get_or (take (length l - 2) (drop 2 l)) k 0 == newline) ≡ true → get_or l (2 + k) 0 ≡ newline
feed_there l k e =
    sym (get_or-drop 2 l k 0) ∙ ap (λ (x : List ℕ). get_or x k 0) (sym (take_rest l 2)) ∙ eqb-true (get_or (take (length l - 2) (drop 2 l)) k 0) newline e

-- the bytes begin with a line comment, up to its newline
pub comment_spans : (l : List ℕ) (k : ℕ) → take 2 l ≡ slash ∷ slash ∷ [] → NoNewline (take k (drop 2 l)) → k < length (drop 2 l) → get_or l (2 + k) 0 ≡ newline →
    may_splice (get_or l k 0) (get_or l (k + 1) 0) ≡ false → (white : Bool) → LineLexeme white (take (2 + k + 1) l)
comment_spans [] k e f h g m white = absurd (omega arith)
comment_spans (a ∷ []) k e f h g m white = absurd (omega arith)
comment_spans (a ∷ b ∷ l) k e f h g m white =
    subst (λ (x : List ℕ). LineLexeme white x) (sym is) (line_comment_read (take k l) white f clear)
  where
    there : (n m : ℕ) → n ≡ suc (suc m) → get_or (a ∷ b ∷ l) n 0 ≡ get_or l m 0
    there n m e = ap (λ (x : ℕ). get_or (a ∷ b ∷ l) x 0) e

    prefix : (n m : ℕ) → n ≡ suc (suc m) → take n (a ∷ b ∷ l) ≡ a ∷ b ∷ take m l
    prefix n m e = ap (λ (x : ℕ). take x (a ∷ b ∷ l)) e

    is : take (2 + k + 1) (a ∷ b ∷ l) ≡ slash ∷ slash ∷ (take k l ++ newline ∷ [])
    is = grind (arith, prefix, take_more, there)

    the_front : take (suc (suc k)) (a ∷ b ∷ l) ≡ slash ∷ slash ∷ take k l
    the_front = let x : a ≡ slash = cc in let y : b ≡ slash = cc in ap₂ (λ (i j : ℕ). i ∷ j ∷ take k l) x y

    byte : (n : ℕ) → n < suc (suc k) → get_or (slash ∷ slash ∷ take k l) n 0 ≡ get_or (a ∷ b ∷ l) n 0
    byte n i = ap (λ (x : List ℕ). get_or x n 0) (sym the_front) ∙ get_or-take (suc (suc k)) (a ∷ b ∷ l) n 0 i

    clear : spliced_by false (slash ∷ slash ∷ take k l) ≡ false
    clear = let next : k + 1 ≡ suc k = omega arith in
        unspliced (slash ∷ slash ∷ take k l) k (let e : length (take k l) ≡ k = length-take-le k l (omega arith) in omega (arith, e))
        (ap₂ may_splice (byte k (omega arith)) (byte (suc k) (omega arith) ∙ ap (λ (n : ℕ). get_or (a ∷ b ∷ l) n 0) (sym next)) ∙ m)

-- a byte that isn't white, and white space after it, decide whether the line is white
pub shows_found : (bytes : List ℕ) (at : ℕ) (begins : Bool) → 0 < at → at ≤ length bytes → are_white (drop at bytes) ≡ true →
    is_white (get_or bytes (at - 1) 0) ≡ false → IsWhiteAfter bytes begins (get_or bytes (at - 1) 0 == newline)
shows_found bytes at begins z h w k = by_feed (get_or bytes (at - 1) 0 == newline) refl
  where
    split : bytes ≡ take (at - 1) bytes ++ get_or bytes (at - 1) 0 ∷ drop at bytes
    split = grind (arith, take-append-drop, drop-cons)

    by_feed : (t : Bool) → (get_or bytes (at - 1) 0 == newline) ≡ t → IsWhiteAfter bytes begins t
    by_feed true e = new_line (take (at - 1) bytes) (drop at bytes) (split ∙ ap (λ (n : ℕ). take (at - 1) bytes ++ n ∷ drop at bytes) (eqb-true (get_or bytes (at - 1) 0) newline e)) w
    by_feed false e = black (take (at - 1) bytes) (get_or bytes (at - 1) 0) (drop at bytes) split k e w

-- dropping bytes twice is dropping them at once
pub drop_both : (l : List ℕ) (n m : ℕ) → drop (n + m) l ≡ drop m (drop n l)
drop_both l zero m = let e : 0 + m ≡ m = omega arith in ap (λ (k : ℕ). drop k l) e
drop_both [] (suc n) m = drop-nil (suc n + m) ∙ sym (drop-nil m)
drop_both (x ∷ l) (suc n) m = let e : suc n + m ≡ suc (n + m) = omega arith in ap (λ (k : ℕ). drop k (x ∷ l)) e ∙ drop_both l n m

module _ {start : BulkState} {bytes : List ℕ} {line : ℕ} {kept : BulkState} {base : ℕ} {begins : Bool} {at : ℕ}
    (r : ReadOutside start bytes line kept base begins at) where
  -- a run of bytes outside comments
  pub text_step_read : (k : ℕ) → k ≤ length (take (length bytes - at) (drop at bytes)) →
      ((u : Bool) → CodeLexeme u (take k (take (length bytes - at) (drop at bytes)))) → ReadOutside start bytes line kept base begins (at + k)
  text_step_read k h t = read_text r k (subst (λ (l : List ℕ). k ≤ length l) (take_rest bytes at) h)
      (subst (λ (l : List ℕ). CodeLexeme r.now_white (take k l)) (take_rest bytes at) (t r.now_white))

  -- a run of bytes up to the beginning of a line
  pub line_step_read : (k : ℕ) → k ≤ length (take (length bytes - at) (drop at bytes)) →
      ((u : Bool) → LineLexeme u (take k (take (length bytes - at) (drop at bytes)))) → ReadOutside start bytes line kept (at + k) true (at + k)
  line_step_read k h t = read_line r k (subst (λ (l : List ℕ). k ≤ length l) (take_rest bytes at) h)
      (subst (λ (l : List ℕ). LineLexeme r.now_white (take k l)) (take_rest bytes at) (t r.now_white))

  -- plain text up to the next significant byte
  pub plain_step_read : (next : ℕ) → next ≡ at + position_or_len is_significant (drop at bytes) → ReadOutside start bytes line kept base begins next
  plain_step_read next e = let k : ℕ = position_or_len is_significant (drop at bytes) in
      subst (λ (n : ℕ). ReadOutside start bytes line kept base begins n) (sym e)
      (read_text r (position_or_len is_significant (drop at bytes)) (position_or_len-bound is_significant (drop at bytes))
      (plain_read (take (position_or_len is_significant (drop at bytes)) (drop at bytes)) r.now_white (no_special_before (drop at bytes))))

  -- looking back as far as the base finds whether the line is white
  pub looked : (v : Bool) → IsWhiteAfter (take (at - base) (drop base bytes)) begins v → r.now_white ≡ v
  looked v h = shows_white r.plain begins v r.now_white r.no_comment (plain_leads r) (subst (λ (l : List ℕ). IsWhiteAfter l begins v) (plain_of r) h)

  -- the beginning of a block comment
  pub block_begun : (v : Bool) → IsWhiteAfter (take (at - base) (drop base bytes)) begins v → 2 ≤ length (drop at bytes) → take 2 (drop at bytes) ≡ slash ∷ star ∷ [] →
      ReadTo start bytes line kept (at + 2) (block_state v)
  block_begun v scanned h e = grind (arith, block_opened, looked)

  -- a splice on a logical line that isn't white
  pub splice_step_read : IsWhiteAfter (take (at - base) (drop base bytes)) begins false → (k : ℕ) → k ≤ length (drop at bytes) → IsSplice (take k (drop at bytes)) →
      ReadOutside start bytes (at + k) (code_state false) (at + k) false (at + k)
  splice_step_read scanned k h s = read_base false (read_splice r.so_far (ap (λ (u : Bool). code_state u) (looked false scanned)) k h s)

  -- a `#` that belongs to no directive, and the plain bytes after it
  pub sign_step_read : take 1 (drop at bytes) ≡ number_sign ∷ [] → (k : ℕ) → k ≤ length (drop (at + 1) bytes) → NoSignificant (take k (drop (at + 1) bytes)) →
      (is_other_word (take k (drop (at + 1) bytes)) ≡ true) ⊎ IsWhiteAfter (take (at - base) (drop base bytes)) begins false →
      ReadOutside start bytes line kept base begins (at + 1 + k)
  sign_step_read first k bound none why =
      let later : drop (at + 1) bytes ≡ drop 1 (drop at bytes) = drop_both bytes at 1 in
      let name : List ℕ = take k (drop (at + 1) bytes) in
      let reason : (is_other_word (take k (drop (at + 1) bytes)) ≡ true) ⊎ (r.now_white ≡ false) = by_reason why in
      let taken : take (suc k) (drop at bytes) ≡ number_sign ∷ take k (drop (at + 1) bytes) =
      (grind (arith, first)) ∙ ap (λ (l : List ℕ). number_sign ∷ take k l) (sym later) in
      let there : at + suc k ≡ at + 1 + k = omega arith in
      subst (λ (n : ℕ). ReadOutside start bytes line kept base begins n) there
      (read_text r (suc k) (fits (drop at bytes) k first (subst (λ (l : List ℕ). k ≤ length l) later bound))
      (subst (λ (l : List ℕ). CodeLexeme r.now_white l) (sym taken) (sign_read (take k (drop (at + 1) bytes)) r.now_white none reason)))
    where
      by_reason : (is_other_word (take k (drop (at + 1) bytes)) ≡ true) ⊎ IsWhiteAfter (take (at - base) (drop base bytes)) begins false →
          (is_other_word (take k (drop (at + 1) bytes)) ≡ true) ⊎ (r.now_white ≡ false)
      by_reason h = grind (arith, looked)

      fits : (l : List ℕ) (k : ℕ) → take 1 l ≡ number_sign ∷ [] → k ≤ length (drop 1 l) → suc k ≤ length l
      fits l k h m = grind arith

  -- the `#` alone
  pub sign_alone_read : take 1 (drop at bytes) ≡ number_sign ∷ [] → IsWhiteAfter (take (at - base) (drop base bytes)) begins false → ReadOutside start bytes line kept base begins (at + 1)
  sign_alone_read first scanned = let there : at + 1 + 0 ≡ at + 1 = omega arith in
      subst (λ (n : ℕ). ReadOutside start bytes line kept base begins n) there (sign_step_read first 0 (omega arith) tt (inr scanned))

module _ {start : BulkState} {bytes : List ℕ} {line : ℕ} {kept : BulkState} {at : ℕ} {u : Bool}
    (r : ReadTo start bytes line kept at (block_state u)) (count : ℕ) (fits : at + count ≤ length bytes)
    (free : NoStarPair (take count (drop at bytes))) (n : ℕ) (begins : LastLineStarts (take (at + count - at) (drop at bytes)) n) where
  within : count ≤ length (drop at bytes)
  within = omega (arith, length-drop at bytes)

  the_run : LastLineStarts (take count (drop at bytes)) n
  the_run = let e : at + count - at ≡ count = omega arith in subst (λ (k : ℕ). LastLineStarts (take k (drop at bytes)) n) e begins

  -- bytes in a block comment that lie on one line
  pub held_same : n ≡ 0 → (s : Bool) × ReadTo start bytes line kept (at + count) (inside_state s u)
  held_same e = (_, block_same r count within free (subst (λ (k : ℕ). NoNewline (drop k (take count (drop at bytes)))) e the_run.one_line))

  -- bytes in a block comment that end on a later line
  pub held_later : 0 < n → (s : Bool) × ReadTo start bytes (at + n) (block_state u) (at + count) (inside_state s u)
  held_later h = (_, block_later r count within free n the_run h)

-- nothing is read yet, outside comments
pub start_read : (bytes : List ℕ) (w : LexState) (white : Bool) → w ≡ in_text →
    ReadOutside (line_state w white) bytes 0 (line_state w white) 0 white 0
start_read bytes w white e = grind (arith, read_start)

-- nothing is read yet, in a block comment
pub start_block : (bytes : List ℕ) (w : LexState) (white : Bool) → w ≡ in_block →
    ReadTo (line_state w white) bytes 0 (line_state w white) 0 (block_state white)
start_block bytes w white e = grind (arith, read_none)

-- after bytes that are all white, the line is white if it is white before them
pub all_before : (bytes : List ℕ) (at : ℕ) (begins : Bool) → at ≡ 0 → are_white (drop at bytes) ≡ true → IsWhiteAfter bytes begins begins
all_before bytes at begins e w = all_white (subst (λ (n : ℕ). are_white (drop n bytes) ≡ true) e w)
