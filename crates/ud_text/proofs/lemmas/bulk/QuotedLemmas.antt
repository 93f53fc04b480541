-- Quoted lines: a line ends outside block comments from a quote on, whatever its literals and its
-- comments, if a star and a slash follow its last slash and star.
use Rattle.std.proofs.Common.{◌≡◌, ℕ, zero, suc, ◌+◌, ◌-◌, ◌<◌, ◌≤◌, ◌==◌, List, [], ◌∷◌, ◌++◌, length, take, drop, get_or, Bool, true, false, ◌&&◌, ◌||◌, refl, sym, ◌∙◌, ap, ap₂, subst, arith, length-append, rules}
use Rattle.std.specs.List.{position_or_len}
use Rattle.std.proofs.lemmas.Bool.{eqb-true}
use Rattle.std.proofs.lemmas.List.{take_more, take_rest, get_or-drop, get_or-take, length-take-le}
use Rattle.std.proofs.lemmas.List.Sums.{fails_before_first, passes_at_first}
use Rattle.std.proofs.Math.ListN.{length-drop}
use Rattle.ud_model.specs.text.Bytes.{slash, newline, carriage_return, star, backslash}
use Rattle.ud_model.specs.text.Scanning.{is_block}
use Rattle.ud_model.specs.aids.LexStates.{at_slash, in_block, in_line, next_state, kind_in_state}
use Rattle.ud_text.specs.bulk.BulkStates.{BulkState, code_state, NoNewlineInBlock, bulk_state_after, spliced_after, HasNoStop}
use Rattle.ud_text.specs.bulk.BulkLexemes.{LineLexeme, may_splice}
use Rattle.ud_text.specs.searching.Searches.{is_one_of}
use Rattle.ud_text.proofs.lemmas.searching.MarkLemmas.{position_or_len-bound}
use Rattle.ud_text.proofs.lemmas.bulk.QuietLemmas.{bulk_state_after-append, HasNoStop-append, NoNewlineInBlock-append}
use Rattle.ud_text.proofs.lemmas.bulk.LexemeLemmas.{spliced_by, unspliced, last_clear}
use Rattle.ud_text.proofs.lemmas.bulk.LookLemmas.{white_false}
use Rattle.ud_text.proofs.lemmas.bulk.ProgressLemmas.{feed_open}

-- `opens a b`: a slash and a star may begin a block comment
abbrev pub opens : ℕ → ℕ → Bool
opens a b = (a == slash) && (b == star)

-- `QuotedFront white begun last bytes`: the bytes, of which a quote is the first one and `last` the
-- last one, are read. Their last slash and star end at `begun`, which is 0 if no block comment can
-- be open after the bytes.
pub record QuotedFront (white : Bool) (begun : ℕ) (last : ℕ) (bytes : List ℕ) : Type 0 where
  pub now : BulkState
  pub leads : bulk_state_after (code_state white) bytes ≡ now
  pub black : now.white ≡ false
  pub unspliced_is : spliced_by false bytes ≡ false → now.spliced ≡ false
  pub slash_is : now.state ≡ at_slash → last ≡ slash
  pub shut : begun ≡ 0 → is_block (kind_in_state now.state) ≡ false
  pub starred : begun < length bytes → last ≡ star → now.state ≡ in_block → ⊥
  pub quiet : HasNoStop (code_state white) bytes
  pub no_newline : NoNewlineInBlock (code_state white) bytes

spliced_by-append : (c : Bool) (p : List ℕ) (b : ℕ) →
    spliced_by c (p ++ b ∷ []) ≡ spliced_after in_line (spliced_by c p) b
unfolding spliced_by
spliced_by-append c [] b = refl
spliced_by-append c (a ∷ p) b = spliced_by-append (spliced_after in_line c a) p b

-- one more byte, after which a block comment may be open from `later` on
front_later : (white : Bool) (begun later last b : ℕ) (bytes : List ℕ)
    (r : QuotedFront white begun last bytes) → (b == newline) ≡ false →
    (later ≡ 0 → is_block (kind_in_state (next_state r.now.state b)) ≡ false) →
    (later < length (bytes ++ b ∷ []) → b ≡ star → next_state r.now.state b ≡ in_block → ⊥) →
    QuotedFront white later b (bytes ++ b ∷ [])
front_later white begun later last b bytes r h k l = grind (arith, bulk_state_after-append, white_false, spliced_by, spliced_by-append, HasNoStop-append, NoNewlineInBlock-append)

-- one more byte, which begins no block comment
front_byte : (white : Bool) (begun last b : ℕ) (bytes : List ℕ) →
    QuotedFront white begun last bytes → (b == newline) ≡ false → opens last b ≡ false →
    QuotedFront white begun b (bytes ++ b ∷ [])
front_byte white begun last b bytes r e f = front_later white begun begun last b bytes r e
    (λ z. (grind (arith, r.slash_is, f, r.shut z)))
    (λ h s i. (grind (arith, r.slash_is, (subst (λ (n : ℕ). opens last n ≡ false) s f), (subst (λ (n : ℕ). next_state r.now.state n ≡ in_block) s i))))

-- a slash that closes a block comment, if one is open
front_close : (white : Bool) (begun last : ℕ) (bytes : List ℕ) →
    QuotedFront white begun last bytes → begun < length bytes → last ≡ star →
    QuotedFront white 0 slash (bytes ++ slash ∷ [])
front_close white begun last bytes r h e =
    front_later white begun 0 last slash bytes r refl (λ z. (grind (arith, r.starred h e)))
    (λ k s i. absurd (omega (arith, s)))

-- a star that begins a block comment, if none is open
front_open : (white : Bool) (begun last : ℕ) (bytes : List ℕ) → QuotedFront white begun last bytes →
    QuotedFront white (length bytes + 1) star (bytes ++ star ∷ [])
front_open white begun last bytes r =
    front_later white begun (length bytes + 1) last star bytes r refl
    (λ z. absurd (omega (arith, z)))
    (λ k s i. absurd (omega (arith, k, length-append bytes (star ∷ []))))

-- `QuotedTo white begun l n`: the first `n` bytes of a line are read from a quote on
abbrev pub QuotedTo : Bool → ℕ → List ℕ → ℕ → Type 0
QuotedTo white begun l n = QuotedFront white begun (get_or l (n - 1) 0) (take n l)

-- `opens_at l n`: a slash before the position `n` and a star there may begin a block comment
abbrev pub opens_at : List ℕ → ℕ → Bool
opens_at l n = opens (get_or l (n - 1) 0) (get_or l n 0)

-- the byte after another one than a slash begins no comment
pub none_after : (a b : ℕ) → (a == slash) ≡ false → opens a b ≡ false
none_after a b e = ap (λ (t : Bool). t && (b == star)) e

to_next : (white : Bool) (later : ℕ) (l : List ℕ) (n : ℕ) → n < length l →
    QuotedFront white later (get_or l n 0) (take n l ++ get_or l n 0 ∷ []) →
    QuotedTo white later l (n + 1)
to_next white later l n h k = grind (arith, take_more)

-- one more byte is read, which begins no block comment
pub quoted_byte : (white : Bool) (begun : ℕ) (l : List ℕ) (n : ℕ) → QuotedTo white begun l n →
    opens_at l n ≡ false → n < length l → (get_or l n 0 == newline) ≡ false →
    QuotedTo white begun l (n + 1)
quoted_byte white begun l n r f h e = grind (arith, to_next, front_byte)

-- a slash after a star is read
pub quoted_close : (white : Bool) (begun : ℕ) (l : List ℕ) (n : ℕ) → QuotedTo white begun l n →
    begun < n → n < length l → get_or l (n - 1) 0 ≡ star → get_or l n 0 ≡ slash →
    QuotedTo white 0 l (n + 1)
quoted_close white begun l n r b h e f = grind (arith, to_next, front_close, length-take-le)

-- a star is read, which may begin a block comment
pub quoted_open : (white : Bool) (begun later : ℕ) (l : List ℕ) (n : ℕ) → QuotedTo white begun l n →
    n < length l → get_or l n 0 ≡ star → later ≡ n + 1 → QuotedTo white later l (n + 1)
quoted_open white begun later l n r h f e = grind (arith, length-take-le, to_next, front_open)

-- `ends_quoted b`: a search in the rest of a line stops at `b`: a newline or a slash
abbrev pub ends_quoted : ℕ → Bool
ends_quoted b = is_one_of (newline ∷ slash ∷ slash ∷ slash ∷ slash ∷ []) b

others_fail : (a b : Bool) → ((((a || b) || b) || b) || b) ≡ false → (a ≡ false) × (b ≡ false)
others_fail a b h = grind arith

second_passes : (a b : Bool) → ((((a || b) || b) || b) || b) ≡ true → a ≡ false → b ≡ true
second_passes a b h k = grind arith

module _ (l : List ℕ) (at count : ℕ)
    (is : count ≡ position_or_len ends_quoted (take (length l - at) (drop at l)))
    (begins : opens_at l at ≡ false) where
  found : count ≡ position_or_len ends_quoted (drop at l)
  found = is ∙ ap (λ (x : List ℕ). position_or_len ends_quoted x) (take_rest l at)

  fails : (k : ℕ) → k < count → ((get_or l (at + k) 0 == newline) ≡ false) ×
      ((get_or l (at + k) 0 == slash) ≡ false)
  fails k h = grind (arith, others_fail, get_or-drop, fails_before_first, found)

  -- no block comment begins up to the byte that was found
  pub none_opens : (j : ℕ) → j ≤ count → opens_at l (at + j) ≡ false
  none_opens zero h = grind arith
  none_opens (suc j) h = let there : at + suc j - 1 ≡ at + j = omega arith in
      ap (λ (n : ℕ). opens (get_or l n 0) (get_or l (at + suc j) 0)) there
      ∙ none_after (get_or l (at + j) 0) (get_or l (at + suc j) 0) (fails j (omega arith)).1

  run_more : (white : Bool) (begun : ℕ) → QuotedTo white begun l at → (j : ℕ) → j ≤ count →
      QuotedTo white begun l (at + j)
  run_more white begun r zero h = grind arith
  run_more white begun r (suc j) h = let inside : at + j < length l =
      omega (arith, found, position_or_len-bound ends_quoted (drop at l), length-drop at l) in
      let next : at + j + 1 ≡ at + suc j = omega arith in
      subst (λ (n : ℕ). QuotedTo white begun l n) next
      (quoted_byte white begun l (at + j) (run_more white begun r j (omega arith))
      (none_opens j (omega arith)) inside (fails j (omega arith)).0)

  -- the bytes before the one that was found are read
  pub quoted_run : (white : Bool) (begun : ℕ) → QuotedTo white begun l at →
      QuotedTo white begun l (at + count)
  quoted_run white begun r = run_more white begun r count (omega arith)

  -- a slash was found, if no newline was
  pub found_slash : at + count < length l → (get_or l (at + count) 0 == newline) ≡ false →
      get_or l (at + count) 0 ≡ slash
  found_slash h k = grind (arith, found, length-drop, passes_at_first, eqb-true, second_passes, get_or-drop)

  -- a slash was found that a star follows
  pub quoted_star : (white : Bool) (begun : ℕ) → QuotedTo white begun l at →
      at + count + 1 < length l → (get_or l (at + count) 0 == newline) ≡ false →
      get_or l (at + count + 1) 0 ≡ star →
      QuotedTo white (at + count + 2) l (at + count + 2)
  quoted_star white begun r h e f = let two : at + count + 1 + 1 ≡ at + count + 2 = omega arith in
      subst (λ (n : ℕ). QuotedTo white (at + count + 2) l n) two
      (quoted_open white begun (at + count + 2) l (at + count + 1)
      (quoted_byte white begun l (at + count) (quoted_run white begun r)
      (none_opens count (omega arith)) (omega (arith, h)) e) h f (omega arith))

  -- a slash was found after a star
  pub quoted_shut : (white : Bool) (begun : ℕ) → QuotedTo white begun l at → at + count < length l →
      (get_or l (at + count) 0 == newline) ≡ false → begun < at + count →
      get_or l (at + count - 1) 0 ≡ star → QuotedTo white 0 l (at + count + 1)
  quoted_shut white begun r h e b f = search (rules, quoted_close, quoted_run, found_slash)

  -- another slash was found
  pub quoted_more : (white : Bool) (begun : ℕ) → QuotedTo white begun l at → at + count < length l →
      (get_or l (at + count) 0 == newline) ≡ false → QuotedTo white begun l (at + count + 1)
  quoted_more white begun h k m = grind (arith, quoted_byte, quoted_run, none_opens)

  -- a newline was found that belongs to no splice, and no block comment is open
  pub quoted_line : at + count < length l → get_or l (at + count) 0 ≡ newline →
      spliced_by false (take (at + count) l) ≡ false → (white : Bool) (begun : ℕ) → begun ≡ 0 →
      QuotedTo white begun l at → LineLexeme white (take (at + count + 1) l)
  quoted_line h e s white begun z r = subst (λ (x : List ℕ). LineLexeme white x)
      (sym (take_more l (at + count) 0 h ∙ ap (λ (n : ℕ). take (at + count) l ++ n ∷ []) e))
      (grind (arith, bulk_state_after-append, feed_open, HasNoStop-append, NoNewlineInBlock-append, quoted_run white begun r, z, s))

-- no splice ends after a byte that is neither a backslash nor a carriage return
pub unspliced_last : (l : List ℕ) (n : ℕ) → 1 ≤ n → n ≤ length l →
    (get_or l (n - 1) 0 == backslash) ≡ false → (get_or l (n - 1) 0 == carriage_return) ≡ false →
    spliced_by false (take n l) ≡ false
unspliced_last l n h k m o = grind (arith, length-take-le, get_or-take, last_clear)

-- nor after a carriage return that follows neither of them
pub unspliced_return : (l : List ℕ) (n : ℕ) → 2 ≤ n → n ≤ length l →
    get_or l (n - 1) 0 ≡ carriage_return → may_splice (get_or l (n - 2) 0) carriage_return ≡ false →
    spliced_by false (take n l) ≡ false
unspliced_return l n low high e f = let next : suc (n - 2) ≡ n - 1 = omega arith in
    let long : length (take n l) ≡ n = length-take-le n l high in
    unspliced (take n l) (n - 2) (omega (arith, long, low))
    (ap₂ may_splice (get_or-take n l (n - 2) 0 (omega arith))
    (ap (λ (k : ℕ). get_or (take n l) k 0) next ∙ get_or-take n l (n - 1) 0 (omega arith) ∙ e)
    ∙ f)
