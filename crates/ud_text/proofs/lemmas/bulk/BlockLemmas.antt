-- Blocks: bytes in a block comment, newlines included.
use Rattle.std.proofs.Common.{◌≡◌, ℕ, ◌+◌, ◌-◌, ◌<◌, ◌≤◌, ◌==◌, List, [], ◌∷◌, ◌++◌, length, take, drop, Bool, true, false, refl, sym, ◌∙◌, ap, subst, append_assoc, arith, length-append, ne_eqb}
use Rattle.std.proofs.lemmas.List.{take-append-drop, length-take-le}
use Rattle.ud_model.specs.text.Lines.{NoNewline}
use Rattle.ud_text.specs.bulk.BulkStates.{next_bulk_state, BulkState, code_state, NoNewlineInBlock, bulk_state_after, inside_state, block_state, HasNoStop, Skipped}
use Rattle.ud_text.proofs.lemmas.bulk.QuietLemmas.{bulk_state_after-append, HasNoStop-append, HasNoStop-feed}
use Rattle.ud_text.proofs.lemmas.bulk.QuietLineLemmas.{passed_quiet, Skipped-append}
use Rattle.ud_text.proofs.lemmas.bulk.ProgressLemmas.{begins-append, rest_of, read_on, read_base}
use Rattle.ud_text.specs.bulk.BulkLexemes.{after_newline, NoStarPair, at_start, LastLineStarts, IsLineStart}
use Rattle.ud_text.specs.bulk.Progress.{ReadTo, ReadOutside}
use Rattle.ud_model.specs.text.Bytes.{slash, newline, star, backslash}

-- `star_before starred bytes`: the bytes, after a star if `starred`
abbrev pub star_before : Bool → List ℕ → List ℕ
star_before true bytes = star ∷ bytes
star_before false bytes = bytes

-- `BlockSpan starred white bytes`: the bytes lead from in a block comment to in it, after a star or
-- not
pub record BlockSpan (starred white : Bool) (bytes : List ℕ) : Type 0 where
  pub now : Bool
  pub leads : bulk_state_after (inside_state starred white) bytes ≡ inside_state now white
  pub quiet : HasNoStop (inside_state starred white) bytes

inside_step : (starred white : Bool) (b : ℕ) → (starred ≡ true → ((b == slash) ≡ false) × ((b == backslash) ≡ false)) → next_bulk_state (inside_state starred white) b ≡ inside_state (b == star) white
inside_step starred white b h = grind arith

pair_star : (b : ℕ) (bytes : List ℕ) → NoStarPair (b ∷ bytes) → NoStarPair (star_before (b == star) bytes)
pair_star b bytes h = grind arith

-- bytes without a star pair lead from in a block comment to in it
pub block_on : (bytes : List ℕ) (starred white : Bool) → NoStarPair (star_before starred bytes) → BlockSpan starred white bytes
block_on [] starred white h = record { now = starred; leads = refl; quiet = tt }
block_on (b ∷ bytes) starred white h =
    let p : (starred ≡ true → ((b == slash) ≡ false) × ((b == backslash) ≡ false)) × NoStarPair (b ∷ bytes) = grind arith in
    let there : next_bulk_state (inside_state starred white) b ≡ inside_state (b == star) white = inside_step starred white b p.0 in
    let more : BlockSpan (b == star) white bytes = block_on bytes (b == star) white (pair_star b bytes p.1) in
    record {
      now = more.now;
      leads = ap (λ (s : BulkState). bulk_state_after s bytes) there ∙ more.leads;
      quiet = (grind arith, subst (λ (s : BulkState). HasNoStop s bytes) (sym there) more.quiet);
    }

keeps_one_line : (bytes : List ℕ) (s : BulkState) → NoNewline bytes → NoNewlineInBlock s bytes
keeps_one_line [] s h = tt
keeps_one_line (b ∷ bytes) s h = grind (arith, ne_eqb, keeps_one_line bytes (next_bulk_state s b) h.1)

feed_inside : (starred white : Bool) → next_bulk_state (inside_state starred white) newline ≡ block_state white
feed_inside starred white = grind arith

closing : (starred white : Bool) → bulk_state_after (inside_state starred white) (star ∷ slash ∷ []) ≡ code_state white
closing starred white = grind arith

-- a prefix of bytes without a star pair has none
pub pair_front : (p q : List ℕ) → NoStarPair (p ++ q) → NoStarPair p
pair_front [] q h = tt
pair_front (a ∷ []) q h = tt
pair_front (a ∷ b ∷ p) q h = (h.0, pair_front (b ∷ p) q h.1)

module _ {start : BulkState} {bytes : List ℕ} {line : ℕ} {kept : BulkState} {at : ℕ} {u : Bool}
    (r : ReadTo start bytes line kept at (block_state u)) (count : ℕ) (fits : count ≤ length (drop at bytes))
    (free : NoStarPair (take count (drop at bytes))) where
  -- such bytes, from a position in a block comment
  pub on : BlockSpan false u (take count (drop at bytes))
  on = block_on (take count (drop at bytes)) false u free

  -- the bytes lie on one line
  pub block_same : NoNewline (take count (drop at bytes)) → ReadTo start bytes line kept (at + count) (inside_state on.now u)
  unfolding on
  block_same h = grind (arith, read_on, on, keeps_one_line)

  later_at : (n : ℕ) (m : List ℕ) → IsLineStart m → m ≡ take n (take count (drop at bytes)) → NoNewline (drop n (take count (drop at bytes))) →
      n ≤ length (take count (drop at bytes)) → 0 < n → ReadTo start bytes (at + n) (block_state u) (at + count) (inside_state on.now u)
  unfolding on
  later_at n _ at_start e h k z = absurd (let f : 0 ≡ n = ap length e ∙ length-take-le n (take count (drop at bytes)) k in omega arith)
  later_at n _ (after_newline x) e h k z = let run : List ℕ = take count (drop at bytes) in
      let y : List ℕ = drop n run in
      let split : run ≡ (x ++ newline ∷ []) ++ y = sym (take-append-drop n run) ∙ ap (λ (l : List ℕ). l ++ drop n run) (sym e) in
      let whole : run ≡ x ++ newline ∷ y = split ∙ append_assoc x (newline ∷ []) y in
      let first : BlockSpan false u x = block_on x false u (pair_front x (newline ∷ y) (subst NoStarPair whole free)) in
      let there : bulk_state_after (block_state u) (x ++ newline ∷ []) ≡ block_state u =
      bulk_state_after-append (block_state u) x (newline ∷ []) ∙ ap (λ (s : BulkState). bulk_state_after s (newline ∷ [])) first.leads ∙ feed_inside first.now u in
      let parts : HasNoStop (block_state u) (x ++ newline ∷ []) × HasNoStop (bulk_state_after (block_state u) (x ++ newline ∷ [])) y =
      HasNoStop-feed (block_state u) x y (subst (λ (l : List ℕ). HasNoStop (block_state u) l) whole on.quiet) in
      let mid : List ℕ = r.mid ++ (x ++ newline ∷ []) in
      record {
        prefix = r.prefix ++ (r.mid ++ (x ++ newline ∷ []));
        mid = y;
        rest = drop count (drop at bytes);
        is = grind (
          arith,
          rest_of r,
          take-append-drop count (drop at bytes),
          append_assoc (x ++ newline ∷ []) y (drop count (drop at bytes)),
          append_assoc r.mid (x ++ newline ∷ []) (y ++ drop count (drop at bytes)),
          append_assoc r.prefix (r.mid ++ (x ++ newline ∷ [])) (y ++ drop count (drop at bytes)),
        );
        line_is = grind (arith, length-take-le, length-append);
        at_is = grind (arith, length-take-le, length-append);
        passed = Skipped-append r.prefix (r.mid ++ (x ++ newline ∷ [])) r.passed
            (subst (λ (s : BulkState). Skipped kept (r.mid ++ (x ++ newline ∷ [])) s)
            (bulk_state_after-append kept r.mid (x ++ newline ∷ []) ∙ ap (λ (s : BulkState). bulk_state_after s (x ++ newline ∷ [])) r.leads ∙ there)
            (passed_quiet kept (r.mid ++ (x ++ newline ∷ [])) r.passed.at_line (begins-append r.mid x (after_newline x))
            (HasNoStop-append kept r.mid (x ++ newline ∷ []) r.quiet (subst (λ (s : BulkState). HasNoStop s (x ++ newline ∷ [])) (sym r.leads) parts.0))));
        quiet = subst (λ (s : BulkState). HasNoStop s y) there parts.1;
        no_newline = keeps_one_line y (block_state u) h;
        leads = grind (arith, bulk_state_after-append);
      }

  -- the bytes end on a later line, which is the last one then
  pub block_later : (n : ℕ) → LastLineStarts (take count (drop at bytes)) n → 0 < n → ReadTo start bytes (at + n) (block_state u) (at + count) (inside_state on.now u)
  block_later n h z = later_at n (take n (take count (drop at bytes))) h.begins refl h.one_line h.within z

pub both_there : (l : List ℕ) → take 2 l ≡ star ∷ slash ∷ [] → 2 ≤ length l
both_there l h = grind arith

-- the star pair that closes a block comment
pub block_closed : {start : BulkState} {bytes : List ℕ} {line : ℕ} {kept : BulkState} (at pair : ℕ) (starred u : Bool) → at ≤ pair →
    ReadTo start bytes line kept (at + (pair - at)) (inside_state starred u) → take 2 (drop pair bytes) ≡ star ∷ slash ∷ [] →
    ReadOutside start bytes line kept (pair + 2) u (pair + 2)
block_closed {start} {bytes} {line} {kept} at pair starred u h r e =
    let there : at + (pair - at) ≡ pair = omega (arith, h) in
    let here : ReadTo start bytes line kept pair (inside_state starred u) = subst (λ (n : ℕ). ReadTo start bytes line kept n (inside_state starred u)) there r in
    read_base u (read_on here 2 (star ∷ slash ∷ []) (sym e) (both_there (drop pair bytes) e) (grind arith) (grind arith) (code_state u) (closing starred u))

-- the two bytes that open a block comment
pub block_opened : {start : BulkState} {bytes : List ℕ} {line : ℕ} {kept : BulkState} {at : ℕ} (u : Bool) →
    ReadTo start bytes line kept at (code_state u) → 2 ≤ length (drop at bytes) → slash ∷ star ∷ [] ≡ take 2 (drop at bytes) →
    ReadTo start bytes line kept (at + 2) (block_state u)
block_opened u r h e = read_on r 2 (slash ∷ star ∷ []) e h (refl, (refl, tt)) (refl, (refl, tt)) (block_state u) refl
