-- Hunks so far: lemmas on the hunks of the lines up to a position of the script.
use Rattle.std.proofs.Common.{◌≡◌, ℕ, Bool, true, ◌+◌, ◌-◌, ◌<◌, ◌≤◌, List, [], ◌∷◌, ◌++◌, length}
use Rattle.std.proofs.Common.{take, drop, get_or, refl, sym, ◌∙◌, ap, ap₂, subst, append-nil, arith}
use Rattle.std.specs.List.{flat_map, count_by, All, AllPairs}
use Rattle.std.proofs.lemmas.Bool.{cases_lt}
use Rattle.std.proofs.lemmas.List.{take-append-drop, take_all, flat_map_more}
use Rattle.std.proofs.lemmas.List.Elements.{All-push}
use Rattle.std.proofs.lemmas.List.Quantifiers.{all_pairs_push}
use Rattle.ud_passes.specs.declared.diff.line.Sign.{Sign}
use Rattle.ud_passes.specs.declared.diff.line.Sign.TheVariants.{Kept}
use Rattle.ud_passes.specs.declared.diff.line.DiffLine.{DiffLine}
use Rattle.ud_passes.specs.diff.Hunks.{SignedLine, Hunk, old_lines, new_lines, is_old, is_new}
use Rattle.ud_passes.specs.diff.DiffTexts.{hunk_text}
use Rattle.ud_passes.specs.diff.Contexts.{context, AreKept, IsContext, HasContext, BeginsTexts, EndsTexts, old_end, new_end, IsBefore}
use Rattle.ud_passes.specs.diff.Patching.{Turns, nothing}
use Rattle.ud_passes.specs.diff.Scripts.{signed_lines, hunk_of, AppendsHunks, between, gap, IsNextHunk}
use Rattle.ud_passes.proofs.ContextLemmas.{kept_at, kept_range, length-between, between_parts, changes_begin_at, change_far}
use Rattle.ud_passes.proofs.ScriptLemmas.{side}
use Rattle.ud_passes.proofs.HunkLemmas.{NextPlaces, next_places, turns_kept, turns_changed, kept_length, upto_later, taken_length, counted, side_few, count_is}

-- `upto is_in ls i`: how many lines of one text are before the position `i` of the script.
abbrev pub upto : (Sign → Bool) → List DiffLine → ℕ → ℕ
upto is_in ls i = length (side is_in (signed_lines (take i ls)))

-- The lines before the next hunk are kept ones.
kept_skipped : (ls : List DiffLine) (at start end : ℕ) → IsNextHunk ls at start end → AreKept (between at start ls)
kept_skipped ls at start end next =
    let places : NextPlaces ls at start next.first next.last end = next_places ls at start end next in
    kept_range ls at start (λ k d low high within. kept_at ls at next.first next.kept k d low (omega arith) within)

-- The number of lines up to where the next hunk begins.
skipped : (is_in : Sign → Bool) → is_in Kept ≡ true → (ls : List DiffLine) (at start end : ℕ) →
    IsNextHunk ls at start end → upto is_in ls start ≡ upto is_in ls at + (start - at)
skipped is_in is ls at start end next =
    let places : NextPlaces ls at start next.first next.last end = next_places ls at start end next in
    ap (λ (xs : List DiffLine). length (side is_in (signed_lines xs))) (upto_later ls at start places.after)
    ∙ kept_length is_in is (take at ls) (take (start - at) (drop at ls)) (kept_skipped ls at start end next)
    ∙ ap (λ (n : ℕ). upto is_in ls at + n) (taken_length ls at start places.after (omega arith))

-- The number of lines of one text after the next hunk.
pub after_hunk : (is_in : Sign → Bool) → is_in Kept ≡ true →
    (ls : List DiffLine) (at start end m k : ℕ) → IsNextHunk ls at start end →
    m ≡ upto is_in ls at →
    k ≡ count_by (λ (l : DiffLine). is_in l.sign) (take (end - start) (drop start ls)) → m + (start - at) + k ≡ upto is_in ls end
after_hunk is_in is ls at start end m k next a b =
    let places : NextPlaces ls at start next.first next.last end = next_places ls at start end next in
    ap₂ (λ (x y : ℕ). x + y) (ap (λ (x : ℕ). x + (start - at)) a ∙ sym (skipped is_in is ls at start end next)) b ∙ sym (counted is_in ls start end (omega arith))

-- The next hunk ends there in each text.
ends_at : (is_in : Sign → Bool) → is_in Kept ≡ true → (ls : List DiffLine) (at start end m : ℕ) →
    IsNextHunk ls at start end → m ≡ upto is_in ls at + (start - at) →
    m + length (side is_in (between start end ls)) ≡ upto is_in ls end
ends_at is_in is ls at start end m next a =
    ap (λ (k : ℕ). k + length (side is_in (between start end ls))) a
    ∙ after_hunk is_in is ls at start end (upto is_in ls at) (length (side is_in (between start end ls))) next refl (sym (count_is is_in (take (end - start) (drop start ls))))

-- More lines have come at a later position.
upto_more : (is_in : Sign → Bool) (ls : List DiffLine) (i j : ℕ) → i ≤ j →
    upto is_in ls i ≤ upto is_in ls j
upto_more is_in ls i j h = omega (arith, counted is_in ls i j h)

-- The hunk `h` ends before the position `at` of the script.
abbrev HasPassed : List DiffLine → ℕ → Hunk → Type 0
HasPassed ls at h = (0 < at) × (old_end h ≤ upto is_old ls at) × (new_end h ≤ upto is_new ls at)

-- After the last hunk is a line of its own, before the next context.
abbrev IsClear : List DiffLine → ℕ → Type 0
IsClear ls at = 0 < at → AreKept (between at (at + context + 1) ls)

-- The printed form of hunks is appended to the bytes `o`, which are then `p`. They are the hunks of
-- the lines up to the position `at`.
pub record HunksUpto (ls : List DiffLine) (at : ℕ) (o p : List ℕ) : Type 0 where
  pub hunks : List Hunk
  pub printed : p ≡ o ++ flat_map hunk_text hunks
  pub turns : Turns hunks (old_lines (signed_lines (take at ls))) (new_lines (signed_lines (take at ls)))
  pub in_context : All (HasContext (old_lines (signed_lines ls)) (new_lines (signed_lines ls))) hunks
  pub apart : AllPairs IsBefore hunks
  pub passed : All (HasPassed ls at) hunks
  pub clear : IsClear ls at

-- Before the first line there is no hunk.
pub hunks_none : (ls : List DiffLine) (bytes : List ℕ) → HunksUpto ls 0 bytes bytes
hunks_none ls bytes = record {
  hunks = [];
  printed = sym (append-nil bytes);
  turns = nothing;
  in_context = λ k d within. absurd (omega arith);
  apart = λ i j d low within. absurd (omega arith);
  passed = λ k d within. absurd (omega arith);
  clear = λ some. absurd (omega arith);
}

-- After a hunk, the next changes are far.
changes_far : (ls : List DiffLine) (at start end : ℕ) → (next : IsNextHunk ls at start end) → IsClear ls at → 0 < at → at + context + 1 ≤ next.first
changes_far ls at start end next clear some =
    let first = changes_begin_at ls next.first next.last next.changed in
    change_far ls at (at + context + 1) next.first (kept_at ls at (at + context + 1) (clear some)) next.after first.1 first.2

-- The context before the changes of the next hunk.
begins_in_context : (ls : List DiffLine) (at start end m n : ℕ) (next : IsNextHunk ls at start end) → IsClear ls at →
    m ≡ upto is_old ls at + (start - at) → n ≡ upto is_new ls at + (start - at) →
    IsContext (between start next.first ls) (BeginsTexts (hunk_of m n (take (end - start) (drop start ls))))
begins_in_context ls at start end m n next clear a b =
    let places : NextPlaces ls at start next.first next.last end = next_places ls at start end next in
    let within = next.within in
    let starts = next.starts in
    let all : length (between start next.first ls) ≡ next.first - start =
    length-between ls start next.first places.before (omega arith) in
    let far = changes_far ls at start end next clear in record {
      kept = kept_range ls start next.first (λ k d low high inside. kept_at ls at next.first next.kept k d (omega arith) high inside);
      few = omega arith;
      fewer = λ short. grind (arith, cases_lt 0 at, far, side_few);
    }

-- The context after the changes of the next hunk.
ends_in_context : (ls : List DiffLine) (at start end m n : ℕ) (next : IsNextHunk ls at start end) →
    m ≡ upto is_old ls at + (start - at) → n ≡ upto is_new ls at + (start - at) →
    IsContext (between next.last end ls) (EndsTexts (old_lines (signed_lines ls)) (new_lines (signed_lines ls)) (hunk_of m n (take (end - start) (drop start ls))))
ends_in_context ls at start end m n next a b =
    let places : NextPlaces ls at start next.first next.last end = next_places ls at start end next in
    let all = length-between ls next.last end places.upto places.within in record {
      kept = kept_range ls next.last end (λ k d low high inside. kept_at ls next.last (next.last + gap) next.later k d low (omega arith) inside);
      few = omega arith;
      fewer = λ short. let ends = next.ends in let last : length ls ≤ end = omega arith in
          let whole : take end ls ≡ ls = take_all end ls last in (
            ends_at is_old refl ls at start end m next a ∙ ap (λ (xs : List DiffLine). length (old_lines (signed_lines xs))) whole,
            ends_at is_new refl ls at start end n next b ∙ ap (λ (xs : List DiffLine). length (new_lines (signed_lines xs))) whole,
          );
    }

-- The next hunk has a context.
has_context : (ls : List DiffLine) (at start end m n : ℕ) → IsNextHunk ls at start end → IsClear ls at →
    m ≡ upto is_old ls at + (start - at) → n ≡ upto is_new ls at + (start - at) →
    HasContext (old_lines (signed_lines ls)) (new_lines (signed_lines ls)) (hunk_of m n (take (end - start) (drop start ls)))
has_context ls at start end m n next clear a b =
    let places : NextPlaces ls at start next.first next.last end = next_places ls at start end next in record {
      before = between start next.first ls;
      changes = between next.first next.last ls;
      after = between next.last end ls;
      lines_are = between_parts ls start next.first end places.before (omega arith)
          ∙ ap (λ (xs : List SignedLine). between start next.first ls ++ xs) (between_parts ls next.first next.last end (omega arith) places.upto);
      changed = next.changed;
      begins = begins_in_context ls at start end m n next clear a b;
      ends = ends_in_context ls at start end m n next a b;
    }

-- The hunks so far are before the next one.
passed_before : (ls : List DiffLine) (at start end m n : ℕ) (h : Hunk) → IsNextHunk ls at start end → IsClear ls at →
    m ≡ upto is_old ls at + (start - at) → n ≡ upto is_new ls at + (start - at) → HasPassed ls at h →
    IsBefore h (hunk_of m n (take (end - start) (drop start ls)))
passed_before ls at start end m n h next clear a b passed =
    let far : at + context + 1 ≤ next.first = changes_far ls at start end next clear passed.0 in
    let starts = next.starts in
    let old = passed.1 in
    let new = passed.2 in (omega arith, omega arith)

-- A line is clear after the next hunk.
clear_after : (ls : List DiffLine) (at start end : ℕ) → IsNextHunk ls at start end → IsClear ls end
clear_after ls at start end next some = let ends = next.ends in
    kept_range ls end (end + context + 1) (λ k d low high inside. kept_at ls next.last (next.last + gap) next.later k d (omega arith) (omega arith) inside)

-- The hunks so far, and the next one, which is appended with the numbers of lines before it.
pub hunks_more : (ls : List DiffLine) (at start end m n : ℕ) (o p q : List ℕ) → IsNextHunk ls at start end → HunksUpto ls at o p →
    m ≡ upto is_old ls at + (start - at) → n ≡ upto is_new ls at + (start - at) →
    q ≡ p ++ hunk_text (hunk_of m n (take (end - start) (drop start ls))) → HunksUpto ls end o q
hunks_more ls at start end m n o p q next h a b e =
    let places : NextPlaces ls at start next.first next.last end = next_places ls at start end next in
    let hunk : Hunk = hunk_of m n (take (end - start) (drop start ls)) in
    let before : Turns h.hunks (old_lines (signed_lines (take start ls))) (new_lines (signed_lines (take start ls))) =
    subst (λ (xs : List DiffLine). Turns h.hunks (old_lines (signed_lines xs)) (new_lines (signed_lines xs))) (sym (upto_later ls at start places.after))
    (turns_kept h.hunks (take at ls) (take (start - at) (drop at ls)) (kept_skipped ls at start end next) h.turns) in record {
      hunks = h.hunks ++ hunk ∷ [];
      printed = e ∙ ap (λ (x : List ℕ). x ++ hunk_text hunk) h.printed ∙ flat_map_more hunk_text o h.hunks hunk;
      turns = subst (λ (xs : List DiffLine). Turns (h.hunks ++ hunk ∷ []) (old_lines (signed_lines xs)) (new_lines (signed_lines xs)))
          (sym (upto_later ls start end (omega arith)))
          (turns_changed h.hunks m n (take start ls) (take (end - start) (drop start ls)) (a ∙ sym (skipped is_old refl ls at start end next))
          (b ∙ sym (skipped is_new refl ls at start end next)) before);
      in_context = All-push (HasContext (old_lines (signed_lines ls)) (new_lines (signed_lines ls))) h.hunks hunk h.in_context
          (has_context ls at start end m n next h.clear a b);
      apart = all_pairs_push IsBefore h.hunks hunk h.apart
          (λ k d inside. passed_before ls at start end m n (get_or h.hunks k d) next h.clear a b (h.passed k d inside));
      passed = All-push (HasPassed ls end) h.hunks hunk
          (λ k d inside. let was = h.passed k d inside in let old = was.1 in let new = was.2 in
          let more_old : upto is_old ls at ≤ upto is_old ls end = upto_more is_old ls at end (omega arith) in
          let more_new : upto is_new ls at ≤ upto is_new ls end = upto_more is_new ls at end (omega arith) in (omega arith, omega arith, omega arith))
          (let old : old_end hunk ≡ upto is_old ls end = ends_at is_old refl ls at start end m next a in
          let new : new_end hunk ≡ upto is_new ls end = ends_at is_new refl ls at start end n next b in (omega arith, omega arith, omega arith));
      clear = clear_after ls at start end next;
    }

-- Kept lines up to the end need no other hunk.
pub hunks_all : (ls : List DiffLine) (at : ℕ) (o p : List ℕ) → AreKept (signed_lines (drop at ls)) → HunksUpto ls at o p → AppendsHunks (signed_lines ls) o p
hunks_all ls at o p kept h = record {
  hunks = h.hunks;
  printed = h.printed;
  turns = subst (λ (xs : List DiffLine). Turns h.hunks (old_lines (signed_lines xs)) (new_lines (signed_lines xs))) (take-append-drop at ls)
      (turns_kept h.hunks (take at ls) (drop at ls) kept h.turns);
  in_context = h.in_context;
  apart = h.apart;
}
