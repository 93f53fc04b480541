-- Contexts: lemmas on the changes of a script and the kept lines around them.
use Rattle.std.proofs.Common.{◌≡◌, ℕ, zero, suc, ◌+◌, ◌-◌, ◌*◌, ◌<◌, ◌≤◌, min, true, false, List, [], ◌∷◌, ◌++◌, length, take, drop, get_or, sym, ◌∙◌, ap, subst, inl, inr, ◌⊎◌, arith}
use Rattle.std.proofs.lemmas.Bool.{cases_lt}
use Rattle.std.proofs.lemmas.List.{map-append, length-append, length-map, length-take, length-drop, get_or-take, get_or-drop, get_or_append_left, drop-drop, drop_more}
use Rattle.std.proofs.lemmas.List.Elements.{All-map}
use Rattle.std.proofs.Math.ListN.{get_or-map}
use Rattle.std.proofs.Math.Seq.{take-add}
use Rattle.ud_passes.specs.declared.diff.line.DiffLine.{DiffLine}
use Rattle.ud_passes.specs.diff.Hunks.{SignedLine, is_change}
use Rattle.ud_passes.specs.diff.Contexts.{context, IsKept, AreKept, AreChanges, one, more}
use Rattle.ud_passes.specs.diff.Scripts.{signed, between, gap, BeginsWithChange}

-- The lines of the script from the position `i` up to `j` are kept ones, as far as there are any.
abbrev pub KeptAt : List DiffLine → ℕ → ℕ → Type 0
KeptAt ls i j = (k : ℕ) (d : DiffLine) → i ≤ k → k < j → k < length ls → is_change (get_or ls k d).sign ≡ false

-- A line between two positions.
between_at : (ls : List DiffLine) (i n k : ℕ) (d : DiffLine) → k < n → get_or (take n (drop i ls)) k d ≡ get_or ls (i + k) d
between_at ls i n k d low = get_or-take n (drop i ls) k d low ∙ get_or-drop i ls k d

-- The lines between two positions are no more than the difference.
between_few : (ls : List DiffLine) (i n : ℕ) → length (take n (drop i ls)) ≡ min n (length ls - i)
between_few ls i n = length-take n (drop i ls) ∙ ap (λ (k : ℕ). min n k) (length-drop i ls)

-- The lines between two positions of the script are as many as the difference.
pub length-between : (ls : List DiffLine) (i j : ℕ) → i ≤ j → j ≤ length ls → length (between i j ls) ≡ j - i
length-between ls i j h within = grind (arith, between_few, length-map)

-- Lines that are kept at each position are kept.
pub kept_range : (ls : List DiffLine) (i j : ℕ) → KeptAt ls i j → AreKept (between i j ls)
kept_range ls i j h = All-map IsKept signed (take (j - i) (drop i ls))
    (λ k d within. let here = h (i + k) d in grind (arith, here, between_few, between_at))

-- Lines that are kept are kept at each position.
pub kept_at : (ls : List DiffLine) (i j : ℕ) → AreKept (between i j ls) → KeptAt ls i j
kept_at ls i j h k d low high within =
    let is = get_or-map signed (take (j - i) (drop i ls)) (k - i) d in
    let here = h (k - i) (signed d) in
    grind (arith, is, here, between_few, between_at, length-map)

-- The lines between two positions, parted at a third.
pub between_parts : (ls : List DiffLine) (i j k : ℕ) → i ≤ j → j ≤ k → between i k ls ≡ between i j ls ++ between j k ls
between_parts ls i j k low high = let so_many : k - i ≡ (j - i) + (k - j) = omega arith in
    grind (arith, so_many, take-add, drop-drop, map-append)

-- The line at a position.
pub between_one : (ls : List DiffLine) (i : ℕ) (d : DiffLine) → i < length ls → between i (i + 1) ls ≡ signed (get_or ls i d) ∷ []
between_one ls i d within = grind (arith, drop_more)

-- Changes begin with one.
pub changes_begin : (ls : List SignedLine) → AreChanges ls → (0 < length ls) × ((d : SignedLine) → is_change (get_or ls 0 d).sign ≡ true)
changes_begin _ (one l is) = (omega arith, λ d. is)
changes_begin _ (more ls kept l h are few is) =
    grind (arith, length-append, get_or_append_left, changes_begin ls h)

-- The first of the changes between two positions.
pub changes_begin_at : (ls : List DiffLine) (i j : ℕ) → AreChanges (between i j ls) →
    (i < j) × (i < length ls) × ((d : DiffLine) → is_change (get_or ls i d).sign ≡ true)
changes_begin_at ls i j h =
    let first = changes_begin (between i j ls) h in
    let few = between_few ls i (j - i) in
    let all = length-map (take (j - i) (drop i ls)) signed in (
      omega (arith, first.0, all, few),
      omega (arith, first.0, all, few),
      λ d.
          let at = get_or-map signed (take (j - i) (drop i ls)) 0 d in
          let there = between_at ls i (j - i) 0 d (omega (arith, first.0, all, few)) in
          grind (arith, first.1 (signed d), at, there),
    )

-- Kept lines end before a change.
pub change_far : (ls : List DiffLine) (i j first : ℕ) → KeptAt ls i j → i ≤ first → first < length ls →
    ((d : DiffLine) → is_change (get_or ls first d).sign ≡ true) → j ≤ first
change_far [] i j first kept low within is = absurd (omega arith)
change_far (l ∷ ls) i j first kept low within is =
    let there = kept first l low in grind (arith, there, is l, cases_lt first j)

-- Of the lines up to the position `at`, the changes end at `last`, and few kept lines come since.
pub record ChangesUpto (ls : List DiffLine) (at last : ℕ) : Type 0 where
  pub reached : last ≤ at
  pub near : at ≤ last + 2 * context
  pub kept : KeptAt ls last at
  pub changed : 0 < at → AreChanges (between 0 last ls)

-- A change is one of them.
pub changes_more : (ls : List DiffLine) (at last : ℕ) (d : DiffLine) → at < length ls → is_change (get_or ls at d).sign ≡ true → ChangesUpto ls at last →
    ChangesUpto ls (at + 1) (at + 1)
changes_more ls at last d within is h = record {
  reached = omega arith;
  near = omega arith;
  kept = λ k e low high inside. absurd (omega arith);
  changed = λ some. by_order (cases_lt 0 at);
}
  where
    by_order : (0 < at) ⊎ (at ≤ 0) → AreChanges (between 0 (at + 1) ls)
    by_order (inl later) = let reached = h.reached in
        let near = h.near in
        let few : length (between last at ls) ≡ at - last = length-between ls last at reached (omega arith) in
        subst AreChanges
        (ap (λ (xs : List SignedLine). between 0 last ls ++ (between last at ls ++ xs)) (sym (between_one ls at d within))
        ∙ ap (λ (xs : List SignedLine). between 0 last ls ++ xs) (sym (between_parts ls last at (at + 1) reached (omega arith)))
        ∙ sym (between_parts ls 0 last (at + 1) (omega arith) (omega arith)))
        (more (between 0 last ls) (between last at ls) (signed (get_or ls at d)) (h.changed later) (kept_range ls last at h.kept) (omega arith) is)
    by_order (inr first) = let zero_is : at ≡ 0 = omega arith in
        subst (λ (n : ℕ). AreChanges (between n (at + 1) ls)) zero_is (subst AreChanges (sym (between_one ls at d within)) (one (signed (get_or ls at d)) is))

-- At the end of the lines no gap is needed.
pub changes_end : (ls : List DiffLine) (last : ℕ) → ChangesUpto ls (length ls) last → AreKept (between last (last + gap) ls)
changes_end ls last h = kept_range ls last (last + gap) (λ k d low high within. h.kept k d low within within)

-- Lines from a change on begin with it.
pub begins_at : (ls : List DiffLine) (i : ℕ) → i < length ls → ((d : DiffLine) → is_change (get_or ls i d).sign ≡ true) → BeginsWithChange (drop i ls)
begins_at [] i within h = absurd (omega arith)
begins_at (l ∷ ls) zero within h = h l
begins_at (l ∷ ls) (suc i) within h = begins_at ls i (omega arith) h

-- The lines between two positions from a third one on.
pub between_drop : (ls : List DiffLine) (from i j : ℕ) → between i j (drop from ls) ≡ between (from + i) (from + j) ls
between_drop ls from i j = grind (arith, drop-drop)
