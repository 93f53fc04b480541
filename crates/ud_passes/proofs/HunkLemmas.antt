-- Hunks: lemmas on the hunks of a script.
use Rattle.std.proofs.Common.{◌≡◌, ℕ, suc, ◌+◌, ◌-◌, ◌<◌, ◌≤◌, min, Bool, true, false, cond, List}
use Rattle.std.proofs.Common.{[], ◌∷◌, ◌++◌, length, map, take, drop, Some, None, refl, ◌∙◌, ap}
use Rattle.std.proofs.Common.{ap₂, subst, append_assoc, arith, position}
use Rattle.std.specs.List.{flat_map, count_by}
use Rattle.std.proofs.lemmas.List.{take_rest, length-append, length-drop, length-take, length-take-le, length-map, drop-drop, get_or-drop}
use Rattle.std.proofs.lemmas.List.Elements.{All-map, All-head, All-tail}
use Rattle.std.proofs.lemmas.List.Quantifiers.{position-Some}
use Rattle.std.proofs.lemmas.List.Sums.{length-filter, count_by-le-length, fails_before_first}
use Rattle.std.proofs.Math.Seq.{take-add}
use Rattle.std.proofs.lemmas.Grind.{common_steps}
use Rattle.ud_passes.specs.declared.diff.line.Sign.{Sign}
use Rattle.ud_passes.specs.declared.diff.line.Sign.TheVariants.{Kept}
use Rattle.ud_passes.specs.declared.diff.line.DiffLine.{DiffLine}
use Rattle.ud_passes.specs.diff.Hunks.{SignedLine, Hunk, old_lines, new_lines, is_old, is_new, is_change}
use Rattle.ud_passes.specs.diff.DiffTexts.{ranges_text, signed_text, hunk_text}
use Rattle.ud_passes.specs.diff.Patching.{Turns, stay, change}
use Rattle.ud_passes.specs.diff.Contexts.{context, IsKept, AreKept, AreChanges}
use Rattle.ud_passes.specs.diff.Scripts.{signed, signed_lines, hunk_of, between, gap, IsNextHunk}
use Rattle.ud_passes.proofs.ContextLemmas.{kept_range, between_drop, begins_at, changes_begin_at}
use Rattle.ud_passes.proofs.ScriptLemmas.{side, side-append}

-- Of a line and others that pass a test, as many pass as bytes are taken of.
as_many : (b : Bool) (x : DiffLine) (y : SignedLine) (xs : List DiffLine) (ys : List SignedLine) →
    length xs ≡ length (map (λ (l : SignedLine). l.bytes) ys) →
    length (cond b (x ∷ xs) xs) ≡ length (map (λ (l : SignedLine). l.bytes) (cond b (y ∷ ys) ys))
as_many true x y xs ys h = ap (λ (n : ℕ). suc n) h
as_many false x y xs ys h = h

-- The number of lines of one text.
pub count_is : (is_in : Sign → Bool) (ls : List DiffLine) →
    count_by (λ (l : DiffLine). is_in l.sign) ls ≡ length (side is_in (signed_lines ls))
count_is is_in ls = grind (arith, common_steps, length-filter, side, as_many)

-- If no line is a change, all are kept ones.
pub kept_none : (ls : List DiffLine) → position (λ (l : DiffLine). is_change l.sign) ls ≡ None → AreKept (signed_lines ls)
kept_none ls e = All-map IsKept signed ls (λ k d low.
    let first = fails_before_first (λ (l : DiffLine). is_change l.sign) ls k d in
    grind (arith, e, low, first))

-- If the rest of a slice has no change, all its lines are kept ones.
pub kept_rest : (script : List DiffLine) (from : ℕ) → position (λ (l : DiffLine). is_change l.sign) (take (length script - from) (drop from script)) ≡ None →
    AreKept (signed_lines (drop from script))
kept_rest script from e = subst (λ (xs : List DiffLine). AreKept (signed_lines xs)) (take_rest script from) (kept_none (take (length script - from) (drop from script)) e)

-- The lines up to the first change are kept ones.
kept_before : (script : List DiffLine) (from first : ℕ) → position (λ (l : DiffLine). is_change l.sign) (drop from script) ≡ Some first →
    AreKept (between from (from + first) script)
kept_before script from first e = kept_range script from (from + first)
    (λ k d low high within. let is : DiffLine → Bool = λ l. is_change l.sign in
    let before = (position-Some is (drop from script) first d e).2 (k - from) (omega arith) in
    grind (arith, get_or-drop from script (k - from) d, before))

-- The next hunk, from its first change and the number of lines up to its last one.
next_hunk_is : (script : List DiffLine) (from first n start end : ℕ) → from ≤ length script → position (λ (l : DiffLine). is_change l.sign) (drop from script) ≡ Some first →
    n ≤ length (drop (from + first) script) → AreChanges (between 0 n (drop (from + first) script)) → AreKept (between n (n + gap) (drop (from + first) script)) →
    start ≡ from + (first - context) → end ≡ min (length script) (from + first + n + context) → IsNextHunk script from start end
next_hunk_is script from first n start end inside e within changed later a b =
    let all = length-drop (from + first) script in
    let here : AreChanges (between (from + first) (from + first + n) script) =
    grind (arith, changed, between_drop script (from + first) 0 n) in
    let some = (changes_begin_at script (from + first) (from + first + n) here).1 in record {
      first = from + first;
      last = from + first + n;
      after = omega arith;
      within = omega arith;
      kept = kept_before script from first e;
      changed = here;
      later = grind (arith, later, between_drop script (from + first) n (n + gap));
      starts = a ∙ omega arith;
      ends = b;
    }

-- The next hunk, of the rest of a slice.
pub next_hunk_at : (script : List DiffLine) (from first n start end : ℕ) → from ≤ length script →
    position (λ (l : DiffLine). is_change l.sign) (take (length script - from) (drop from script)) ≡ Some first →
    n ≤ length (take (length (take (length script - from) (drop from script)) - first) (drop first (take (length script - from) (drop from script)))) →
    AreChanges (between 0 n (take (length (take (length script - from) (drop from script)) - first) (drop first (take (length script - from) (drop from script))))) →
    AreKept (between n (n + gap) (take (length (take (length script - from) (drop from script)) - first) (drop first (take (length script - from) (drop from script))))) →
    start ≡ from + (first - context) → end ≡ min (length script) (from + first + n + context) → IsNextHunk script from start end
next_hunk_at script from first n start end inside e within changed later a b =
    grind (arith, next_hunk_is, take_rest, drop-drop)

-- The next hunk, or none.
pub ruleset hunk_steps = (kept_rest, position-Some, begins_at, take_rest, next_hunk_at)

-- The order of the places of the next hunk.
pub record NextPlaces (ls : List DiffLine) (at start first last end : ℕ) : Type 0 where
  pub after : at ≤ start
  pub before : start ≤ first
  pub near : first ≤ start + context
  pub some : first < last
  pub upto : last ≤ end
  pub close : end ≤ last + context
  pub within : end ≤ length ls

pub next_places : (ls : List DiffLine) (at start end : ℕ) (next : IsNextHunk ls at start end) → NextPlaces ls at start next.first next.last end
next_places ls at start end next = grind (arith, changes_begin_at)

-- A hunk is appended by its ranges and its lines.
pub hunk_appended : (o p q : List ℕ) (m n a b : ℕ) (ls : List DiffLine) → p ≡ o ++ ranges_text m a n b → q ≡ p ++ flat_map signed_text (signed_lines ls) →
    a ≡ count_by (λ (l : DiffLine). is_old l.sign) ls → b ≡ count_by (λ (l : DiffLine). is_new l.sign) ls → q ≡ o ++ hunk_text (hunk_of m n ls)
hunk_appended o p q m n a b ls first later old new =
    later ∙ ap (λ (x : List ℕ). x ++ flat_map signed_text (signed_lines ls))
    (first ∙ ap₂ (λ (i j : ℕ). o ++ ranges_text m i n j) (old ∙ count_is is_old ls) (new ∙ count_is is_new ls))
    ∙ append_assoc o (ranges_text m (length (old_lines (signed_lines ls))) n (length (new_lines (signed_lines ls)))) (flat_map signed_text (signed_lines ls))

-- The bytes of the lines.
abbrev bytes_of : List DiffLine → List (List ℕ)
bytes_of ls = map (λ (l : DiffLine). l.bytes.now) ls

-- Kept lines are all in both texts.
kept_side : (is_in : Sign → Bool) → is_in Kept ≡ true → (ls : List DiffLine) →
    AreKept (signed_lines ls) → side is_in (signed_lines ls) ≡ bytes_of ls
kept_side is_in is [] h = refl
kept_side is_in is (l ∷ ls) h =
    (grind (arith, is, All-head IsKept (signed l) (signed_lines ls) h))
    ∙ ap (λ (xs : List (List ℕ)). l.bytes.now ∷ xs) (kept_side is_in is ls (All-tail IsKept (signed l) (signed_lines ls) h))

-- Hunks that turn some lines turn them with kept lines after them.
pub turns_kept : (hunks : List Hunk) (xs ys : List DiffLine) → AreKept (signed_lines ys) → Turns hunks (old_lines (signed_lines xs)) (new_lines (signed_lines xs)) →
    Turns hunks (old_lines (signed_lines (xs ++ ys))) (new_lines (signed_lines (xs ++ ys)))
turns_kept hunks xs ys kept t =
    let more = stay hunks (old_lines (signed_lines xs)) (new_lines (signed_lines xs)) _ t in
    let old = side-append is_old xs ys in let new = side-append is_new xs ys in
    rw (old, new, kept_side is_old refl ys kept, kept_side is_new refl ys kept) more

-- Hunks that turn some lines, and a hunk of further lines, turn them all.
pub turns_changed : (hunks : List Hunk) (m n : ℕ) (xs ys : List DiffLine) → m ≡ length (old_lines (signed_lines xs)) → n ≡ length (new_lines (signed_lines xs)) →
    Turns hunks (old_lines (signed_lines xs)) (new_lines (signed_lines xs)) →
    Turns (hunks ++ hunk_of m n ys ∷ []) (old_lines (signed_lines (xs ++ ys))) (new_lines (signed_lines (xs ++ ys)))
turns_changed hunks m n xs ys a b t =
    rw (side-append is_old xs ys, side-append is_new xs ys)
    (change hunks (old_lines (signed_lines xs)) (new_lines (signed_lines xs)) (hunk_of m n ys) t a b)

-- Kept lines are as many in both texts.
pub kept_length : (is_in : Sign → Bool) → is_in Kept ≡ true → (xs ys : List DiffLine) →
    AreKept (signed_lines ys) →
    length (side is_in (signed_lines (xs ++ ys))) ≡ length (side is_in (signed_lines xs)) + length ys
kept_length is_in is xs ys kept =
    grind (arith, side-append, length-append, side, kept_side, length-map)

-- The lines up to a later position.
pub upto_later : (ls : List DiffLine) (i j : ℕ) → i ≤ j → take j ls ≡ take i ls ++ take (j - i) (drop i ls)
upto_later ls i j h = let so_many : j ≡ i + (j - i) = omega arith in ap (λ (n : ℕ). take n ls) so_many ∙ take-add i (j - i) ls

-- The number of lines between two positions.
pub taken_length : (ls : List DiffLine) (i j : ℕ) → i ≤ j → j ≤ length ls → length (take (j - i) (drop i ls)) ≡ j - i
taken_length ls i j h within = let all : length (drop i ls) ≡ length ls - i = length-drop i ls in length-take-le (j - i) (drop i ls) (omega arith)

-- The number of lines after a hunk.
pub counted : (is_in : Sign → Bool) (ls : List DiffLine) (start end : ℕ) → start ≤ end →
    length (side is_in (signed_lines (take end ls))) ≡
    length (side is_in (signed_lines (take start ls))) + count_by (λ (l : DiffLine). is_in l.sign) (take (end - start) (drop start ls))
counted is_in ls start end h =
    let all = count_is is_in (take (end - start) (drop start ls)) in
    grind (arith, upto_later ls start end h, side-append, length-append, all)

-- No more lines are taken than that.
pub taken_few : (ls : List DiffLine) (n : ℕ) → length (take n ls) ≤ n
taken_few ls n = omega (arith, length-take n ls)

-- No more lines are in one text than there are.
pub side_few : (is_in : Sign → Bool) (ls : List DiffLine) (n : ℕ) →
    length (side is_in (signed_lines (take n ls))) ≤ n
side_few is_in ls n = grind (arith, count_by-le-length, taken_few, count_is)

-- A number of lines of one text up to a position is at most that.
pub upto_few : (is_in : Sign → Bool) (ls : List DiffLine) (at n : ℕ) →
    n ≡ length (side is_in (signed_lines (take at ls))) → n ≤ at
upto_few is_in ls at n e = omega (arith, e, side_few is_in ls at)
