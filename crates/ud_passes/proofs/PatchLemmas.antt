-- Patching: hunks that turn lines into others make these of them, and turned round the first ones.
use Rattle.std.proofs.Common.{◌≡◌, ℕ, ◌+◌, ◌-◌, List, [], ◌∷◌, ◌++◌, length, map, Some, refl, ◌∙◌}
use Rattle.std.proofs.Common.{ap, append_assoc, append-nil, arith, leb}
use Rattle.std.proofs.lemmas.Bool.{le-leb, and_from}
use Rattle.std.proofs.lemmas.List.{map-append, length-append, take_at, drop_at}
use Rattle.std.proofs.lemmas.Slice.Eq.{bytes_eq-Decides}
use Rattle.ud_passes.specs.diff.Hunks.{SignedLine, Hunk, old_lines, new_lines, turned_line, turned}
use Rattle.ud_passes.specs.diff.DiffTexts.{names_text}
use Rattle.ud_passes.specs.diff.Patching.{rest_after, patched_from, patched, Turns, nothing, stay, change, IsDiff}
use Rattle.ud_passes.specs.diff.Scripts.{IsScript, AppendsHunks}

-- The hunks, applied to the lines `old`, before which `m` lines come, give the lines `new`, before
-- which `n` come.
data TurnsFrom : ℕ → ℕ → List Hunk → List (List ℕ) → List (List ℕ) → Type 0 where
  done : (m n : ℕ) (ls : List (List ℕ)) → TurnsFrom m n [] ls ls
  next : (m n : ℕ) (h : Hunk) (hunks : List Hunk) (ls old new : List (List ℕ)) → h.old_before ≡ m + length ls → h.new_before ≡ n + length ls →
      TurnsFrom (h.old_before + length (old_lines h.lines)) (h.new_before + length (new_lines h.lines)) hunks old new →
      TurnsFrom m n (h ∷ hunks) (ls ++ (old_lines h.lines ++ old)) (ls ++ (new_lines h.lines ++ new))

-- Lines that stay may come before.
turns_after : (a b : ℕ) (hunks : List Hunk) (o w : List (List ℕ)) → TurnsFrom a b hunks o w → (m n : ℕ) (ls : List (List ℕ)) →
    a ≡ m + length ls → b ≡ n + length ls → TurnsFrom m n hunks (ls ++ o) (ls ++ w)
turns_after _ _ _ _ _ (done a b ls0) m n ls e f = done m n (ls ++ ls0)
turns_after _ _ _ _ _ (next a b h hunks ls0 old new p q r) m n ls e f =
    let all = length-append ls ls0 in
    let on = next m n h hunks (ls ++ ls0) old new (omega arith) (omega arith) r in
    grind (arith, on, append_assoc)

-- Hunks that turn all lines so far, and then others.
turns_then : (hunks : List Hunk) (old new : List (List ℕ)) → Turns hunks old new → (ks : List Hunk) (o w : List (List ℕ)) →
    TurnsFrom (length old) (length new) ks o w → TurnsFrom 0 0 (hunks ++ ks) (old ++ o) (new ++ w)
turns_then _ _ _ nothing ks o w r = r
turns_then _ _ _ (stay hunks old new ls t) ks o w r =
    let more = turns_then hunks old new t ks (ls ++ o) (ls ++ w) in
    let after = turns_after (length (old ++ ls)) (length (new ++ ls)) ks o w r (length old)
    (length new) ls in
    grind (arith, append_assoc, length-append, more, after)
turns_then _ _ _ (change hunks old new h t a b) ks o w r =
    let here = next (length old) (length new) h ks [] o w (omega arith) (omega arith)
    (grind (arith, length-append, r)) in
    let more = turns_then hunks old new t (h ∷ ks) (old_lines h.lines ++ o)
    (new_lines h.lines ++ w) here in
    grind (arith, append_assoc, more)

-- Lines that begin with the wanted ones have these others after them.
rest_after_at : (ws rest : List (List ℕ)) → rest_after ws (ws ++ rest) ≡ Some rest
rest_after_at [] rest = refl
rest_after_at (w ∷ ws) rest = grind (arith, bytes_eq-Decides, rest_after_at ws rest)

-- Hunks that turn lines into others make these of them.
makes : (m n : ℕ) (hunks : List Hunk) (old new : List (List ℕ)) → TurnsFrom m n hunks old new → patched_from m hunks old ≡ Some new
makes _ _ _ _ _ (done m n ls) = refl
makes _ _ _ _ _ (next m n h hunks ls old new a b r) =
    let so_many : length ls ≡ h.old_before - m = omega arith in
    let all = length-append ls (old_lines h.lines ++ old) in
    grind (arith, and_from (leb m h.old_before) (leb (h.old_before - m) (length (ls ++ (old_lines h.lines ++ old)))) (le-leb m h.old_before (omega arith)) (le-leb (h.old_before - m) (length (ls ++ (old_lines h.lines ++ old))) (omega arith)), take_at ls (old_lines h.lines ++ old) (h.old_before - m) so_many, ap (rest_after (old_lines h.lines)) (drop_at ls (old_lines h.lines ++ old) (h.old_before - m) so_many) ∙ rest_after_at (old_lines h.lines) old, makes (h.old_before + length (old_lines h.lines)) (h.new_before + length (new_lines h.lines)) hunks old new r)

-- Hunks that turn a text into another one make that of it.
turns_makes : (hunks : List Hunk) (old new : List (List ℕ)) → Turns hunks old new → patched hunks old ≡ Some new
turns_makes hunks old new t =
    let turn = turns_then hunks old new t [] [] [] (done (length old) (length new) []) in
    grind (arith, append-nil, makes, turn)

-- The lines of one text in a turned hunk are those of the other one.
turned_old : (ls : List SignedLine) → old_lines (map turned_line ls) ≡ new_lines ls
turned_old [] = refl
turned_old (l ∷ ls) = grind (arith, turned_old ls)

turned_new : (ls : List SignedLine) → new_lines (map turned_line ls) ≡ old_lines ls
turned_new [] = refl
turned_new (l ∷ ls) = grind (arith, turned_new ls)

-- Turned hunks turn the new text into the old one.
turns_back : (hunks : List Hunk) (old new : List (List ℕ)) → Turns hunks old new → Turns (map turned hunks) new old
turns_back _ _ _ nothing = nothing
turns_back _ _ _ (stay hunks old new ls t) =
    stay (map turned hunks) new old ls (turns_back hunks old new t)
turns_back _ _ _ (change hunks old new h t a b) =
    let back = change (map turned hunks) new old (turned h) (turns_back hunks old new t) b a in
    grind (arith, back, map-append, turned_old, turned_new)

-- The names and the hunks of a script of two texts are a diff of them.
pub diff_is : (path old new bytes : List ℕ) (lines : List SignedLine) → IsScript old new lines → AppendsHunks lines (names_text path) bytes → IsDiff path old new bytes
diff_is path old new bytes lines script h = grind (arith, turns_makes, turns_back)
