-- Places: a pattern matches a name exactly if what follows its first parts matches the rest.
use Rattle.std.proofs.Common.{◌≡◌, ◌∙◌, ℕ, ◌<◌, ◌≤◌, List, [], ◌∷◌, ◌++◌, length, Bool, true, false, Some, None, refl, sym, ap, subst, arith, append_assoc}
use Rattle.std.specs.Prelude.{◌↔◌}
use Rattle.ud_tree.specs.Patterns.{after_part, Matches, at_end, star, part}
use Rattle.ud_tree.specs.PatternPlaces.{Parts, no_part, then_part, Reaches, IsShorter, StopsAt}
use Rattle.ud_tree.specs.declared.patterns.matching.Progress.{Progress}
use Rattle.ud_tree.specs.declared.patterns.matching.Progress.TheVariants.{Ended}
use Rattle.ud_tree.proofs.PatternPartLemmas.{part_alike, part_shorter}

-- A pattern whose first part matches a byte matches a name by its rest.
part_matches : (q : List ℕ) (b : ℕ) (r name : List ℕ) → after_part q b ≡ Some r → Matches q name →
    (c : ℕ) × (ms : List ℕ) × (name ≡ c ∷ ms) × Matches r ms
part_matches _ b r _ e at_end = absurd cc
part_matches _ b r name e (star bytes rest is m) = absurd cc
part_matches q b r _ e (part {name = ms} c after is m) = (c, ms, refl, subst (λ (x : List ℕ). Matches x ms) (part_alike q c b after r is e) m)

-- One byte less.
tail_is : {c d : ℕ} {xs ys : List ℕ} → (c ∷ xs) ≡ (d ∷ ys) → xs ≡ ys
tail_is e = cc

pub parts_match : {p n q m : List ℕ} → Parts p n q m → Matches p n → Matches q m
parts_match no_part h = h
parts_match (then_part {before = q} {after = r} {rest = ms} b steps is) h =
    grind (arith, part_matches, tail_is, parts_match steps h)

pub match_parts : {p n q m : List ℕ} → Parts p n q m → Matches q m → Matches p n
match_parts no_part h = h
match_parts (then_part {after = r} b steps is) h = match_parts steps (part b r is h)

-- The pattern matches some end of the bytes.
abbrev Somewhere : List ℕ → List ℕ → Type 0
Somewhere p n = (bytes : List ℕ) × (rest : List ℕ) × (n ≡ bytes ++ rest) × Matches p rest

later_end : (b c : ℕ) (ms bytes rest : List ℕ) → (b ∷ ms) ≡ bytes ++ (c ∷ rest) → (front : List ℕ) × (ms ≡ front ++ rest)
later_end b c ms [] rest e = ([], tail_is e)
later_end b c ms (d ∷ bytes) rest e = (bytes ++ c ∷ [], tail_is e ∙ sym (append_assoc bytes (c ∷ []) rest))

-- Parts that match at one place leave more of the name than at a later place.
somewhere_after : {p n q m : List ℕ} → Parts p n q m → Somewhere p n → Somewhere q m
somewhere_after no_part h = h
somewhere_after (then_part {before = q} {after = r} {rest = ms} b steps is) h =
    grind (arith, part_matches, later_end, somewhere_after steps h)

-- A `*` matches some first bytes, and the pattern after it the rest.
somewhere_of : (p n : List ℕ) → Matches (42 ∷ p) n → Somewhere p n
somewhere_of p n h = grind arith

-- After the parts up to the next `*`, only that one counts.
pub star_on : {p n : List ℕ} (q m : List ℕ) → Parts p n (42 ∷ q) m → Matches (42 ∷ p) n → Matches (42 ∷ q) m
star_on {p = p} {n = n} q m steps h = let here = somewhere_after steps (somewhere_of p n h) in
    let there = somewhere_of q here.1 here.3 in
    star (here.0 ++ there.0) there.1 (here.2 ∙ ap (λ (x : List ℕ). here.0 ++ x) there.2 ∙ sym (append_assoc here.0 there.0 there.1)) there.3

pub star_back : {p n : List ℕ} (q m : List ℕ) → Parts p n (42 ∷ q) m → Matches (42 ∷ q) m → Matches (42 ∷ p) n
star_back {n = n} q m steps h = star [] n refl (match_parts steps h)

-- The `*` before a pattern that doesn't match takes one byte more.
pub star_more : (p : List ℕ) (b : ℕ) (n : List ℕ) → ¬ (Matches p (b ∷ n)) → Matches (42 ∷ p) (b ∷ n) → Matches (42 ∷ p) n
star_more p b n never h = by_bytes (somewhere_of p (b ∷ n) h)
  where
    by_front : (bytes rest : List ℕ) → (b ∷ n) ≡ bytes ++ rest → Matches p rest → Matches (42 ∷ p) n
    by_front [] rest e m = absurd (never (subst (λ (x : List ℕ). Matches p x) (sym e) m))
    by_front (c ∷ bytes) rest e m = star bytes rest (tail_is e) m

    by_bytes : Somewhere p (b ∷ n) → Matches (42 ∷ p) n
    by_bytes s = by_front s.0 s.1 s.2 s.3

pub star_less : (p : List ℕ) (b : ℕ) (n : List ℕ) → Matches (42 ∷ p) n → Matches (42 ∷ p) (b ∷ n)
star_less p b n h = let s = somewhere_of p n h in
    star (b ∷ s.0) s.1 (ap (λ (x : List ℕ). b ∷ x) s.2) s.3

-- No part of the pattern matches the first byte of the name, if there is one.
abbrev pub NoPart : List ℕ → List ℕ → Type 0
NoPart q [] = Unit {0}
NoPart q (b ∷ m) = after_part q b ≡ None

ended_as : (q m : List ℕ) (whole : Bool) → NoPart q m → StopsAt q m (Ended whole) → (whole ≡ true) ↔ Matches q m
ended_as [] [] whole none h = (λ e. at_end, λ m. h)
ended_as [] (b ∷ m) whole none h = (λ e. absurd cc, no_match)
  where
    no_match : Matches [] (b ∷ m) → whole ≡ true
    no_match (part c after is k) = absurd cc
ended_as (c ∷ q) m whole none h = (λ e. let wrong : true ≡ false = sym e ∙ h.0 in absurd cc, λ k. absurd (no_match c q m h.1 none k))
  where
    no_match : (c : ℕ) (q m : List ℕ) → ¬ (c ≡ 42) → NoPart (c ∷ q) m → Matches (c ∷ q) m → ⊥
    no_match _ q m other none (star bytes rest is k) = other refl
    no_match c q _ other none (part b after is k) = cc

parts_shorter : {p n q m : List ℕ} → Parts p n q m → (length q ≤ length p) × (length m ≤ length n)
parts_shorter no_part = (omega arith, omega arith)
parts_shorter (then_part {before = q} {after = r} {rest = ms} b steps is) =
    grind (arith, part_shorter, parts_shorter steps)

-- The parts match up to a place where none does.
pub reached : {p n : List ℕ} (q m : List ℕ) (at : Progress) → Parts p n q m → NoPart q m → StopsAt q m at → Reaches p n at
reached q m at steps none h = grind (arith, ended_as, match_parts, parts_match)

less_than : (c : ℕ) (q p : List ℕ) → length (c ∷ q) ≤ length p → length q < length p
less_than c q p h = omega arith

pub shorter : {p n : List ℕ} (q m : List ℕ) (at : Progress) → Parts p n q m → StopsAt q m at → IsShorter p n at
shorter q m at steps h = grind (arith, parts_shorter, less_than)
