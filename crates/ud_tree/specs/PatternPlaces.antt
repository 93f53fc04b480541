-- PatternPlaces: how far the parts of a pattern have matched the bytes of a name.
--
--   as_test set         whether a set has a byte, as a value of the definitions
--   Parts pattern name after rest   the first parts match the first bytes of the name
--   Reaches pattern name progress   they match up to a `*`, or the pattern matches or doesn't
--   IsShorter pattern name progress   what follows is shorter
--   StopsAt pattern name progress   how a pattern continues if no part matches
use Rattle.std.specs.Prelude.{◌≡◌, ℕ, ◌<◌, ◌≤◌, List, [], ◌∷◌, length, true, false, Some, ◌↔◌}
use Rattle.ud_tree.specs.Patterns.{SetTest, after_part, Matches}
use Rattle.ud_tree.specs.declared.patterns.parts.SetTest.{SetTest as Found}
use Rattle.ud_tree.specs.declared.patterns.matching.Progress.{Progress}
use Rattle.ud_tree.specs.declared.patterns.matching.Progress.TheVariants.{Ended, Star}

-- `as_test set`: the code's test of a set, as a value of the definitions.
abbrev pub as_test : Found → SetTest
as_test set = record { has = set.has; after = set.after.now }

-- `Parts pattern name after rest`: the first parts of the pattern match the first bytes of the
-- name, one byte each. `after` and `rest` are what follows.
pub data Parts (pattern name : List ℕ) : List ℕ → List ℕ → Type 0 where
  no_part : Parts pattern name pattern name
  then_part : {before after rest : List ℕ} (b : ℕ) → Parts pattern name before (b ∷ rest) →
      after_part before b ≡ Some after → Parts pattern name after rest

-- `Reaches pattern name progress`: the parts up to a `*` match, and what follows is kept. Or they
-- reach no `*`, and whether the pattern matches the name is known.
abbrev pub Reaches : List ℕ → List ℕ → Progress → Type 0
Reaches pattern name (Ended whole) = (whole ≡ true) ↔ Matches pattern name
Reaches pattern name (Star after rest) = Parts pattern name (42 ∷ after.now) rest.now

-- `IsShorter pattern name progress`: after a reached `*`, the rest of the pattern is shorter than
-- the pattern, and the rest of the name no longer than the name.
abbrev pub IsShorter : List ℕ → List ℕ → Progress → Type 0
IsShorter pattern name (Ended whole) = Unit {0}
IsShorter pattern name (Star after rest) =
    (length after.now < length pattern) × (length rest.now ≤ length name)

-- `StopsAt pattern name progress`: the pattern begins with a `*`, or both have ended, or neither.
abbrev pub StopsAt : List ℕ → List ℕ → Progress → Type 0
StopsAt [] [] (Ended whole) = whole ≡ true
StopsAt [] (b ∷ name) (Ended whole) = whole ≡ false
StopsAt (c ∷ pattern) name (Ended whole) = (whole ≡ false) × ¬ (c ≡ 42)
StopsAt [] name (Star after rest) = ⊥
StopsAt (c ∷ pattern) name (Star after rest) =
    (c ≡ 42) × (after.now ≡ pattern) × (rest.now ≡ name)
