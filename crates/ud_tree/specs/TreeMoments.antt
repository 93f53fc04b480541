-- TreeMoments: what the calls of a whole run do to the files.
--
--   TouchesNothing c earlier            a call touches no file
--   TouchesFreshOrNone o c earlier  a call touches no file, except in a replacement
--   OldOrOutput o first old calls       each file has its old bytes, or the output for them
--   LeavesOldOrOutput o first old c earlier   the same after the call `c`
--   AnswersAreTrue evident first calls  what the system answered is true
use Rattle.std.specs.Prelude.{◌≡◌, ◌⊎◌, ℕ, List, [], ◌∷◌, true, Some}
use Rattle.ud_replace.specs.Calls.{Call}
use Rattle.ud_replace.specs.Moments.{Files, content, HasOutput, IsTrueOf, touches}
use Rattle.ud_replace.specs.Moments.{TouchesFreshOnly}
use Rattle.ud_replace.specs.TextOutcomes.{TextOptions}
use Rattle.ud_tree.specs.Paths.{fresh_name}

-- `TouchesNothing c earlier`: the call `c` touches no file.
abbrev pub TouchesNothing : Call → List Call → Type 0
TouchesNothing c earlier = (n : List ℕ) → ¬ (touches c n ≡ true)

-- `TouchesFreshOrNone o c earlier`: the call `c` touches no file. Or it belongs to a replacement:
-- it touches only the new file, or it is the rename.
abbrev pub TouchesFreshOrNone : TextOptions → Call → List Call → Type 0
TouchesFreshOrNone o c earlier =
    TouchesNothing c earlier
    ⊎ ((name : List ℕ) × (start : List Call) ×
    TouchesFreshOnly o name (fresh_name name) start c earlier)

-- `OldOrOutput o first old calls`: each file that existed after `old` has the same bytes after
-- `calls`, or the output for them.
abbrev pub OldOrOutput : TextOptions → Files → List Call → List Call → Type 0
OldOrOutput o first old calls = (n bytes : List ℕ) → content first old n ≡ Some bytes →
    (content first calls n ≡ Some bytes) ⊎ HasOutput o bytes (content first calls n)

-- `LeavesOldOrOutput o first old c earlier`: after the call `c`, each file that existed after `old`
-- has its old bytes, or the output for them.
abbrev pub LeavesOldOrOutput : TextOptions → Files → List Call → Call → List Call → Type 0
LeavesOldOrOutput o first old c earlier = OldOrOutput o first old (c ∷ earlier)

-- `AnswersAreTrue evident first calls`: what the system answered is true. If there is evidence for
-- the answer of one of these calls, the answer is true of the files before the call.
abbrev pub AnswersAreTrue : (Call → Type 0) → Files → List Call → Type 0
AnswersAreTrue evident first [] = Unit {0}
AnswersAreTrue evident first (c ∷ earlier) =
    (evident c → IsTrueOf c (content first earlier)) × AnswersAreTrue evident first earlier
