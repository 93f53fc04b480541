-- Stages: how far a section has come whose groups around are all kept, by the conditions of its
-- groups so far.
use Rattle.std.proofs.Common.{◌≡◌, List, [], ◌∷◌, ◌++◌, Bool, false, not, if◌then◌else◌, arith}
use Rattle.std.proofs.Math.Bool.{and-false, and-true}
use Rattle.ud_model.specs.declared.cond.Cond.{Cond}
use Rattle.ud_model.specs.declared.cond.Cond.TheVariants.{Yes, No, Unknown}
use Rattle.ud_model.specs.declared.verdict.Verdict.{Verdict}
use Rattle.ud_model.specs.declared.verdict.Verdict.TheVariants.{Keep, Remove, ToEndif}
use Rattle.ud_model.specs.sections.Pruning.{Part, any_true, ends_with_first_true, is_false, is_kept, first_kept_verdict, later_verdict, endif_verdict}
use Rattle.ud_model.specs.aids.SoFar.{verdict_so_far}

pub data Stage : Type 0 where
  -- No group is kept so far.
  leading : Stage
  -- The first kept group is true.
  given : Stage
  -- Some group is kept, and none is true.
  going : Stage
  -- The last group is the first true one, and some group before it is kept.
  at_true : Stage
  -- An opener has come after that one.
  past : Stage

-- The stage after further groups, if some group before them is kept and none is true.
abbrev pub stage_inside : List Cond → Stage
stage_inside [] = going
stage_inside (Yes ∷ []) = at_true
stage_inside (Yes ∷ c ∷ cs) = past
stage_inside (_ ∷ cs) = stage_inside cs

-- The stage after groups with these conditions.
abbrev pub stage : List Cond → Stage
stage [] = leading
stage (Yes ∷ cs) = given
stage (No ∷ cs) = stage cs
stage (Unknown ∷ cs) = stage_inside cs

-- The stage with one more group.
abbrev pub next_stage : Stage → Cond → Stage
next_stage leading Yes = given
next_stage leading No = leading
next_stage given c = given
next_stage going Yes = at_true
next_stage at_true c = past
next_stage past c = past
next_stage _ _ = going

-- The verdict of an opener at this stage.
abbrev pub verdict_at : Stage → Part → Cond → Verdict
verdict_at leading part Unknown = first_kept_verdict part
verdict_at going part c = later_verdict part c
verdict_at at_true part c = ToEndif
verdict_at _ _ _ = Remove

-- The group that is opened at this stage is kept.
abbrev pub kept_at : Stage → Cond → Bool
kept_at leading c = not (is_false c)
kept_at going c = not (is_false c)
kept_at _ _ = false

-- The verdict of the `#endif` at this stage.
abbrev pub endif_at : Stage → Verdict
endif_at going = Keep
endif_at at_true = Keep
endif_at _ = Remove

inside_verdict : (cs : List Cond) (part : Part) (c : Cond) →
    (if not (any_true cs) then later_verdict part c else if ends_with_first_true cs then ToEndif else Remove) ≡ verdict_at (stage_inside cs) part c
inside_verdict (No ∷ cs) part c = inside_verdict cs part c
inside_verdict (Unknown ∷ cs) part c = inside_verdict cs part c
inside_verdict cs part c = grind arith

-- The verdict of an opener is that of its stage.
pub verdict_by_stage : (cs : List Cond) (part : Part) (c : Cond) → verdict_so_far cs part c ≡ verdict_at (stage cs) part c
verdict_by_stage (No ∷ cs) part c = verdict_by_stage cs part c
verdict_by_stage cs part c = grind (arith, inside_verdict)

inside_kept : (cs : List Cond) (c : Cond) → is_kept cs c ≡ kept_at (stage_inside cs) c
inside_kept (No ∷ cs) c = inside_kept cs c
inside_kept (Unknown ∷ cs) c = inside_kept cs c
inside_kept cs c = grind (arith, and-true, and-false)

-- A group is kept if it is so by its stage.
pub kept_by_stage : (cs : List Cond) (c : Cond) → is_kept cs c ≡ kept_at (stage cs) c
kept_by_stage (No ∷ cs) c = kept_by_stage cs c
kept_by_stage cs c = grind (arith, and-true, and-false, inside_kept)

inside_next : (cs : List Cond) (c : Cond) → stage_inside (cs ++ c ∷ []) ≡ next_stage (stage_inside cs) c
inside_next (No ∷ cs) c = inside_next cs c
inside_next (Unknown ∷ cs) c = inside_next cs c
inside_next cs c = grind arith

-- One more group leads to the next stage.
pub stage_next : (cs : List Cond) (c : Cond) → stage (cs ++ c ∷ []) ≡ next_stage (stage cs) c
stage_next (No ∷ cs) c = stage_next cs c
stage_next cs c = grind (arith, inside_next)

inside_endif : (cs : List Cond) → (if not (any_true cs) then Keep else if ends_with_first_true cs then Keep else Remove) ≡ endif_at (stage_inside cs)
inside_endif (No ∷ cs) = inside_endif cs
inside_endif (Unknown ∷ cs) = inside_endif cs
inside_endif cs = grind arith

-- The verdict of the `#endif` is that of its stage.
pub endif_by_stage : (cs : List Cond) → endif_verdict cs ≡ endif_at (stage cs)
endif_by_stage (No ∷ cs) = endif_by_stage cs
endif_by_stage cs = grind (arith, inside_endif)
