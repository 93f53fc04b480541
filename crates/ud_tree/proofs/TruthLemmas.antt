-- TruthLemmas: answers are true if what the system answered is true, since there is evidence for each.
use Rattle.std.proofs.Common.{List, [], ◌∷◌, Some, None, Ok, Err, arith}
use Rattle.std.proofs.Math.Logic.{∥∥₁_elim}
use Rattle.std.proofs.lemmas.List.Elements.{All-tail}
use Rattle.std.specs.Coded.{Coded-set, Unit-prop, coded_list, coded_option, coded_ℕ, ×_prop}
use Rattle.std.specs.List.{All}
use Rattle.ud_replace.specs.Calls.{Call, was_read, asked, made, appended, given, synced, looked}
use Rattle.ud_replace.specs.Calls.{renamed, overwrote, removed, sampled, walked}
use Rattle.ud_replace.specs.Moments.{Files, content, AreTrue, IsTrueOf}
use Rattle.ud_tree.specs.TreeMoments.{AnswersAreTrue}

-- There is at most one proof that a call's answer is true.
truth_prop : (c : Call) (f : Files) → IsProp (IsTrueOf c f)
truth_prop (was_read m text (Some stat)) f = Coded-set (coded_option (coded_list coded_ℕ)) _ _
truth_prop (was_read m text None) f = Unit-prop
truth_prop (asked m may) f = Unit-prop
truth_prop (made m (Ok u)) f = Coded-set (coded_option (coded_list coded_ℕ)) _ _
truth_prop (made m (Err e)) f = Unit-prop
truth_prop (appended m rest taken) f = Unit-prop
truth_prop (given m like ok) f = Unit-prop
truth_prop (synced m ok) f = Unit-prop
truth_prop (looked m seen) f = Unit-prop
truth_prop (renamed from to ok) f = Unit-prop
truth_prop (overwrote m text ok) f = Unit-prop
truth_prop (removed m gone) f = Unit-prop
truth_prop (sampled m text answer) f = Unit-prop
truth_prop (walked w) f = Unit-prop

truths_prop : (first : Files) (calls : List Call) → IsProp (AreTrue first calls)
truths_prop first [] = Unit-prop
truths_prop first (c ∷ earlier) = ×_prop (truth_prop c (content first earlier)) (truths_prop first earlier)

each_true : (evident : Call → Type 0) (first : Files) (calls : List Call) → All evident calls → AnswersAreTrue evident first calls → AreTrue first calls
each_true evident first [] all answered = tt
each_true evident first (c ∷ earlier) all (answer, before) =
    (answer (all 0 c (omega arith)), each_true evident first earlier (All-tail evident c earlier all) before)

-- The answers are true, if what the system answered is true and there is evidence for each.
pub evidently_true : (evident : Call → Type 0) (first : Files) (calls : List Call) → ∥ All evident calls ∥₁ → AnswersAreTrue evident first calls → AreTrue first calls
evidently_true evident first calls all answered = ∥∥₁_elim all (truths_prop first calls) (λ each. each_true evident first calls each answered)
