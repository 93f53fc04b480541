-- A word that is no keyword, or a line that isn't white.
use Rattle.std.proofs.Common.{subst, List, ℕ, take, ◌+◌, ◌≤◌, ◌≡◌, length, true, refl}
use Rattle.std.proofs.lemmas.List.{take_rest}
use Rattle.ud_text.specs.bulk.BulkStates.{is_other_word}
use Rattle.ud_text.specs.bulk.BulkLexemes.{NoSignificant}
use Rattle.ud_text.proofs.lemmas.bulk.ReachLemmas.{reach_sign, reach_sign_alone}
use Rattle.ud_text.proofs.bulk.fast_path.hash_step.Goals as goal

pub returns-in-Some-clause-read : goal.returns-in-Some-clause-read
returns-in-Some-clause-read c = λ start r.
    let rest = take_rest c.args.lines.now (c.args.p.at + 1) in
    reach_sign r c.requires.first c.in-Some.count
    (subst (λ (l : List ℕ). c.in-Some.count ≤ length l) rest c.in-Some.ensures.bound)
    (subst (λ (l : List ℕ). NoSignificant (take c.in-Some.count l)) rest c.in-Some.ensures.plain)
    (subst (λ (l : List ℕ). is_other_word (take c.in-Some.count l) ≡ true) rest c.in-Some.ensures.other)

pub returns-clause-read : goal.returns-clause-read
returns-clause-read c = λ start r. reach_sign_alone r c.requires.first (c.if-may_be_white.ensures.black start r refl)
