-- By the folded text, or the text as it is.
use Rattle.std.proofs.Common.{subst}
use Rattle.ud_replace.specs.MadeOutcomes.{IsFoldedBy, has_marks}
use Rattle.ud_replace.specs.TextOutcomes.{StaysUnfolded, as_read, over_memory}
use Rattle.ud_replace.proofs.TextLemmas.{fails_as, lift, lift_fails, spared_unfolded}
use Rattle.ud_replace.proofs.outcome.unsqueezed.Goals as goal
use Rattle.ud_replace.proofs.outcome.unsqueezed.Goals.{then-not-spared+in_ok-outcome+in-None, else-not-spared}

pub returns-in_err-outcome : goal.returns-in_err-outcome
returns-in_err-outcome c = λ o p. fails_as _ c.from_residual.result c.from_residual.ensures.1 (rw (c.in_err-outcome.ensures o p) over_memory)

pub returns-in-Some : goal.returns-in-Some
returns-in-Some c = λ o p. subst (λ r. IsFoldedBy o c.args.text.now (has_marks c.args.plan.now) r) c.in-Some.is (c.in_ok-outcome.ensures o p)

pub returns-in_err-outcome-2 : goal.returns-in_err-outcome-2
returns-in_err-outcome-2 c = λ o p.
    let stays : StaysUnfolded o c.args.text.now = elim c.if-not-spared.branch [
      | then-not-spared+in_ok-outcome+in-None w ↦ subst (λ r. IsFoldedBy o c.args.text.now (has_marks c.args.plan.now) r) w.in-None.is (w.in_ok-outcome.ensures o p)
      | else-not-spared w ↦ spared_unfolded o c.args.text.now (c.requires.spared w.if-not-spared.false o p)
    ] in
    fails_as _ c.from_residual-in_err-outcome-2.result c.from_residual-in_err-outcome-2.ensures.1 (lift_fails (λ r ms some h. as_read stays h) (c.in_err-outcome-2.ensures o p))

pub returns : goal.returns
returns c = λ o p.
    let stays : StaysUnfolded o c.args.text.now = elim c.if-not-spared.branch [
      | then-not-spared+in_ok-outcome+in-None w ↦ subst (λ r. IsFoldedBy o c.args.text.now (has_marks c.args.plan.now) r) w.in-None.is (w.in_ok-outcome.ensures o p)
      | else-not-spared w ↦ spared_unfolded o c.args.text.now (c.requires.spared w.if-not-spared.false o p)
    ] in
    lift o (λ r ms h. as_read stays h) (c.in_ok-outcome-2.ensures o p)
