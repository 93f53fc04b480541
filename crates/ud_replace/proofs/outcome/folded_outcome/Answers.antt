-- By the folded text, if it goes back.
use Rattle.std.proofs.Common.{ℕ, List, ap, sym, ◌∙◌, subst}
use Rattle.ud_replace.specs.TextOutcomes.{may_fold}
use Rattle.ud_replace.specs.MadeOutcomes.{FoldsInto, RestoresTo}
use Rattle.ud_replace.proofs.TextLemmas.{fails_only, faulty_unfolded, restores}
use Rattle.ud_replace.proofs.outcome.folded_outcome.Goals as goal

pub returns-in_err-lines : goal.returns-in_err-lines
returns-in_err-lines c = λ o p. fails_only _ _ c.from_residual.result c.from_residual.ensures.1

pub returns-in_err-restored-in-Ok : goal.returns-in_err-restored-in-Ok
returns-in_err-restored-in-Ok c = λ o p. fails_only _ _ c.from_residual-in_err-restored-in-Ok.result c.from_residual-in_err-restored-in-Ok.ensures.1

pub returns-in-Ok : goal.returns-in-Ok
returns-in-Ok c = λ o p.
    let f = subst (FoldsInto c.args.text.now) c.in-Some.is c.in_ok-lines.ensures in
    restores o c.args.text.now c.as_slice.result.now (p.prunes ∙ c.if-not-plan.false)
    (ap may_fold (p.settings ∙ sym c.settings.ensures) ∙ sym c.may_fold.ensures ∙ c.if-not-may_fold.false) c.in_ok-restored-in-Ok.restored
    (c.as_slice.ensures.value ∙ f.0) f.1 (c.in-Ok.ensures o p)
    (subst (λ (x : List ℕ). RestoresTo x c.in-Ok.outcome c.in_ok-restored-in-Ok.restored) (c.as_slice-in-Ok.ensures.value ∙ sym c.as_slice.ensures.value) c.in_ok-restored-in-Ok.ensures)

pub returns-in-Err-Text : goal.returns-in-Err-Text
returns-in-Err-Text c = λ o p.
    let f = subst (FoldsInto c.args.text.now) c.in-Some.is c.in_ok-lines.ensures in
    faulty_unfolded o c.args.text.now c.as_slice.result.now (p.prunes ∙ c.if-not-plan.false)
    (ap may_fold (p.settings ∙ sym c.settings.ensures) ∙ sym c.may_fold.ensures ∙ c.if-not-may_fold.false)
    (c.as_slice.ensures.value ∙ f.0) f.1 _ c.in-Err-Text.field-0-is (c.in-Err-Text.ensures o p)
