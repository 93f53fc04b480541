-- The table represents the calls, so the plan represents what the draft does.
use Rattle.std.proofs.Common.{◌∙◌, ap}
use Rattle.std.proofs.lemmas.Result.{err_from_is_err_and}
use Rattle.ud_args.specs.Plans.{PlanState}
use Rattle.ud_args.proofs.PlanLemmas.{IsUsageOf-table}
use Rattle.ud_args.proofs.plans.PlanDraft.into_plan.Goals as goal

pub returns-in_err-from_rows-clause-err : goal.returns-in_err-from_rows-clause-err
returns-in_err-from_rows-clause-err c = λ gs p.
    let e = err_from_is_err_and c.from_residual.result c.from_residual.ensures.1 in
    rw e.1
    (IsUsageOf-table c.args.self gs _ p e.2 (λ none. c.in_err-from_rows.ensures.err (ap (λ (q : PlanState). q.symbols) c.self.view_is ∙ none)))
