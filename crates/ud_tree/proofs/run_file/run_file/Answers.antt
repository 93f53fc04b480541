-- By what was read, and by the outcome of it.
use Rattle.std.proofs.Common.{ap}
use Rattle.std.proofs.lemmas.Result.{err_from_is_err_and}
use Rattle.ud_tree.specs.Shown.{not_read, fails_over}
use Rattle.ud_tree.proofs.run_file.run_file.Goals as goal

pub returns-in_err-stat-clause-ran : goal.returns-in_err-stat-clause-ran
returns-in_err-stat-clause-ran g c = λ o p.
    let e = err_from_is_err_and c.from_residual.result c.from_residual.ensures.1 in
    rw (e.1, e.2) (not_read c.in_err-stat.ensures.read)

pub returns-in_err-differs-clause-reads : goal.returns-in_err-differs-clause-reads
returns-in_err-differs-clause-reads g c = rw (← (ap (λ v. v.items) c.in_err-differs.ensures.text)) at c.in_ok-stat.ensures.reads

pub returns-in_err-differs-clause-ran : goal.returns-in_err-differs-clause-ran
returns-in_err-differs-clause-ran g c = λ o p.
    let e = err_from_is_err_and c.from_residual-in_err-differs.result c.from_residual-in_err-differs.ensures.1 in
    rw (e.1, e.2) (fails_over _ _ (rw (← (ap (λ v. v.items) c.in_err-differs.ensures.text)) at c.in_ok-stat.ensures.read) (c.in_err-differs.ensures.ran o p))

pub returns-clause-reads : goal.returns-clause-reads
returns-clause-reads g c = rw (← (ap (λ v. v.items) c.in_ok-differs.ensures.text)) at c.in_ok-stat.ensures.reads
