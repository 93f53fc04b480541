-- By the outcome of the run.
use Rattle.std.proofs.Common.{ap, arith}
use Rattle.ud_replace.proofs.TextLemmas.{fails_unpruned}
use Rattle.ud_replace.proofs.outcome.run_over.Goals as goal

pub returns-in-Ok : goal.returns-in-Ok
returns-in-Ok c = λ o s t.
    (grind (arith, (ap (λ b. b.now) c.new-reader.ensures.inner), c.in-Ok.ensures.error_matches, (c.in-Ok.ensures.finished o s t).ran))

pub returns-in-Err : goal.returns-in-Err
returns-in-Err c = λ o s t.
    rw c.error_of.ensures (fails_unpruned o _ c.args.text.now _ _ _ _ c.in-Err.fault (ap (λ b. b.now) c.new-reader.ensures.inner) c.in-Err.ensures.error_matches (c.in-Err.ensures.finished o s t).ran)
