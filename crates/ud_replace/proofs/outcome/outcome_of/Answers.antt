-- By the run that writes nothing, or else by the outcome with all blank lines, which is squeezed.
use Rattle.ud_replace.specs.TextOutcomes.{HasMarkedOutcome}
use Rattle.ud_replace.proofs.TextLemmas.{fails_as, fails_memory, fails_whole}
use Rattle.ud_replace.proofs.outcome.outcome_of.Goals as goal

pub returns-in_err-spared : goal.returns-in_err-spared
returns-in_err-spared c = λ o p. fails_memory (HasMarkedOutcome o c.args.text.now) _ c.from_residual.result c.from_residual.ensures.1

pub returns-in_err-lines : goal.returns-in_err-lines
returns-in_err-lines c = λ o p. fails_as _ c.from_residual-in_err-lines.result c.from_residual-in_err-lines.ensures.1 (fails_whole o (c.in_err-lines.ensures o p))

pub returns-in_err-outcome : goal.returns-in_err-outcome
returns-in_err-outcome c = λ o p. fails_memory (HasMarkedOutcome o c.args.text.now) _ c.from_residual-in_err-outcome.result c.from_residual-in_err-outcome.ensures.1
