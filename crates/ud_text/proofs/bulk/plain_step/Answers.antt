-- Up to the first significant byte.
use Rattle.ud_text.proofs.lemmas.bulk.StepLemmas.{plain_step_read}
use Rattle.ud_text.proofs.bulk.plain_step.Goals as goal

pub returns-clause-read : goal.returns-clause-read
returns-clause-read c = λ start r. plain_step_read r c.next_significant-at.result.0 c.next_significant-at.ensures.value
