-- The line is read, or one lexeme.
use Rattle.ud_text.proofs.lemmas.bulk.ReachLemmas.{reach_comment}
use Rattle.ud_text.proofs.bulk.fast_path.quote_step.Goals as goal

pub returns-in-Ok-clause-read : goal.returns-in-Ok-clause-read
returns-in-Ok-clause-read c = λ start r.
    reach_comment r c.in-Ok.count c.in-Ok.ensures.bound.0 c.in-Ok.ensures.bound.1
    c.in-Ok.ensures.read c.in-Ok.ensures.ends
