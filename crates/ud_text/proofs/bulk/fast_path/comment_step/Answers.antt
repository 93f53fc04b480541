-- The comment is read.
use Rattle.ud_text.proofs.lemmas.bulk.ReachLemmas.{reach_comment}
use Rattle.ud_text.proofs.bulk.fast_path.comment_step.Goals as goal

pub returns-clause-read : goal.returns-clause-read
returns-clause-read c = λ start r. reach_comment r c.in_ok-count.count c.in_ok-count.ensures.bound.0 c.in_ok-count.ensures.bound.1 c.in_ok-count.ensures.read c.in_ok-count.ensures.ends
