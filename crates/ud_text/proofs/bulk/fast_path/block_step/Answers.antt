-- The comment's end.
use Rattle.ud_text.proofs.lemmas.bulk.ReachLemmas.{reach_block}
use Rattle.ud_text.proofs.bulk.fast_path.block_step.Goals as goal

pub returns-then-closes-clause-read : goal.returns-then-closes-clause-read
returns-then-closes-clause-read c = λ start r.
    reach_block r c.requires.some c.requires.first c.find_star_pair-pair.result.0 c.find_star_pair-pair.ensures.order.0
    c.find_star_pair-pair.ensures.none (c.find_star_pair-pair.ensures.closes c.if-closes.true)
