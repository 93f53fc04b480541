-- By the star pair.
use Rattle.ud_text.proofs.lemmas.bulk.ProgressLemmas.{passed_of}
use Rattle.ud_text.proofs.lemmas.bulk.BlockLemmas.{block_closed}
use Rattle.ud_text.proofs.bulk.skip_to_block_end.Goals as goal

pub returns-clause-read : goal.returns-clause-read
returns-clause-read c = λ start r. passed_of (c.last_line_in_block-last.ensures.read start r).1

pub returns-then-closes-clause-read : goal.returns-then-closes-clause-read
returns-then-closes-clause-read c = λ start r.
    let inside = c.last_line_in_block-last.ensures.read start r in
    block_closed c.args.at c.find_star_pair-pair.result.0 inside.0 c.args.white c.find_star_pair-pair.ensures.order.0 inside.1
    (c.find_star_pair-pair.ensures.closes c.if-closes.true)
