-- By the invariant.
use Rattle.ud_text.specs.bulk.BulkStates.{code_state}
use Rattle.ud_text.proofs.lemmas.bulk.ProgressLemmas.{passed_of}
use Rattle.ud_text.proofs.bulk.skip_text_from.Goals as goal

pub returns-clause-skipped : goal.returns-clause-skipped
returns-clause-skipped c = λ start r.
    passed_of (c.last_line.ensures.read start (code_state (c.loop-p.invariant.read start r).now_white) (c.loop-p.invariant.read start r).so_far)
