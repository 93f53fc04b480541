-- By looking back.
use Rattle.ud_text.specs.bulk.BulkStates.{code_state}
use Rattle.ud_text.proofs.lemmas.bulk.ProgressLemmas.{passed_of}
use Rattle.ud_text.proofs.lemmas.bulk.StepLemmas.{block_begun}
use Rattle.ud_text.proofs.bulk.block_step.Goals as goal

pub returns-in-Ok-clause-read : goal.returns-in-Ok-clause-read
returns-in-Ok-clause-read c = λ start r.
    c.in-Ok.ensures.read start (block_begun r c.is_line_white_after-white.result c.is_line_white_after-white.ensures c.requires.some c.requires.first)

pub returns-in-Err-clause-read : goal.returns-in-Err-clause-read
returns-in-Err-clause-read c = λ start r.
    c.in-Err.ensures.read start (block_begun r c.is_line_white_after-white.result c.is_line_white_after-white.ensures c.requires.some c.requires.first)

pub returns-in-Err-2-clause-read : goal.returns-in-Err-2-clause-read
returns-in-Err-2-clause-read c = λ start r. passed_of (c.last_line.ensures.read start (code_state r.now_white) r.so_far)
