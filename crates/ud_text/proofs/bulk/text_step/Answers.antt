-- The lexeme is read; without one, the lines before the last one that begins are skipped.
use Rattle.ud_text.specs.bulk.BulkStates.{code_state}
use Rattle.ud_text.proofs.lemmas.bulk.StepLemmas.{text_step_read}
use Rattle.ud_text.proofs.lemmas.bulk.ProgressLemmas.{passed_of}
use Rattle.ud_text.proofs.bulk.text_step.Goals as goal

pub returns-in-None-clause-read : goal.returns-in-None-clause-read
returns-in-None-clause-read c = λ start r. passed_of (c.last_line.ensures.read start (code_state r.now_white) r.so_far)

pub returns-in-Some-clause-read : goal.returns-in-Some-clause-read
returns-in-Some-clause-read c = λ start r. text_step_read r c.in-Some.count c.in-Some.ensures.bound.1 c.in-Some.ensures.read
