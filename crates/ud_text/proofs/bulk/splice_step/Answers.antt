-- A splice on a logical line that isn't white.
use Rattle.ud_text.specs.bulk.BulkStates.{code_state}
use Rattle.ud_text.proofs.lemmas.bulk.ProgressLemmas.{passed_of}
use Rattle.ud_text.proofs.lemmas.bulk.StepLemmas.{splice_step_read}
use Rattle.ud_text.proofs.bulk.splice_step.Goals as goal

pub returns-then-is_line_white_after-clause-read : goal.returns-then-is_line_white_after-clause-read
returns-then-is_line_white_after-clause-read c = λ start r. passed_of (c.last_line.ensures.read start (code_state r.now_white) r.so_far)

pub returns-clause-read : goal.returns-clause-read
returns-clause-read c = λ start r. splice_step_read r c.if-is_line_white_after.ensures c.args.count c.requires.some.1 c.requires.splice
