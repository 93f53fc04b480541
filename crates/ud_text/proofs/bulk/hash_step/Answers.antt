-- A word that is no keyword, or a line that isn't white.
use Rattle.std.proofs.Common.{arith}
use Rattle.std.proofs.lemmas.List.{take_rest}
use Rattle.ud_text.specs.bulk.BulkStates.{code_state}
use Rattle.ud_text.proofs.lemmas.bulk.ProgressLemmas.{passed_of}
use Rattle.ud_text.proofs.lemmas.bulk.StepLemmas.{sign_step_read, sign_alone_read}
use Rattle.ud_text.proofs.bulk.hash_step.Goals as goal

pub returns-then-is_line_white_after-clause-read : goal.returns-then-is_line_white_after-clause-read
returns-then-is_line_white_after-clause-read c = λ start r. passed_of (c.last_line.ensures.read start (code_state r.now_white) r.so_far)

pub returns-clause-read : goal.returns-clause-read
returns-clause-read c = λ start r. sign_alone_read r c.requires.first c.if-is_line_white_after.ensures

pub returns-in-Some-clause-read : goal.returns-in-Some-clause-read
returns-in-Some-clause-read c = grind (arith, take_rest, sign_step_read)
