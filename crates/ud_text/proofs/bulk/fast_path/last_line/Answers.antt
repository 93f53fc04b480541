-- By the last newline, or by the base.
use Rattle.std.proofs.Common.{arith}
use Rattle.ud_text.proofs.lemmas.bulk.ReachLemmas.{reach_line}
use Rattle.ud_text.proofs.bulk.fast_path.last_line.Goals as goal

pub returns-then-begin-gt0-clause-read : goal.returns-then-begin-gt0-clause-read
returns-then-begin-gt0-clause-read c = λ start r. reach_line r c.last_line_start-begin.result c.last_line_start-begin.ensures (omega (arith, c.if-begin-gt0.true))
