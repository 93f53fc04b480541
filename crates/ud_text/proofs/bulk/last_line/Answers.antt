-- By the last newline.

use Rattle.ud_text.proofs.lemmas.bulk.ProgressLemmas.{settled}
use Rattle.std.proofs.Math.Nat.{pos_of_ne-zero}
use Rattle.ud_text.proofs.bulk.last_line.Goals as goal

pub returns-else-begin-eq0-clause-read : goal.returns-else-begin-eq0-clause-read
returns-else-begin-eq0-clause-read c = λ start now r. settled r c.last_line_start-begin.result c.last_line_start-begin.ensures (pos_of_ne-zero c.if-begin-eq0.false)
