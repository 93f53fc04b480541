-- By the last newline.
use Rattle.ud_text.proofs.lemmas.bulk.StepLemmas.{held_same, held_later}
use Rattle.std.proofs.Math.Nat.{pos_of_ne-zero}
use Rattle.ud_text.proofs.bulk.last_line_in_block.Goals as goal

pub returns-then-begin-eq0-clause-read : goal.returns-then-begin-eq0-clause-read
returns-then-begin-eq0-clause-read c = λ start r.
    held_same r c.args.count c.requires.within c.requires.inside c.last_line_start-begin.result c.last_line_start-begin.ensures c.if-begin-eq0.true

pub returns-else-begin-eq0-clause-read : goal.returns-else-begin-eq0-clause-read
returns-else-begin-eq0-clause-read c = λ start r.
    held_later r c.args.count c.requires.within c.requires.inside c.last_line_start-begin.result c.last_line_start-begin.ensures (pos_of_ne-zero c.if-begin-eq0.false)
