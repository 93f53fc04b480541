-- By the byte before the white space.
use Rattle.ud_text.proofs.lemmas.bulk.StepLemmas.{shows_found, all_before}
use Rattle.ud_text.proofs.bulk.hash_sign.is_line_white_after.Goals as goal
use Rattle.std.proofs.Common.{arith}

pub returns-then-at-eq0 : goal.returns-then-at-eq0
returns-then-at-eq0 c = all_before c.args.bytes.now c.trailing_white_start-at.result c.args.begins c.if-at-eq0.true c.trailing_white_start-at.ensures.white

pub returns : goal.returns
returns c = grind (arith, shows_found)
