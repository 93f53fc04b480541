use Rattle.std.proofs.Common.{arith}
use Rattle.ud_text.proofs.lemmas.lines.NearNewlines.{near_found}
use Rattle.ud_text.proofs.lines.find_newline_near.Goals as goal

pub returns-then-at-lt-NEAR_WINDOW_BYTES : goal.returns-then-at-lt-NEAR_WINDOW_BYTES
returns-then-at-lt-NEAR_WINDOW_BYTES c = near_found 32 c.args.chunk.now c.find_in_lanes-at.result c.find_in_lanes-at.ensures.value c.if-at-lt-NEAR_WINDOW_BYTES.true (omega arith)
