use Rattle.std.proofs.lemmas.Int.{to_z_pos}
use Rattle.std.proofs.Common.{arith}
use Rattle.ud_cond.proofs.lemmas.expressions.DigitLemmas.{one-digit, sole}
use Rattle.ud_cond.proofs.expressions.constants.single_digit_value.Goals as goal
use Rattle.std.proofs.lemmas.Grind.{common_steps}

pub returns-else-not-is_ascii_digit : goal.returns-else-not-is_ascii_digit
returns-else-not-is_ascii_digit c = grind (arith, common_steps, sole, one-digit, to_z_pos)
