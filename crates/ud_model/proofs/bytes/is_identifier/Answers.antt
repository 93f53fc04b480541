use Rattle.std.proofs.Common.{rules}
use Rattle.ud_model.proofs.text.ByteLemmas.{is_identifier-first}
use Rattle.ud_model.proofs.bytes.is_identifier.Goals as goal

pub returns-then-not-is_digit : goal.returns-then-not-is_digit
returns-then-not-is_digit c = cc (c.are_word_bytes.ensures, is_identifier-first c.args.text.now c.in-Some.first.now (search rules) (search rules))
