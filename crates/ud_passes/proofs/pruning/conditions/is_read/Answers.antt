-- By the first byte and by the tokens.
use Rattle.ud_cond.proofs.lemmas.expressions.KeptLemmas.{same_length}
use Rattle.std.proofs.Common.{arith}
use Rattle.ud_model.proofs.conditions.KeptTokens.{kept_are, choose}
use Rattle.ud_passes.proofs.pruning.conditions.is_read.Goals as goal
use Rattle.ud_cond.proofs.lemmas.NameListLemmas.{tokens-whole}

pub returns-then-not-begins_word : goal.returns-then-not-begins_word
returns-then-not-begins_word c = grind (arith, same_length, choose, tokens-whole, kept_are)
