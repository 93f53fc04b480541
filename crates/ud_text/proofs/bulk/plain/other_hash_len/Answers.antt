-- A word that is no keyword, or a line that isn't white.
use Rattle.std.proofs.Common.{arith}
use Rattle.std.proofs.lemmas.List.{take_rest}
use Rattle.ud_text.proofs.lemmas.bulk.HashLemmas.{before_word_none, black_none}
use Rattle.ud_text.proofs.bulk.plain.other_hash_len.Goals as goal

pub returns-in-Some-clause-other : goal.returns-in-Some-clause-other
returns-in-Some-clause-other c = grind (arith, take_rest, before_word_none)

pub returns-clause-other : goal.returns-clause-other
returns-clause-other c = grind (arith, black_none)
