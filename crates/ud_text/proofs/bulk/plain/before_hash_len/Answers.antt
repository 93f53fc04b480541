use Rattle.std.proofs.Common.{length}
use Rattle.ud_text.proofs.lemmas.bulk.HashLemmas.{no_hash_front}
use Rattle.ud_text.proofs.bulk.plain.before_hash_len.Goals as goal

pub returns-in-Some-clause-plain : goal.returns-in-Some-clause-plain
returns-in-Some-clause-plain c = no_hash_front c.args.bytes.now c.in-Some.at c.in-Some.ensures.0.before

pub returns-in-None-clause-plain : goal.returns-in-None-clause-plain
returns-in-None-clause-plain c = no_hash_front c.args.bytes.now (length c.args.bytes.now) c.in-None.ensures
