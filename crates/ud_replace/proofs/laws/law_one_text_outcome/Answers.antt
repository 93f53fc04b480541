use Rattle.ud_replace.proofs.TextLemmas.{one_outcome}
use Rattle.ud_replace.proofs.laws.law_one_text_outcome.Goals as goal

pub returns : goal.returns
returns c = λ o text r s ms ns h k. one_outcome o text h k
