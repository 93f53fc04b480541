-- By the lemma over lines of any type.
use Rattle.ud_model.proofs.sections.Unique.{unique}
use Rattle.ud_model.proofs.laws.law_one_tree.Goals as goal

pub returns : goal.returns
returns c = λ t u e. unique t u e
