use Rattle.ud_replace.proofs.RenameLemmas.{one_rename}
use Rattle.ud_replace.proofs.laws.law_one_rename.Goals as goal

pub returns : goal.returns
returns c = one_rename
