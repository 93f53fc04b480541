use Rattle.ud_replace.proofs.MomentLemmas.{old_or_new}
use Rattle.ud_replace.proofs.laws.law_old_or_new.Goals as goal

pub returns : goal.returns
returns c = old_or_new
