use Rattle.ud_passes.proofs.FitLemmas.{fitting}
use Rattle.ud_passes.proofs.pruning.laws.law_pruned_text.Goals as goal

pub returns : goal.returns
returns c = λ table rules bytes h. fitting table rules bytes h
