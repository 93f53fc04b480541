-- The output has the pruned tree.
use Rattle.ud_model.proofs.output.RereadLaws.{selected_again, truths_kept}
use Rattle.ud_model.proofs.output_laws.law_selected.Goals as goal

pub returns-clause-truths : goal.returns-clause-truths
returns-clause-truths c = λ k w. truths_kept k w

pub returns-clause-same : goal.returns-clause-same
returns-clause-same c = λ k w v a t. selected_again k w v a t
