-- Line by line the output is read as the rest of the input.
use Rattle.ud_model.proofs.output.RereadLaws.{reread, pruned_left, after_undecided, runs_output}
use Rattle.ud_model.proofs.output_laws.law_reread.Goals as goal

pub returns-clause-tree : goal.returns-clause-tree
returns-clause-tree c = λ o input r k ns a. let z = reread o k.plain input k.runs k.faultless ns a in (z.tree, z.is_tree)

pub returns-clause-left : goal.returns-clause-left
returns-clause-left c = λ k ps h. pruned_left k ps h

pub returns-clause-undecided : goal.returns-clause-undecided
returns-clause-undecided c = λ k. after_undecided k

pub returns-clause-again : goal.returns-clause-again
returns-clause-again c = λ o input r k f. runs_output o k.plain input k.runs k.faultless f
