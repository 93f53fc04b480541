-- By the lines of each text between.
use Rattle.ud_laws.specs.output.LogicalProcessing.{over_logical_lines}
use Rattle.ud_laws.proofs.output.ProcessedOnce.{once}
use Rattle.ud_laws.proofs.output.RewrittenAnswers.{both_nodes, rewritten_processed}
use Rattle.ud_laws.proofs.residual_laws.law_answer_rewritten.Goals as goal

pub returns-clause-as_before : goal.returns-clause-as_before
returns-clause-as_before g c = λ o b p m k f s t r.
    rewritten_processed o p g.P.Preprocessing.takes g.P.Preprocessing.enters g.P.Preprocessing.leaves g.P.Preprocessing.decides b m k f s t r

pub returns-clause-only : goal.returns-clause-only
returns-clause-only g c = λ o b p m k f s t u h r q.
    once (over_logical_lines g.P.Preprocessing.takes g.P.Preprocessing.enters g.P.Preprocessing.leaves g.P.Preprocessing.decides) k.after h q
    (rewritten_processed o p g.P.Preprocessing.takes g.P.Preprocessing.enters g.P.Preprocessing.leaves g.P.Preprocessing.decides b m k f s t r)

pub returns-clause-nodes : goal.returns-clause-nodes
returns-clause-nodes g c = λ o b p input final r. both_nodes o p r
