use Rattle.ud_model.specs.sections.Items.{rules_of}
use Rattle.ud_laws.specs.output.Processing.{over_readings}
use Rattle.ud_laws.proofs.output.NamesNumbers.{names_as_c, names_keep}
use Rattle.ud_laws.proofs.output.ProcessedAnswers.{outputs_processed, output_nodes, answer_output}
use Rattle.ud_laws.proofs.output.ProcessedOnce.{once}
use Rattle.ud_laws.proofs.answer_laws.law_answer_processed.Goals as goal

pub returns-clause-as_before : goal.returns-clause-as_before
returns-clause-as_before g c = λ o b p m k f s t r.
    outputs_processed o p g.P.Preprocessing.takes g.P.Preprocessing.enters g.P.Preprocessing.leaves g.P.Preprocessing.decides m.as_c b m.by_numbers k f s t r

pub returns-clause-only : goal.returns-clause-only
returns-clause-only g c = λ o b p m k f s t u h r q.
    once (over_readings g.P.Preprocessing.takes g.P.Preprocessing.enters g.P.Preprocessing.leaves g.P.Preprocessing.decides) k.after h q
    (outputs_processed o p g.P.Preprocessing.takes g.P.Preprocessing.enters g.P.Preprocessing.leaves g.P.Preprocessing.decides m.as_c b m.by_numbers k f s t r)

pub returns-clause-answers : goal.returns-clause-answers
returns-clause-answers g c = λ args input a s. answer_output s.answer s.no_fault

pub returns-clause-nodes : goal.returns-clause-nodes
returns-clause-nodes g c = λ o b p input output h ns i. output_nodes o p h ns i

pub returns-clause-names : goal.returns-clause-names
returns-clause-names g c = λ o b value is_known h. record {
  as_c = names_as_c o.table (rules_of o.settings) value is_known h;
  by_numbers = λ e. names_keep o.table (rules_of o.settings) value is_known h;
}
