-- A symbol resolves to the same text by both tables.
use Rattle.ud_model.proofs.conditions.ConditionLemmas.{condition_of_same}
use Rattle.ud_model.proofs.laws.law_condition_by_entries.Goals as goal

pub returns : goal.returns
returns c = condition_of_same
