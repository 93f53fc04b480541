-- By the lemmas over lines of any type.
use Rattle.std.proofs.Common.{true}
use Rattle.ud_model.proofs.sections.Stays.{marks_so_far_same, marks_stay}
use Rattle.ud_model.proofs.laws.law_marks_stay.Goals as goal

pub returns-clause-table : goal.returns-clause-table
returns-clause-table c = λ t. marks_so_far_same true t

pub returns-clause-stays : goal.returns-clause-stays
returns-clause-stays c = λ t u more e. marks_stay t u more e
