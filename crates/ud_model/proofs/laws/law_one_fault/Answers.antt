-- By the lemmas on the order of the cases.
use Rattle.ud_model.proofs.sections.Soundness.{one_fault, sound_or_faulty}
use Rattle.ud_model.proofs.laws.law_one_fault.Goals as goal

pub returns-clause-one : goal.returns-clause-one
returns-clause-one c = one_fault

pub returns-clause-none : goal.returns-clause-none
returns-clause-none c = sound_or_faulty
