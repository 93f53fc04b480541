-- The lines before the fault are the first lines of every longer text.
use Rattle.ud_model.proofs.sections.FaultStays.{fault_stays}
use Rattle.ud_model.proofs.laws.law_fault_stays.Goals as goal

pub returns : goal.returns
returns c = fault_stays
