use Rattle.std.proofs.Common.{refl, sym}
use Rattle.ud_model.specs.sections.Faults.{no_lines}
use Rattle.ud_sections.proofs.sections.machine.Machine.new.Goals as goal

pub returns-clause-represents : goal.returns-clause-represents
returns-clause-represents c = λ o e. record { settings = sym e; sound = no_lines; sections = c.new.ensures; removed = refl; last = refl }
