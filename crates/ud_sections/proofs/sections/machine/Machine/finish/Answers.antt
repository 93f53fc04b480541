use Rattle.std.proofs.Common.{◌∙◌, ap}
use Rattle.ud_sections.specs.sections.MachineState.{end_fault_of}
use Rattle.ud_sections.proofs.lemmas.sections.MachineLemmas.{ends_well}
use Rattle.ud_sections.proofs.sections.machine.Machine.finish.Goals as goal

pub returns-clause-value : goal.returns-clause-value
returns-clause-value c = λ o xs t h none e. ap end_fault_of c.end_fault.ensures ∙ ends_well c.args.self.now o xs t h c.args.in_comment e
