use Rattle.std.proofs.Common.{◌∙◌, ap}
use Rattle.ud_model.specs.sections.Items.{mode_by}
use Rattle.ud_sections.proofs.lemmas.sections.MachineLemmas.{plain_is}
use Rattle.ud_sections.proofs.sections.machine.Machine.mode.Goals as goal

pub returns : goal.returns
returns c = λ o xs t h. ap (λ p. p.mode) c.text_policy.ensures.value ∙ ap mode_by (plain_is c.args.self.now o xs t h)
