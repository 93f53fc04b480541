use Rattle.std.proofs.Common.{◌∙◌, ap, length}
use Rattle.ud_sections.proofs.lemmas.sections.ActionLemmas.{depth_levels}
use Rattle.ud_sections.proofs.sections.machine.Machine.depth.Goals as goal

pub returns-clause-value : goal.returns-clause-value
returns-clause-value c = λ o xs t h. c.len.ensures.value ∙ ap length h.sections ∙ depth_levels _ _ t
