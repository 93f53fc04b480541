-- Lines are as long as before, or the text is shorter.
use Rattle.ud_model.proofs.output.Changed.{changed}
use Rattle.ud_model.proofs.output_laws.law_changed.Goals as goal

pub returns : goal.returns
returns c = λ o p input r. changed o p.unnumbered p.unlisted input
