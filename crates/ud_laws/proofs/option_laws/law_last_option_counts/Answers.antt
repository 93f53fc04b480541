-- Each condition is decided alike, so each line is read alike.
use Rattle.ud_laws.proofs.output.SharedLineLemmas.{same_names}
use Rattle.ud_laws.proofs.option_laws.law_last_option_counts.Goals as goal

pub returns : goal.returns
returns c = λ o p input r same every run. same_names o p input same every run
