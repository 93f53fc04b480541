-- Only blank lines go, and none without a gap.
use Rattle.ud_passes.proofs.SqueezedFlags.{stays_same}
use Rattle.ud_tree_laws.proofs.SqueezedReadings.{all_read}
use Rattle.ud_tree_laws.proofs.law_squeezed_lines.Goals as goal

pub returns-clause-lines : goal.returns-clause-lines
returns-clause-lines c = λ ms output. all_read ms output

pub returns-clause-same : goal.returns-clause-same
returns-clause-same c = λ ms output h. stays_same ms output h
